-- `ultra_building::adds::add_platform` meets its contract: the members are those of the record.
use mathlib.Core.Path.{◌∙◌}
use Rattle.ultra_format.specs.Additions.{platform_of, body_given}
use Rattle.ultra_adding.specs.Adding.{added_members}
use Rattle.ultra_building.proofs.GivenRecords.{text_part, number_unwrapped, record_added}
use Rattle.ultra_building.proofs.adds.add_platform.Goals as goal

pub returns : goal.returns
unfolding body_given
returns c =
    let a = c.args in
    let g = a.given in
    c.add_platform.ensures
    ∙ (λ i. added_members a.buf.now c.complete-complete.result (platform_of g.kind g.loader_major g.loader_minor (text_part g.name c.trimmed_length-length.result c.trimmed_length-length.ensures.1 i) g.rsdp ((c.unwrap_or.ensures ∙ number_unwrapped g.higher_half_base) i) ((c.unwrap_or-2.ensures ∙ number_unwrapped g.depth) i) ((c.unwrap_or-3.ensures ∙ number_unwrapped g.dtb) i) ((c.unwrap_or-4.ensures ∙ number_unwrapped g.smbios) i)))
    ∙ record_added a.buf.now g _ c.complete-complete.ensures

-- `ultra_building::adds::add_module` meets its contract: the members are those of the record.
use Prim.Native.Nat.{ℕ}
use mathlib.Core.Path.{ap, ◌∙◌}
use mathlib.Core.Bool.{true}
use mathlib.Core.List.{List}
use Rattle.ultra_format.specs.Additions.{module_of, body_given}
use Rattle.ultra_adding.specs.Adding.{added_members}
use Rattle.ultra_building.proofs.GivenRecords.{text_part}
use Rattle.ultra_building.proofs.adds.add_module.Goals as goal

pub returns : goal.returns
unfolding body_given
returns c =
    let a = c.args in
    let g = a.given in
    c.add_module.ensures ∙ ap (λ (n : List ℕ). added_members a.buf.now true (module_of g.kind n g.address g.size)) (text_part g.name c.trimmed_length-length.result c.trimmed_length-length.ensures.1)

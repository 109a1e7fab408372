-- `attributes::file` meets its contract: the name, then the meta.
use mathlib.Core.Path.{◌∙◌}
use mathlib.Core.List.{[], ◌∷◌}
use native.Mathlib.Omega.{arith}
use Rattle.byte_layout.specs.Stored.{closed}
use Rattle.ultra_format.specs.Decoding.{module_at}
use Rattle.handover_format.specs.WrittenForm.{strings}
use Rattle.export_list.specs.ExportList.{file_entry}
use Rattle.export_list.proofs.BareLaws.{file_strings}
use Rattle.export_strings.proofs.PutLaws.{bytes_front, bytes_rest, bytes_step}
use Rattle.export_strings.proofs.attributes.file.Goals as goal

pub text-meta-requires : goal.text-meta-requires
text-meta-requires c =
    let a = c.args in
    let m = module_at a.buf.now a.at in
    (omega (arith, c.requires.at_in_bounds), bytes_front a.out.now a.to (closed m.name) (closed []) (strings (file_entry m ∷ [])) (file_strings m) c.requires.at_in_bounds_2)

pub empty-requires : goal.empty-requires
empty-requires c =
    let a = c.args in
    let m = module_at a.buf.now a.at in
    bytes_rest a.out.now a.to (closed m.name) (closed []) (strings (file_entry m ∷ [])) (file_strings m) c.requires.at_in_bounds_2 _ _ c.text-meta.ensures c.text-meta.auto.out

pub returns : goal.returns
returns c =
    let a = c.args in
    let m = module_at a.buf.now a.at in
    c.empty.ensures ∙ bytes_step a.out.now a.to (closed m.name) (closed []) (strings (file_entry m ∷ [])) (file_strings m) c.requires.at_in_bounds_2 _ _ c.text-meta.ensures c.text-meta.auto.out

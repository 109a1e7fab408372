-- `store::bare` meets its contract.
use mathlib.Core.Path.{◌≡◌, refl, ap}
use native.Mathlib.Omega.{arith}
use borrow.Author.Rules.{rules}
use Rattle.handover_format.specs.Payloads.{no_record}
use lib.ListN.{length}
use Rattle.export_list.specs.ExportList.{bare}
use Rattle.export_list.proofs.BareLaws.{bare_strings, bare_words}
use Rattle.export_records.proofs.RowLaws.{row_put}
use Rattle.export_records.proofs.store.bare.Goals as goal

pub returns : goal.returns
returns c =
    let a = c.args in
    let d : c.default.result ≡ no_record = search rules in
    row_put a.out.now _ a.m (bare a.tag a.start a.size) _ _ _ (bare_words a.tag a.start a.size c.requires.tag_value a.m.width) refl
    (omega (arith, ap length (bare_strings a.tag a.start a.size c.requires.tag_value))) (rw d at c.row.ensures)

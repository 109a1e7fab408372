-- `store::file` meets its contract: the empty meta has a place of its own, after the name's closing zero.
use mathlib.Core.Path.{◌≡◌, refl}
use native.Mathlib.Omega.{arith}
use borrow.Author.Rules.{rules}
use Rattle.handover_format.specs.Payloads.{no_record}
use Rattle.ultra_format.specs.Decoding.{module_at}
use Rattle.export_list.specs.ExportList.{file_entry}
use Rattle.export_list.proofs.BareLaws.{file_width}
use Rattle.export_records.proofs.EntryWords.{file_words}
use Rattle.export_records.proofs.RowLaws.{row_put}
use Rattle.export_records.proofs.store.file.Goals as goal

pub returns : goal.returns
returns c =
    let a = c.args in
    let d : c.default.result ≡ no_record = search rules in
    let m = module_at a.buf.now a.at in
    let n = c.text_length-name.ensures.0 in
    row_put a.out.now _ a.m (file_entry m) _ _ _ (file_words m a.m.width _ _ _ c.address-start.ensures c.size-size.ensures n) refl (omega (arith, n, file_width m)) (rw d at c.row.ensures)

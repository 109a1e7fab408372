-- `store::line` meets its contract.
use mathlib.Core.Path.{◌≡◌, refl}
use native.Mathlib.Omega.{arith}
use borrow.Author.Rules.{rules}
use Rattle.handover_format.specs.Payloads.{no_record}
use Rattle.byte_layout.specs.Stored.{text_at}
use Rattle.export_list.specs.ExportList.{line_entry}
use Rattle.export_list.proofs.BareLaws.{line_width}
use Rattle.export_records.proofs.EntryWords.{line_words}
use Rattle.export_records.proofs.RowLaws.{row_put}
use Rattle.export_records.proofs.store.line.Goals as goal

pub returns : goal.returns
returns c =
    let a = c.args in
    let d : c.default.result ≡ no_record = search rules in
    let x = text_at a.buf.now a.at a.width in
    row_put a.out.now _ a.m (line_entry x) _ _ _ (line_words x a.m.width) refl (omega (arith, c.text_length-length.ensures.0, line_width x)) (rw d at c.row.ensures)

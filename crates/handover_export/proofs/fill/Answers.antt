-- `fill` meets its contract: head, records and table, each after what is before it.
use mathlib.Core.Path.{◌≡◌, sym, ap, ◌∙◌}
use mathlib.Core.List.{List, ◌++◌}
use native.Mathlib.Omega.{arith}
use lib.ListN.{length}
use Rattle.byte_layout.specs.Stored.{closed}
use Rattle.ultra_format.specs.Decoding.{context_of}
use Rattle.handover_format.specs.Payloads.{record_start}
use Rattle.handover_format.specs.WrittenForm.{strings}
use Rattle.handover_writing.specs.Stores.{put}
use Rattle.handover_writing.proofs.WriteLaws.{assembled}
use Rattle.export_list.specs.ExportList.{between, entries_of, agent_of}
use Rattle.export_list.proofs.SelfLaws.{entries_length, entries_strings}
use Rattle.export_strings.proofs.PutLaws.{bytes_out}
use Rattle.handover_export.proofs.fill.Goals as goal
use Rattle.handover_export.proofs.fill.Goals.{Start}

-- the table of all records is that of those between the first and the last
tables : (s : Start) → let c = context_of s.args.buf.now in
    closed (agent_of c) ++ strings (between c.attributes) ≡ closed (agent_of c) ++ strings (entries_of s.args.load s.args.size c.attributes)
tables s =
    let c = context_of s.args.buf.now in
    ap (λ (l : List _). closed (agent_of c) ++ l) (sym (entries_strings c.attributes s.args.load s.args.size))

pub records-requires : goal.records-requires
records-requires c =
    let a = c.args in
    let p = c.requires.count_value in
    let l = (context_of a.buf.now).attributes in
    record { accepts = c.requires.accepts; buf_in_bounds = (omega (arith, p.1, p.2, c.head.auto.out, entries_length l a.load a.size), omega (arith, p.1, p.3, ap length (tables (goal.at.records-requires c).Start))) }

pub table-requires : goal.table-requires
table-requires c =
    let p = c.requires.count_value in
    record { accepts = c.requires.accepts; buf_in_bounds = omega (arith, p.0, p.1, p.2, ap length (tables (goal.at.table-requires c).Start), c.records.auto.out, c.head.auto.out) }

pub returns : goal.returns
returns c =
    let a = c.args in
    let p = c.requires.count_value in
    let x = context_of a.buf.now in
    assembled a.out.now _ _ _ (agent_of x) (entries_of a.load a.size x.attributes) a.count a.size p.0 p.1 (omega (arith, p.1, p.2)) c.head.ensures c.records.ensures
    (bytes_out _ _ _ (record_start a.count) _ c.table.ensures ∙ ap (put _ (record_start a.count)) (tables (goal.at.returns c).Start))

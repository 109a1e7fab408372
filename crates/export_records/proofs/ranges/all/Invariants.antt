-- `ranges::all` meets its contract. The invariant: the ranges that are left, stored from here on, lead to what all of them lead to.
use mathlib.Core.Path.{◌≡◌}
use Rattle.export_records.specs.Rows.{rows_put, RowsFit}
use Rattle.export_records.proofs.EntryWords.{ranges_left}
use Rattle.export_records.proofs.ranges.all.Given as goal

abbrev pub invariant-loop-i : goal.invariant-loop-i
invariant-loop-i l = record {
  fit : RowsFit l.out l.m (ranges_left l.buf l.first l.n l.i);
  leads : rows_put (l.out, l.m) (ranges_left l.buf l.first l.n l.i) ≡ rows_put (l.initial.out, l.initial.m) (ranges_left l.buf l.first l.n 0);
}

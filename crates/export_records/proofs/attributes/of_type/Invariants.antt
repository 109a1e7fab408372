-- `attributes::of_type` meets its contract. The invariant: `at` is where the attribute to come starts, and the records that are left, stored
-- from here on, lead to what all of them lead to.
use mathlib.Core.Path.{◌≡◌}
use Rattle.ultra_format.specs.Decoding.{start}
use Rattle.export_list.proofs.Gathering.{left}
use Rattle.export_records.specs.Rows.{rows_put, RowsFit}
use Rattle.export_records.proofs.attributes.of_type.Given as goal

abbrev pub invariant-loop : goal.invariant-loop
invariant-loop l = record {
  here : l.at ≡ start l.buf l.counter;
  fit : RowsFit l.out l.m (left l.buf l.kind l.count l.counter);
  leads : rows_put (l.out, l.m) (left l.buf l.kind l.count l.counter) ≡ rows_put (l.initial.out, l.initial.m) (left l.buf l.kind l.count 0);
}

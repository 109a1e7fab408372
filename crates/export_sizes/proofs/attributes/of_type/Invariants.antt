-- `attributes::of_type` meets its contract. The invariant: `at` is where the attribute to come starts, and what is left to gather, added from
-- here on, leads to what all of it leads to.
use Prim.Native.Nat.{◌+◌, ◌*◌, ◌≤◌}
use mathlib.Core.Path.{◌≡◌}
use Rattle.ultra_format.specs.Decoding.{start}
use Rattle.export_list.proofs.Gathering.{left}
use Rattle.export_sizes.specs.Extents.{grown}
use Rattle.export_sizes.proofs.attributes.of_type.Given as goal

abbrev pub invariant-loop : goal.invariant-loop
invariant-loop l = record {
  here : l.at ≡ start l.buf l.counter;
  leads : grown l.m (left l.buf l.kind l.count l.counter) ≡ grown l.initial.m (left l.buf l.kind l.count 0);
  few : l.m.count ≤ l.initial.m.count + 65536 * l.counter;
  narrow : l.m.width ≤ l.initial.m.width + 65536 * l.counter;
}

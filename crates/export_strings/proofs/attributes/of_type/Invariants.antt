-- `attributes::of_type` meets its contract. The invariant: `at` is where the attribute to come starts, and the strings that are left, stored
-- from here on, lead to what all of them lead to.
use Prim.Native.Nat.{◌+◌, ◌≤◌}
use mathlib.Core.Path.{◌≡◌}
use lib.ListN.{length}
use Rattle.ultra_format.specs.Decoding.{start}
use Rattle.handover_format.specs.WrittenForm.{strings}
use Rattle.export_list.proofs.Gathering.{left}
use Rattle.export_strings.specs.StringPuts.{bytes_put}
use Rattle.export_strings.proofs.attributes.of_type.Given as goal

abbrev pub invariant-loop : goal.invariant-loop
invariant-loop l = record {
  here : l.at ≡ start l.buf l.counter;
  room : l.to + length (strings (left l.buf l.kind l.count l.counter)) ≤ length l.out;
  leads : bytes_put (l.out, l.to) (strings (left l.buf l.kind l.count l.counter)) ≡ bytes_put (l.initial.out, l.first) (strings (left l.buf l.kind l.count 0));
}

-- `ultra_stepping::walk::first_of_type` meets its contract. The invariant: `at` is where the attribute that the walk has come to starts,
-- and the search from there on finds what the whole search finds.
use Prim.Native.Nat.{◌-◌}
use mathlib.Core.Path.{◌≡◌}
use Rattle.ultra_format.specs.Decoding.{start}
use Rattle.ultra_stepping.specs.Walking.{first_of_type}
use Rattle.ultra_stepping.proofs.walk.first_of_type.Given as goal

abbrev pub invariant-loop : goal.invariant-loop
invariant-loop l =
    (l.at ≡ start l.buf l.counter) × (first_of_type l.buf l.kind l.counter (l.count - l.counter) ≡ first_of_type l.buf l.kind 0 l.count)

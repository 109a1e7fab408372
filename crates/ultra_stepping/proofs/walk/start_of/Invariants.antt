-- `ultra_stepping::walk::start_of` meets its contract. The invariant: `at` is where the attribute that the walk has come to starts.
use mathlib.Core.Path.{◌≡◌}
use Rattle.ultra_format.specs.Decoding.{start}
use Rattle.ultra_stepping.proofs.walk.start_of.Given as goal

abbrev pub invariant-loop : goal.invariant-loop
invariant-loop l = l.at ≡ start l.buf l.counter

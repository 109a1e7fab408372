-- `ultra_reading::walk::attributes` meets its contract. The invariant: `at` is where attribute `i` starts, none before it breaks one of
-- 5 to 8, and the answer from it on is the answer from the first on.
use Prim.Native.Nat.{◌-◌, ◌≤◌}
use mathlib.Core.Path.{◌≡◌}
use Rattle.ultra_format.specs.Places.{nearest}
use Rattle.ultra_format.specs.Decoding.{start, types_before}
use Rattle.ultra_stepping.specs.Walking.{InBounds}
use Rattle.ultra_reading.specs.Reading.{highest_of, attributes_answer}
use Rattle.ultra_reading.proofs.walk.attributes.Given as goal

abbrev pub invariant-loop-i : goal.invariant-loop-i
invariant-loop-i l =
    (l.at ≡ start l.buf l.i) × (l.previous ≡ nearest (types_before l.buf l.i)) × (l.highest ≡ highest_of (types_before l.buf l.i)) × (l.at ≤ l.room) × InBounds l.buf l.i
    × (attributes_answer l.buf l.room l.i (l.count - l.i) ≡ attributes_answer l.buf l.room 0 l.count)

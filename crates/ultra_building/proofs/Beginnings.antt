-- What a beginning leaves, from each return.
use Rattle.std.specs.Prelude.{Ok, Err}
use Prim.Native.Nat.{ℕ, ◌≤◌, ◌<◌}
use mathlib.Core.Path.{◌≡◌, ap}
use mathlib.Core.List.{List}
use native.Mathlib.Omega.{arith}
use lib.ListN.{length}
use borrow.Author.Tests.{le-leb, lt-leb}
use Rattle.words.specs.Words.{little_endian, replaced}
use Rattle.refusals.specs.Answers.{refusal}
use Rattle.lent_buffers.specs.Room.{room_of}
use Rattle.refusals.specs.declared.Refusal.{Refusal}
use Rattle.ultra_building.specs.Building.{begun}

pub begun_short : (b : List ℕ) (r : Refusal) → r ≡ refusal 1 0 → length b < 8 → (Err r, b) ≡ begun b
unfolding begun
begun_short b r e h = rw (e, lt-leb 8 (room_of b) (omega arith))

-- the number 1 in eight bytes is the empty head
pub begun_good : (b q : List ℕ) → 8 ≤ length b → q ≡ replaced b 0 8 (little_endian 8 1) → (Ok 8, q) ≡ begun b
unfolding begun
begun_good b q h e = rw (le-leb 8 (room_of b) (omega arith)) (ap (λ (l : List ℕ). (Ok 8, l)) e)

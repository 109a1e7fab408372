-- What beginning answers, and what it leaves in the buffer. (Adding: ultra_adding/specs/Adding.antt.)
-- A reader has to believe this file.
use Rattle.std.specs.Prelude.{ℕ, List, [], ◌∷◌, leb, Ok}
use Rattle.byte_layout.specs.Stored.{over}
use Rattle.refusals.specs.Refusals.{SHORT}
use Rattle.refusals.specs.Answers.{Answer, refused}
use Rattle.lent_buffers.specs.Room.{room_of}
use Rattle.ultra_format.specs.Decoding.{pick}

-- "Beginning writes the 8 bytes 01 00 00 00 00 00 00 00 and nothing more; only SHORT, with offset 0, refuses it."
abbrev pub empty_head : List ℕ
empty_head = 1 ∷ 0 ∷ 0 ∷ 0 ∷ 0 ∷ 0 ∷ 0 ∷ 0 ∷ []

-- the answer, and the buffer afterwards
unfoldable pub begun : List ℕ → Answer × List ℕ
begun b = pick (leb 8 (room_of b)) (Ok 8, over empty_head b) (refused SHORT 0, b)

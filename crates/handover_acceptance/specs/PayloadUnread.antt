-- What reading looks at, in a refused buffer too: the head, and below the size what is not silent. Nothing past the size or past the room, and no
-- silent byte, changes an answer. Proved in proofs/PayloadUnread.antt: `unread`,
-- `unread_bytes`.
-- A reader has to believe this file.
use Rattle.std.specs.Prelude.{ℕ, ◌≤◌, ◌<◌, ◌≡◌, List, ◌++◌, length, get_or, set}
use Rattle.lent_buffers.specs.Room.{room_of}
use Rattle.handover_format.specs.PayloadLayouts.{Silent}
use Rattle.handover_format.specs.PayloadDecoding.{stored_size, payload_of}
use Rattle.handover_reading.specs.PayloadReading.{reading_of}

-- d has the room of b, the 16 bytes of its head, and below the size every byte that is not silent in what b says
pub record SameWhereRead (b d : List ℕ) : Type 0 where
  pub room : room_of d ≡ room_of b
  pub head : (i : ℕ) → i < room_of b → i < 16 → get_or d i 0 ≡ get_or b i 0
  pub rest : (i : ℕ) → i < room_of b → i < stored_size b → (Silent (payload_of b) i → ⊥) → get_or d i 0 ≡ get_or b i 0

abbrev pub Unread : Type 0
Unread = (b d : List ℕ) → SameWhereRead b d → reading_of d ≡ reading_of b

-- so of every buffer, accepted or refused
pub record UnreadBytes : Type 0 where
  -- nothing past byte 65,536 counts
  pub past_room : (b rest : List ℕ) → 65536 ≤ length b → reading_of (b ++ rest) ≡ reading_of b
  -- any number in the place of a byte past the size, and of a silent one, after the head
  pub past_size : (b : List ℕ) (i x : ℕ) → 16 ≤ i → stored_size b ≤ i → reading_of (set b i x) ≡ reading_of b
  pub silent : (b : List ℕ) (i x : ℕ) → 16 ≤ i → Silent (payload_of b) i → reading_of (set b i x) ≡ reading_of b

-- Statements: what reading does not look at. Nothing past byte 65,536 of a longer buffer (docs/DECISIONS.md, A1), and no byte that
-- document 01 calls silent, whether the buffer is refused or accepted (B19). They are proved in proofs/Unread.antt. Of a buffer nothing is
-- assumed.
-- A reader has to believe this file.
use Rattle.std.specs.Prelude.{ℕ, ◌+◌, ◌≤◌, ◌<◌, ◌≡◌, List, get_or, take}
use Rattle.lent_buffers.specs.Room.{room_of}
use Rattle.ultra_format.specs.Layouts.{Silent}
use Rattle.ultra_format.specs.Decoding.{start, stored_type, stored_size, stored_count, context_of}
use Rattle.ultra_reading.specs.Reading.{Clear, used_length, reading_of}
use Rattle.ultra_stepping.specs.Stepping.{step_of}
use Rattle.ultra_stepping.specs.declared.cursor.Cursor.{Cursor}

-- d is read as b is: accepted alike, or refused with the same number at the same offset, with every lower limit of the count
pub record ReadAlike (b d : List ℕ) : Type 0 where
  pub reading : reading_of d ≡ reading_of b
  pub used : (fewest : ℕ) → used_length fewest d ≡ used_length fewest b

-- ---- past byte 65,536
-- A1: "nothing past byte 65,536 of a longer buffer is looked at": a buffer is read and stepped through as its first 65,536 bytes are
abbrev pub PastRoomUnread : Type 0
PastRoomUnread = (b : List ℕ) → ReadAlike b (take 65536 b) × ((k : Cursor) → step_of (take 65536 b) k ≡ step_of b k)

-- ---- silent bytes
-- Which bytes these are is said here in 01's digits and for any buffer; the layout (crate ultra_format) says it of a list.
-- one of the bytes from `first` on and before byte k is zero, in the attribute at `o`
abbrev pub ZeroBefore : List ℕ → ℕ → ℕ → ℕ → Type 0
ZeroBefore b o first k = (z : ℕ) × (first ≤ z) × (z < k) × (get_or b (o + z) 0 ≡ 0)

-- byte k of an attribute of type t at `o` is silent. What is past the attribute's size is none of its bytes.
pub data SilentByte (b : List ℕ) (o t k : ℕ) : Type 0 where
  -- "platform bytes 65..71 and from 88"
  platform_reserved : t ≡ 1 → 65 ≤ k → k ≤ 71 → SilentByte b o t k
  platform_tail : t ≡ 1 → 88 ≤ k → SilentByte b o t k
  -- "kernel from 336"
  kernel_tail : t ≡ 2 → 336 ≤ k → SilentByte b o t k
  -- "module 8..11 and from 96"
  module_reserved : t ≡ 4 → 8 ≤ k → k ≤ 11 → SilentByte b o t k
  module_tail : t ≡ 4 → 96 ≤ k → SilentByte b o t k
  -- "framebuffer from 32"
  framebuffer_tail : t ≡ 6 → 32 ≤ k → SilentByte b o t k
  -- "text bytes after the first zero": of "name 16..47", "path 80..335", "name 16..79" and "text from 8"
  platform_name : t ≡ 1 → ZeroBefore b o 16 k → k ≤ 47 → SilentByte b o t k
  kernel_path : t ≡ 2 → ZeroBefore b o 80 k → k ≤ 335 → SilentByte b o t k
  module_name : t ≡ 4 → ZeroBefore b o 16 k → k ≤ 79 → SilentByte b o t k
  command_line_text : t ≡ 5 → ZeroBefore b o 8 k → SilentByte b o t k
  -- "bodies of types 7 and up"
  other_body : 7 ≤ t → 8 ≤ k → SilentByte b o t k

-- byte i is the same in d as in b, if it is within the room
abbrev pub SameByte : List ℕ → List ℕ → ℕ → Type 0
SameByte b d i = i < room_of b → get_or d i 0 ≡ get_or b i 0

-- d is as b but for bytes that are silent in b. Nothing is asked of what follows the first attribute that is refused: reading ends there.
pub record SameButSilent (b d : List ℕ) : Type 0 where
  pub room : room_of d ≡ room_of b
  -- "the head's reserved u16", bytes 2 and 3, is silent
  pub head : (i : ℕ) → i < 8 → (i ≡ 2 → ⊥) → (i ≡ 3 → ⊥) → SameByte b d i
  -- attribute j: its type and size, bytes 0 to 7, and those of its other bytes that are not silent
  pub header : (j : ℕ) → j < stored_count b → Clear b (room_of b) j → (k : ℕ) → k < 8 → SameByte b d (start b j + k)
  pub body : (j : ℕ) → j < stored_count b → Clear b (room_of b) j
      → (k : ℕ) → 8 ≤ k → k < stored_size b j → (SilentByte b (start b j) (stored_type b j) k → ⊥) → SameByte b d (start b j + k)

-- B19: "No condition of [1] to [16] looks at the head's reserved u16, a reserved member, a tail after a text's zero, a longer attribute's
-- tail or the body of a type from 7 up."
abbrev pub SilentUnread : Type 0
SilentUnread = (b d : List ℕ) → SameButSilent b d → ReadAlike b d

-- the same by 01's term for a list: d is as b but for bytes that are silent in the list that is decoded from b, whether or not it meets
-- the rules
abbrev pub SameButSilentInList : List ℕ → List ℕ → Type 0
SameButSilentInList b d = (room_of d ≡ room_of b) × ((i : ℕ) → (Silent (context_of b) i → ⊥) → SameByte b d i)

abbrev pub SilentInListUnread : Type 0
SilentInListUnread = (b d : List ℕ) → SameButSilentInList b d → ReadAlike b d

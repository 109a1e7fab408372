-- Consequences of demand 3, with its names written out: what holds of a buffer that reading accepts and of one that it refuses, and how a
-- buffer may change without another reading, a byte at a time. They are proved from the statement alone, for every buffer and list: one
-- that asked for more would not give them. Proved in proofs/Consequences.antt: `consequences`.
-- A reader has to believe this file.
use Rattle.std.specs.Prelude.{ℕ, ◌<◌, min, ◌≡◌, List, ◌++◌, length, get_or, take, set}
use Rattle.ultra_format.specs.Contexts.{Context, used}
use Rattle.ultra_format.specs.Layouts.{Opens, Silent}
use Rattle.ultra_format.specs.Rules.{Meets}
use Rattle.ultra_reading.specs.Reading.{reading_of, reading_number, read_as}
use Rattle.ultra_reading.specs.declared.Version.{Version}
use Rattle.demand_3.specs.Demand3.{ReadingIs, SameReading}

-- "some list meets the rules and its bytes open the buffer", "with at most its first 65,536 bytes considered"
abbrev pub HeldIn : List ℕ → Context → Type 0
HeldIn b c = Meets 2 (min (length b) 65536) c × Opens b c

-- d holds the list too, and is read as b is
abbrev pub StaysRead : List ℕ → List ℕ → Context → Type 0
StaysRead b d c = HeldIn d c × SameReading b d

pub record Consequences : Type 0 where
  -- of a buffer of bytes that reading accepts: there is one list, with the used length that is answered, and the reading is that list
  pub accepted : (b : List ℕ) (v : Version) (n : ℕ) → ((i : ℕ) → get_or b i 0 < 256) → reading_of b ≡ read_as v n
      → (c : Context) × HeldIn b c × (n ≡ used c) × ReadingIs b c × ((d : Context) → HeldIn b d → d ≡ c)
  -- of one that it refuses: there is none
  pub refused : (b : List ℕ) (c : Context) → ((i : ℕ) → get_or b i 0 < 256) → (reading_number (reading_of b) ≡ 0 → ⊥) → HeldIn b c → ⊥
  -- any number in the place of a silent byte, also past the used length
  pub overwritten : (b : List ℕ) (c : Context) (i x : ℕ) → HeldIn b c → Silent c i → StaysRead b (set b i x) c
  -- the buffer cut off at the used length, and any buffer that begins with it
  pub cut : (b : List ℕ) (c : Context) → HeldIn b c → StaysRead b (take (used c) b) c
  pub longer : (b rest : List ℕ) (c : Context) → HeldIn b c → StaysRead b (b ++ rest) c
  -- buffers that are read alike hold one list
  pub alike : (b d : List ℕ) (c e : Context) → HeldIn b c → HeldIn d e → SameReading b d → c ≡ e

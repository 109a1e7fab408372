-- Consequences of demand 3 over payloads, with its names written out: what holds of a buffer that reading accepts and of one that it refuses, and
-- how a buffer may change without another reading. They are proved from the statement alone, for every buffer and list: one that asked for more
-- would not give them. Proved in proofs/PayloadConsequences.antt: `payload_consequences`.
-- A reader has to believe this file.
use Rattle.std.specs.Prelude.{ℕ, ◌+◌, ◌≤◌, ◌<◌, min, ◌≡◌, ◌⊎◌, List, ◌++◌, length, get_or, take, set, Ok}
use Rattle.refusals.specs.Answers.{number_of}
use Rattle.handover_format.specs.Payloads.{Payload, table, Named}
use Rattle.handover_format.specs.PayloadLayouts.{Opens}
use Rattle.handover_format.specs.PayloadRules.{Meets}
use Rattle.handover_reading.specs.PayloadReading.{reading_of}
use Rattle.handover_demand_3.specs.PayloadDemand3.{ReadingIs, SameReading}

-- "Read .. it in the same room": "with at most its first 65,536 bytes considered"
abbrev pub HeldIn : List ℕ → Payload → Type 0
HeldIn b p = Meets (min (length b) 65536) p × Opens b p

-- d holds the list too, and is read as b is
abbrev pub StaysRead : List ℕ → List ℕ → Payload → Type 0
StaysRead b d p = HeldIn d p × SameReading b d

-- "table bytes outside every named string and its closing zero, and all past the size"
abbrev pub SaysNothing : Payload → ℕ → Type 0
SaysNothing p i = (p.size ≤ i) ⊎ ((table p ≤ i) × ((o : ℕ) (l : List ℕ) → Named p o l → (i < table p + o) ⊎ (table p + o + length l < i)))

pub record PayloadConsequences : Type 0 where
  -- of a buffer of bytes that reading accepts: there is one list, its size is the length that is answered, and the reading is that list
  pub accepted : (b : List ℕ) (n : ℕ) → ((i : ℕ) → get_or b i 0 < 256) → reading_of b ≡ Ok n
      → (p : Payload) × HeldIn b p × (n ≡ p.size) × ReadingIs b p × ((q : Payload) → HeldIn b q → q ≡ p)
  -- of one that it refuses: there is none
  pub refused : (b : List ℕ) (p : Payload) → ((i : ℕ) → get_or b i 0 < 256) → (number_of (reading_of b) ≡ 0 → ⊥) → HeldIn b p → ⊥
  -- any number in the place of a byte that says nothing
  pub overwritten : (b : List ℕ) (p : Payload) (i x : ℕ) → HeldIn b p → SaysNothing p i → StaysRead b (set b i x) p
  -- the buffer cut off at the size, and any buffer that begins with it
  pub cut : (b : List ℕ) (p : Payload) → HeldIn b p → StaysRead b (take p.size b) p
  pub longer : (b rest : List ℕ) (p : Payload) → HeldIn b p → StaysRead b (b ++ rest) p
  -- buffers that are read alike hold one list
  pub alike : (b d : List ℕ) (p q : Payload) → HeldIn b p → HeldIn d q → SameReading b d → p ≡ q

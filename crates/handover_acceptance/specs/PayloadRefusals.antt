-- Statements: reading gives each number exactly under the condition that R-2 states, with its offset, and no other. Each condition is asked by
-- itself, whatever else the buffer breaks; which of several is given is said after them. Of a buffer nothing is assumed. Proved in
-- proofs/PayloadRefusals.antt.
-- A reader has to believe this file.
use Rattle.std.specs.Prelude.{ℕ, ◌+◌, ◌-◌, ◌<◌, ◌≡◌, ◌↔◌, ◌⊎◌, true, List, [], ◌∷◌, get_or, Err}
use Rattle.words.specs.Words.{u32_at}
use Rattle.lent_buffers.specs.Room.{room_of}
use Rattle.refusals.specs.Refusals.{SHORT, COUNT, RANGE, MAGIC, PAYLOAD, STRING, END}
use Rattle.refusals.specs.Answers.{number_of, value_of}
use Rattle.refusals.specs.Order.{First, NoneBreaks}
use Rattle.refusals.specs.declared.Refusal.{Refusal}
use Rattle.handover_format.specs.Payloads.{handover_end, names_name, names_meta, record_start}
use Rattle.handover_format.specs.PayloadLayouts.{magic}
use Rattle.handover_format.specs.PayloadDecoding.{stored_agent, stored_size, stored_count, stored_table, stored_record}
use Rattle.handover_reading.specs.PayloadReading.{reading_of}

-- ---- the conditions
pub data HeadBreaks (b : List ℕ) : ℕ → Type 0 where
  -- "1 for room below 16"
  short : room_of b < 16 → HeadBreaks b SHORT
  -- "20 for the magic"
  foreign : (u32_at b 0 ≡ magic → ⊥) → HeadBreaks b MAGIC
  -- "3 for a count of 0 or above 1,024"
  count : (stored_count b < 1) ⊎ (1024 < stored_count b) → HeadBreaks b COUNT
  -- "21 if size is below 16 + 32 × count or above the room"
  extent : (stored_size b < stored_table b) ⊎ (room_of b < stored_size b) → HeadBreaks b PAYLOAD

-- of record i
pub data RecordBreaks (b : List ℕ) (i : ℕ) : ℕ → Type 0 where
  -- "23 for a misplaced or missing end"
  misplaced : (stored_record b i).tag ≡ handover_end → (i + 1 ≡ stored_count b → ⊥) → RecordBreaks b i END
  missing : ((stored_record b i).tag ≡ handover_end → ⊥) → i + 1 ≡ stored_count b → RecordBreaks b i END
  -- "15": "no record's range passes 2^64"
  range : 18446744073709551616 < (stored_record b i).start + (stored_record b i).size → RecordBreaks b i RANGE

-- "must start inside the table and close there": there is a zero in the table, at the string's start or after it
abbrev pub Closes : List ℕ → ℕ → Type 0
Closes b o = (k : ℕ) × (o + k < stored_size b - stored_table b) × (get_or b (stored_table b + o + k) 0 ≡ 0)

-- "22 for a string", of record i
pub data StringBreaks (b : List ℕ) (i : ℕ) : Type 0 where
  name : names_name (stored_record b i).tag ≡ true → (Closes b (stored_record b i).name → ⊥) → StringBreaks b i
  meta : names_meta (stored_record b i).tag ≡ true → (Closes b (stored_record b i).meta → ⊥) → StringBreaks b i

-- ---- which is given
-- "Refusals, in order: 1 ..; 20 ..; 3 ..; 21 ..; then per record 23 .., 15"
abbrev pub head_order : List ℕ
head_order = SHORT ∷ MAGIC ∷ COUNT ∷ PAYLOAD ∷ []

abbrev pub record_order : List ℕ
record_order = END ∷ RANGE ∷ []

-- the head and every record below i fall under no condition
abbrev pub ClearTo : List ℕ → ℕ → Type 0
ClearTo b i = NoneBreaks (HeadBreaks b) × ((j : ℕ) → j < i → NoneBreaks (RecordBreaks b j))

-- b is to be refused with a number and an offset: "Offsets are the record's start, else 0."
pub data Refuses (b : List ℕ) : ℕ → ℕ → Type 0 where
  head : (n : ℕ) → First head_order (HeadBreaks b) n → Refuses b n 0
  row : (n i : ℕ) → i < stored_count b → ClearTo b i → First record_order (RecordBreaks b i) n → Refuses b n (record_start i)
  -- "last 22 for a string, agent first, then in record order"
  agent : ClearTo b (stored_count b) → (Closes b (stored_agent b) → ⊥) → Refuses b STRING 0
  string : (i : ℕ) → i < stored_count b → ClearTo b (stored_count b) → Closes b (stored_agent b) → ((j : ℕ) → j < i → StringBreaks b j → ⊥) → StringBreaks b i
      → Refuses b STRING (record_start i)

-- ---- the statement, over whole refusals: with one more member in a refusal, which the conditions left open, it would be false
abbrev pub RefusesExactly : Type 0
RefusesExactly = (b : List ℕ) (r : Refusal) → (reading_of b ≡ Err r) ↔ Refuses b (number_of (Err r)) (value_of (Err r))

-- Statements: reading gives each of the numbers 1 to 16 of document 01's table exactly under the condition that the table states, with its
-- offset, and no other number. They are proved in proofs/Refusing.antt. Each row's condition is asked by itself, whatever else the buffer
-- breaks; which of several is given is said after them. For 12 to 16 the conditions are the tests of Members (crate ultra_format), which
-- the rules ask too. Of a buffer nothing is assumed.
-- A reader has to believe this file.
use Rattle.std.specs.Prelude.{ℕ, ◌+◌, ◌-◌, ◌%◌, ◌<◌, ◌≡◌, ◌↔◌, ◌⊎◌, true, false, List, get_or, Err}
use Rattle.refusals.specs.Refusals.{SHORT, VERSION, COUNT, MISSING, HEADER, SIZE, OVERRUN, TYPE, PLACE, REPEAT, SPLIT, FORM, VALUE, TEXT, RANGE, ORDER}
use Rattle.refusals.specs.Answers.{number_of, value_of}
use Rattle.ultra_format.specs.Contexts.{Body}
use Rattle.lent_buffers.specs.Room.{room_of}
use Rattle.ultra_format.specs.Members.{size_suits, values, texts, ranges, ordered}
use Rattle.ultra_format.specs.Places.{single, repeatable}
use Rattle.ultra_format.specs.Decoding.{start, stored_type, stored_size, stored_count, stored_attribute}
use Rattle.refusals.specs.declared.Refusal.{Refusal}
use Rattle.ultra_reading.specs.Reading.{used_length, reading_of, reading_number, reading_value}

-- ---- the table
-- the head of b falls under the condition of a number, with `fewest` as the lower limit of the count
pub data HeadBreaks (fewest : ℕ) (b : List ℕ) : ℕ → Type 0 where
  -- "room below 8"
  short : room_of b < 8 → HeadBreaks fewest b SHORT
  -- "major 0"
  version : get_or b 0 0 ≡ 0 → HeadBreaks fewest b VERSION
  -- "count above 1,024"
  count : 1024 < stored_count b → HeadBreaks fewest b COUNT
  -- "count below 2 (not when adding)"
  missing : stored_count b < fewest → HeadBreaks fewest b MISSING

-- "occurred earlier": the type of attribute i, among the attributes before it
abbrev pub Occurred : List ℕ → ℕ → Type 0
Occurred b i = (j : ℕ) × (j < i) × (stored_type b j ≡ stored_type b i)

-- what attribute i holds
abbrev pub stored_body : List ℕ → ℕ → Body
stored_body b i = (stored_attribute b i).body

-- attribute i of b falls under the condition of a number
pub data Breaks (b : List ℕ) (i : ℕ) : ℕ → Type 0 where
  -- "fewer than 8 bytes of room at the attribute's start"
  header : room_of b < start b i + 8 → Breaks b i HEADER
  -- "below 8 or no multiple of 8"
  size : (stored_size b i < 8) ⊎ (stored_size b i % 8 ≡ 0 → ⊥) → Breaks b i SIZE
  -- "attribute ends past the room"
  overrun : room_of b < start b i + stored_size b i → Breaks b i OVERRUN
  -- "type 0"
  untyped : stored_type b i ≡ 0 → Breaks b i TYPE
  -- "first is not 1, second not 2, or a later one is 1 or 2"
  first : i ≡ 0 → (stored_type b i ≡ 1 → ⊥) → Breaks b i PLACE
  second : i ≡ 1 → (stored_type b i ≡ 2 → ⊥) → Breaks b i PLACE
  later : 1 < i → (stored_type b i ≡ 1) ⊎ (stored_type b i ≡ 2) → Breaks b i PLACE
  -- "type 3, 5 or 6 occurred earlier"
  repeat : single (stored_type b i) ≡ true → Occurred b i → Breaks b i REPEAT
  -- "type 4 or from 7 up, occurred earlier, and the attribute just before has another type"
  split : repeatable (stored_type b i) ≡ true → Occurred b i → (stored_type b (i - 1) ≡ stored_type b i → ⊥) → Breaks b i SPLIT
  -- "size outside the table"
  form : size_suits (stored_size b i) (stored_body b i) ≡ false → Breaks b i FORM
  -- "the member rules above": values, texts, ranges, map order
  value : values (stored_body b i) ≡ false → Breaks b i VALUE
  text : texts (stored_size b i) (stored_body b i) ≡ false → Breaks b i TEXT
  range : ranges (stored_body b i) ≡ false → Breaks b i RANGE
  order : ordered (stored_body b i) ≡ false → Breaks b i ORDER

-- ---- which number is given
-- the condition of no number is met
abbrev pub NoneBreaks : (ℕ → Type 0) → Type 0
NoneBreaks breaks = (m : ℕ) → breaks m → ⊥

-- n is the least number whose condition is met: they come "in that order"
abbrev pub Least : (ℕ → Type 0) → ℕ → Type 0
Least breaks n = breaks n × ((m : ℕ) → m < n → breaks m → ⊥)

-- no attribute before i meets one
abbrev pub ClearBefore : List ℕ → ℕ → Type 0
ClearBefore b i = (j : ℕ) → j < i → NoneBreaks (Breaks b j)

-- b is to be refused with the number n and, last, an offset
pub data Refuses (fewest : ℕ) (b : List ℕ) (n : ℕ) : ℕ → Type 0 where
  -- "1 to 4 (3 for the count) have offset 0 and come first"
  head : Least (HeadBreaks fewest b) n → Refuses fewest b n 0
  -- "Then attribute by attribute, 5 to 16 in that order, each with that attribute's start"
  attribute : NoneBreaks (HeadBreaks fewest b) → (i : ℕ) → i < stored_count b → ClearBefore b i → Least (Breaks b i) n → Refuses fewest b n (start b i)

-- ---- the statements
-- a number and an offset are answered exactly where the table says so, with every lower limit of the count, so where adding reads too.
-- Both are 01's number and value of the answer. It is over whole refusals: with one more member in a refusal, which the table left open,
-- it would be false
abbrev pub RefusesExactly : Type 0
RefusesExactly = (fewest : ℕ) (b : List ℕ) (r : Refusal)
    → (used_length fewest b ≡ Err r) ↔ Refuses fewest b (number_of (Err r)) (value_of (Err r))

-- and by the reading call, with "count below 2"
abbrev pub ReadingRefuses : Type 0
ReadingRefuses = (b : List ℕ) (r : Refusal)
    → (reading_of b ≡ Err r) ↔ Refuses 2 b (reading_number (Err r)) (reading_value (Err r))

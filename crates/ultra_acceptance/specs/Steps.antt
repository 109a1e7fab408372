-- Statements: what a step answers, for every buffer and every cursor. Each number is given exactly under its condition, with its offset;
-- the end and an attribute are answered exactly where they are to be. And steps go through any context that a buffer holds. They are
-- proved in proofs/Steps.antt. Document 01: "A step does 1 to 4; answers the end if the index is at or past the count; gives 5 also if
-- the offset is below 8 or no multiple of 8; then 6, 7, 8; else hands back the attribute's type, start and size together with the next
-- cursor. Refusals 1 to 4 of a step have offset 0, the others the cursor's offset."
-- A reader has to believe this file.
use Rattle.std.specs.Prelude.{ℕ, ◌+◌, ◌%◌, ◌≤◌, ◌<◌, ◌≡◌, ◌↔◌, ◌⊎◌, List, Err}
use Rattle.words.specs.Words.{u32_at}
use Rattle.refusals.specs.Refusals.{HEADER, SIZE, OVERRUN, TYPE}
use Rattle.ultra_format.specs.Contexts.{Context, count, type_at, size_at, start_in}
use Rattle.lent_buffers.specs.Room.{room_of}
use Rattle.ultra_format.specs.Decoding.{stored_count}
use Rattle.refusals.specs.declared.Refusal.{Refusal}
use Rattle.ultra_stepping.specs.Stepping.{step_of, step_number, step_value, steps_to, at_end}
use Rattle.ultra_stepping.specs.declared.cursor.Header.{Header}
use Rattle.ultra_stepping.specs.declared.cursor.Cursor.{Cursor}
use Rattle.ultra_acceptance.specs.Acceptance.{HoldsContext}
use Rattle.ultra_acceptance.specs.Refusing.{HeadBreaks, NoneBreaks, Least}

-- ---- the table
-- a cursor's offset o in b falls under the condition of a number, each asked by itself
pub data CursorBreaks (b : List ℕ) (o : ℕ) : ℕ → Type 0 where
  -- "5 also if the offset is below 8 or no multiple of 8"
  low : o < 8 → CursorBreaks b o HEADER
  crooked : (o % 8 ≡ 0 → ⊥) → CursorBreaks b o HEADER
  -- "fewer than 8 bytes of room at the attribute's start"
  header : room_of b < o + 8 → CursorBreaks b o HEADER
  -- "below 8 or no multiple of 8"
  size : (u32_at b (o + 4) < 8) ⊎ (u32_at b (o + 4) % 8 ≡ 0 → ⊥) → CursorBreaks b o SIZE
  -- "attribute ends past the room"
  overrun : room_of b < o + u32_at b (o + 4) → CursorBreaks b o OVERRUN
  -- "type 0"
  untyped : u32_at b o ≡ 0 → CursorBreaks b o TYPE

-- ---- which answer is given
-- a step in b by the cursor k is to be refused with the number n and, last, an offset
pub data StepRefuses (b : List ℕ) (k : Cursor) (n : ℕ) : ℕ → Type 0 where
  -- "A step does 1 to 4", whatever the cursor, and these "have offset 0"
  head : Least (HeadBreaks 2 b) n → StepRefuses b k n 0
  -- 5 to 8, where it is not the end, have "the cursor's offset"
  cursor : NoneBreaks (HeadBreaks 2 b) → k.index < stored_count b → Least (CursorBreaks b k.offset) n → StepRefuses b k n k.offset

-- it is to answer the end: "if the index is at or past the count"
abbrev pub StepEnds : List ℕ → Cursor → Type 0
StepEnds b k = NoneBreaks (HeadBreaks 2 b) × (stored_count b ≤ k.index)

-- it is to hand back h and the next cursor m: "the attribute's type, start and size together with the next cursor"
pub record StepGives (b : List ℕ) (k : Cursor) (h : Header) (m : Cursor) : Type 0 where
  pub head : NoneBreaks (HeadBreaks 2 b)
  pub below : k.index < stored_count b
  pub cursor : NoneBreaks (CursorBreaks b k.offset)
  pub attribute : h ≡ record { kind = u32_at b k.offset; start = k.offset; size = u32_at b (k.offset + 4) }
  pub next : m ≡ record { index = k.index + 1; offset = k.offset + u32_at b (k.offset + 4) }

-- ---- the statements
-- over whole refusals, as RefusesExactly is
pub record StepsExactly : Type 0 where
  pub refuses : (b : List ℕ) (k : Cursor) (r : Refusal)
      → (step_of b k ≡ Err r) ↔ StepRefuses b k (step_number (Err r)) (step_value (Err r))
  pub ends : (b : List ℕ) (k : Cursor) → (step_of b k ≡ at_end) ↔ StepEnds b k
  pub gives : (b : List ℕ) (k : Cursor) (h : Header) (m : Cursor) → (step_of b k ≡ steps_to h m) ↔ StepGives b k h m
  -- "0 is success"; "A step's value is the next cursor's offset, or 0 at the end."
  pub end_number : (step_number at_end ≡ 0) × (step_value at_end ≡ 0)
  pub attribute_number : (h : Header) (m : Cursor) → (step_number (steps_to h m) ≡ 0) × (step_value (steps_to h m) ≡ m.offset)

-- the cursor of attribute i in a list
abbrev pub cursor_of : Context → ℕ → Cursor
cursor_of c i = record { index = i; offset = start_in c.attributes i }

-- steps by the list's own cursors go through its attributes in turn, and end after them
pub record StepsThrough (b : List ℕ) (c : Context) : Type 0 where
  -- "the first is 0 and 8"
  pub first : cursor_of c 0 ≡ record { index = 0; offset = 8 }
  pub each : (i : ℕ) → i < count c
      → step_of b (cursor_of c i) ≡ steps_to (record { kind = type_at c i; start = start_in c.attributes i; size = size_at c i }) (cursor_of c (i + 1))
  -- "answers the end if the index is at or past the count", and else not
  pub ends : (k : Cursor) → (step_of b k ≡ at_end) ↔ (count c ≤ k.index)

-- whichever context a buffer holds, whoever wrote it
abbrev pub SteppingThrough : Type 0
SteppingThrough = (b : List ℕ) (c : Context) → HoldsContext 2 b c → StepsThrough b c

-- Demand 3 of the order, whole. "Take the rules of the format as conditions on a list of attributes, with no word on how a reader
-- walks." The list is `Context`, the rules are `Meets`, its bytes open a buffer by `Opens` (all of crate ultra_format). What the calls
-- answer is `reading_of` (the contract of `ultra_reading::read`), `attribute_answer` (that of `ultra_questions::attribute`) and a slice of
-- which `PartHandedBack` holds (that of `ultra_questions::attribute_part`). It is proved in proofs/Demand3.antt: `demand_3`. "Whatever a buffer holds and however
-- long it is": a buffer is any list of numbers; that they are bytes (`Bytes`) is asked where it is needed.
-- A reader has to believe this file.
use Rattle.std.specs.Prelude.{ℕ, ◌≤◌, ◌<◌, ◌≡◌, ◌↔◌, List, []}
use Rattle.std.specs.Borrow.{Bor}
use Rattle.byte_layout.specs.Stored.{Bytes, bytes_at}
use Rattle.refusals.specs.Refusals.{COUNT}
use Rattle.refusals.specs.Answers.{refused}
use Rattle.ultra_format.specs.Contexts.{Context, count, attribute_at, body_at, start_in, used}
use Rattle.ultra_reading.specs.Reading.{reading_of, reading_number, read_as}
use Rattle.ultra_reading.specs.declared.Version.{Version}
use Rattle.ultra_acceptance.specs.Acceptance.{HoldsContext, DiffersInSilence, version_in}
use Rattle.lent_buffers.specs.LentParts.{PartOf, LiesAt}
use Rattle.ultra_questions.specs.Parts.{body_part, part_bytes}
use Rattle.ultra_questions.specs.AttributeQuestion.{answered, unanswered, attribute_answer, PartHandedBack}

-- the bytes at the place that the answer at index i names as its part
abbrev pub part_at : List ℕ → ℕ → List ℕ
part_at b i = let p = (attribute_answer b i).part in bytes_at b p.start p.length

-- "The reading is a list if version and used length are that list's, the answer at each index below its count has that attribute's
-- type, size and members (a fixed text with zeros after it, a part by its bytes) and, as start, 8 plus the sizes before it, and from
-- the count on 3 is given."
pub record ReadingIs (b : List ℕ) (c : Context) : Type 0 where
  pub whole : reading_of b ≡ read_as (version_in c) (used c)
  pub each : (i : ℕ) → i < count c → attribute_answer b i ≡ answered (start_in c.attributes i) (attribute_at c i)
  pub parts : (i : ℕ) → i < count c → part_at b i ≡ part_bytes (body_at c i)
  pub past : (i : ℕ) → count c ≤ i → attribute_answer b i ≡ unanswered (refused COUNT (used c))
  -- "a map or command line as its part of the buffer's entries or text, up to its zero": whatever slice is handed back of a buffer s
  -- that has these bytes, it is memory of s, at the attribute's part, and has the bytes of the list's part; from the count on it has none
  pub slices : (lent s : Bor (List ℕ)) (i : ℕ) → s.now ≡ b → i < count c → PartHandedBack lent s i
      → let p = body_part (start_in c.attributes i) (body_at c i) in PartOf lent s p × LiesAt lent s p.start × (lent.now ≡ part_bytes (body_at c i))
  pub no_slices : (lent s : Bor (List ℕ)) (i : ℕ) → s.now ≡ b → count c ≤ i → PartHandedBack lent s i → lent.now ≡ []

-- "The version and the used length that reading answers, with these answers from index 0 on, are the reading."
pub record SameReading (b d : List ℕ) : Type 0 where
  pub whole : reading_of d ≡ reading_of b
  pub each : (i : ℕ) → attribute_answer d i ≡ attribute_answer b i
  -- whatever slices are handed back of a buffer s that has the bytes of b and of a buffer t that has those of d
  pub slices : (lent other s t : Bor (List ℕ)) (i : ℕ) → s.now ≡ b → t.now ≡ d → PartHandedBack lent s i → PartHandedBack other t i → other.now ≡ lent.now

pub record Demand3 : Type 0 where
  -- "reading accepts exactly when some list meets the rules and its bytes open the buffer" (`HoldsContext`): 2 is the lower limit of the
  -- count, and the room is that of the buffer: "with at most its first 65,536 bytes considered"
  pub accepts : (b : List ℕ) → Bytes b → (reading_number (reading_of b) ≡ 0) ↔ ((c : Context) × HoldsContext 2 b c)
  -- "Then there is no other such list and no other used length": whatever reading answers is the used length of any list that is held.
  -- 01: "a used length, that was made up falls to the uniqueness in demand 3"
  pub one_list : (b : List ℕ) (c d : Context) → HoldsContext 2 b c → HoldsContext 2 b d → c ≡ d
  pub one_length : (b : List ℕ) (c : Context) (v : Version) (n : ℕ) → HoldsContext 2 b c → reading_of b ≡ read_as v n → n ≡ used c
  -- "and the reading is that list with that used length"
  pub reads : (b : List ℕ) (c : Context) → HoldsContext 2 b c → ReadingIs b c
  -- "Bytes that document 01 calls silent never change it: a second buffer of at least the used length, equal to the first up to there
  -- apart from bytes silent in the first, is accepted with the same reading."
  pub silent : (b d : List ℕ) (c : Context) → HoldsContext 2 b c → DiffersInSilence c b d → HoldsContext 2 d c × SameReading b d
  -- no answer loses a member: lists that are read alike are one list, so that a reading tells every list from every other
  pub faithful : (b d : List ℕ) (c e : Context) → HoldsContext 2 b c → HoldsContext 2 d e → SameReading b d → c ≡ e

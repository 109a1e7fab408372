-- Statements: where a buffer holds a context, the questions give each of their own numbers exactly under the condition of its row in
-- document 01's table, and no other; where reading refuses the buffer, they pass that refusal on (under which condition reading gives
-- it: specs/Refusing.antt of crate ultra_acceptance). They speak of whole refusals, by 01's number and value of an answer: whatever
-- else a refusal carries is settled too. Proved in proofs/QuestionRefusals.antt: `questions_refuse`, `refusals_pass_on`.
-- A reader has to believe this file.
use Rattle.std.specs.Prelude.{ℕ, ◌*◌, ◌/◌, ◌≤◌, ◌<◌, ◌≡◌, ◌↔◌, ◌⊎◌, List, [], length, Err}
use Rattle.std.specs.Borrow.{Bor}
use Rattle.byte_layout.specs.Stored.{Bytes}
use Rattle.refusals.specs.Refusals.{COUNT, ROOM, ABSENT}
use Rattle.refusals.specs.Answers.{Answer, number_of, value_of}
use Rattle.ultra_format.specs.Contexts.{Entry, Body.memory_map, Context, count, body_at, type_at, used}
use Rattle.refusals.specs.declared.Refusal.{Refusal}
use Rattle.ultra_acceptance.specs.Acceptance.{HoldsContext}
use Rattle.ultra_reading.specs.Reading.{used_length}
use Rattle.lent_buffers.specs.LentParts.{no_part, WholeOf}
use Rattle.ultra_locating.specs.Searching.{Found.none}
use Rattle.ultra_questions.specs.AttributeQuestion.{unanswered, attribute_start, attribute_answer, PartHandedBack}
use Rattle.ultra_map_question.specs.MapQuestion.{map_copied, map_copied_bytes}
use Rattle.ultra_questions.specs.CommandLineQuestion.{line_found, command_line_part, LineHandedBack}
use Rattle.ultra_questions.specs.ModuleQuestion.{module_holding}

-- ---- the questions' own rows
-- "an index asked for at or past the count", "3 with the used length"
abbrev pub IndexRefused : Context → ℕ → Refusal → Type 0
IndexRefused c i r = (number_of (Err r) ≡ COUNT) × (value_of (Err r) ≡ used c) × (count c ≤ i)

-- "no map attribute"
abbrev pub NoMap : Context → Type 0
NoMap c = (i : ℕ) → i < count c → type_at c i ≡ 3 → ⊥

-- "a lent output is too short" for the map: "64-bit numbers, three to an entry"
abbrev pub TooShort : Context → ℕ → Type 0
TooShort c capacity = (i : ℕ) × (es : List Entry) × (i < count c) × (body_at c i ≡ memory_map es) × (capacity < 3 * length es)

-- "19 then 18, both with the used length", for an output of `capacity` numbers
abbrev pub MapRefused : Context → ℕ → Refusal → Type 0
MapRefused c capacity r = (value_of (Err r) ≡ used c) × (((number_of (Err r) ≡ ABSENT) × NoMap c) ⊎ ((number_of (Err r) ≡ ROOM) × TooShort c capacity))

-- the questions' own refusals, and no others, of a buffer that holds the context
pub record QuestionsRefuse (b : List ℕ) (c : Context) : Type 0 where
  -- the start alone, and the whole answer
  pub attribute : (i : ℕ) (r : Refusal) → (attribute_start b i ≡ Err r) ↔ IndexRefused c i r
  pub attributes : (i : ℕ) (r : Refusal) → (attribute_answer b i ≡ unanswered (Err r)) ↔ IndexRefused c i r
  pub map : (out : List ℕ) (r : Refusal) → ((map_copied b out).0 ≡ Err r) ↔ MapRefused c (length out) r
  -- "an output counts whole eights"
  pub map_bytes : (out : List ℕ) (r : Refusal) → ((map_copied_bytes b out).0 ≡ Err r) ↔ MapRefused c (length out / 8) r
  -- "the buffer and all lent memory are unchanged"; of an output of bytes this is `CopiesBytes` (MapAsBytes)
  pub kept : (out : List ℕ) (r : Refusal) → (map_copied b out).0 ≡ Err r → (map_copied b out).1 ≡ out
  pub modules : (a : ℕ) (r : Refusal) → module_holding b a ≡ Err r → ⊥

abbrev pub QuestionsRefuseExactly : Type 0
QuestionsRefuseExactly = (b : List ℕ) (c : Context) → HoldsContext 2 b c → QuestionsRefuse b c

-- ---- reading's refusals
-- "Each reads first and passes its refusal on, except the command line, which has none."
pub record PassesOn (b : List ℕ) (r : Answer) : Type 0 where
  pub starts : (i : ℕ) → attribute_start b i ≡ r
  pub attributes : (i : ℕ) → attribute_answer b i ≡ unanswered r
  pub maps : (out : List ℕ) → map_copied b out ≡ (r, out)
  -- an output of bytes: it is taken as numbers and given back as bytes
  pub maps_bytes : (out : List ℕ) → Bytes out → map_copied_bytes b out ≡ (r, out)
  pub found : line_found b ≡ none
  pub line : command_line_part b ≡ no_part
  pub modules : (a : ℕ) → module_holding b a ≡ r
  -- "an empty part if .. the buffer is refused": whatever slice is handed back of a buffer that has these bytes
  pub no_slice : (lent s : Bor (List ℕ)) (i : ℕ) → s.now ≡ b → PartHandedBack lent s i → lent.now ≡ []
  -- of the command line, "otherwise the board's text" (R-5)
  pub no_line : (lent s board : Bor (List ℕ)) → s.now ≡ b → LineHandedBack lent s board → WholeOf lent board

abbrev pub RefusalsPassOn : Type 0
RefusalsPassOn = (b : List ℕ) (r : Refusal) → used_length 2 b ≡ Err r → PassesOn b (Err r)

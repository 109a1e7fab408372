-- Statement: what the questions answer of every buffer of bytes, whatever it holds: exactly when each refuses, and of what list it answers
-- where it does not. Reading is the call `read`. Proved in proofs/EveryBuffer.antt, `every_buffer`, from the statements of
-- QuestionRefusals, ByIndex, ByContext and MapAsBytes, and from `pages` and `fits` of LastPage, alone: one that asked for more would not
-- give it.
-- A reader has to believe this file.
use Rattle.std.specs.Prelude.{ℕ, ◌+◌, ◌/◌, ◌≤◌, ◌<◌, ◌≡◌, ◌↔◌, ◌⊎◌, List, [], length, get_or, Ok, Err}
use Rattle.std.specs.Borrow.{Bor}
use Rattle.byte_layout.specs.Stored.{over}
use Rattle.ultra_format.specs.Contexts.{Entry, Body.memory_map, Body.command_line, Context, count, attribute_at, body_at, type_at, start_in}
use Rattle.refusals.specs.declared.Refusal.{Refusal}
use Rattle.ultra_reading.specs.Reading.{reading_of}
use Rattle.ultra_acceptance.specs.Acceptance.{HoldsContext}
use Rattle.lent_buffers.specs.LentParts.{part, PartOf, LiesAt, WholeOf}
use Rattle.ultra_questions.specs.Parts.{part_bytes}
use Rattle.ultra_questions.specs.AttributeQuestion.{answered, attribute_start, attribute_answer, PartHandedBack}
use Rattle.ultra_map_question.specs.MapQuestion.{numbers, map_copied, map_copied_bytes}
use Rattle.ultra_questions.specs.CommandLineQuestion.{command_line_part, LineHandedBack}
use Rattle.ultra_questions.specs.ModuleQuestion.{module_holding}
use Rattle.ultra_crossing.specs.Crossing.{part_crossed}
use Rattle.ultra_question_statements.specs.QuestionRefusals.{IndexRefused, MapRefused}
use Rattle.ultra_question_statements.specs.ByIndex.{NoModule, ModuleStart, HoldsAddress}
use Rattle.ultra_question_statements.specs.LastPage.{SamePage, OnPage}

-- reading refuses so, or the list that is held breaks the question's own condition
abbrev pub RefusedBy : List ℕ → Refusal → (Context → Type 0) → Type 0
RefusedBy b r own = (reading_of b ≡ Err r) ⊎ ((c : Context) × HoldsContext 2 b c × own c)

-- a list is held whose map has these entries
abbrev pub MapHeld : List ℕ → List Entry → Type 0
MapHeld b es = (c : Context) × HoldsContext 2 b c × (i : ℕ) × (i < count c) × (body_at c i ≡ memory_map es)

-- there is no command line: reading refuses, or the list that is held has no attribute of type 5
abbrev pub NoLine : List ℕ → Type 0
NoLine b = ((r : Refusal) × (reading_of b ≡ Err r)) ⊎ ((c : Context) × HoldsContext 2 b c × ((i : ℕ) → i < count c → type_at c i ≡ 5 → ⊥))

-- `lent` is the text of the command line that the list has, as the memory of s 8 bytes after the attribute's start
abbrev pub LineHeld : List ℕ → Bor (List ℕ) → Bor (List ℕ) → Type 0
LineHeld b lent s =
    (c : Context) × HoldsContext 2 b c × (i : ℕ) × (i < count c) × (body_at c i ≡ command_line lent.now)
    × LiesAt lent s (start_in c.attributes i + 8) × PartOf lent s (part (start_in c.attributes i + 8) (length lent.now))

pub record AnswersOf (b : List ℕ) : Type 0 where
  pub attribute_refused : (i : ℕ) (r : Refusal) → (attribute_start b i ≡ Err r) ↔ RefusedBy b r (λ c. IndexRefused c i r)
  pub map_refused : (out : List ℕ) (r : Refusal) → ((map_copied b out).0 ≡ Err r) ↔ RefusedBy b r (λ c. MapRefused c (length out) r)
  pub bytes_refused : (out : List ℕ) (r : Refusal)
      → ((map_copied_bytes b out).0 ≡ Err r) ↔ RefusedBy b r (λ c. MapRefused c (length out / 8) r)
  pub module_refused : (a : ℕ) (r : Refusal) → (module_holding b a ≡ Err r) ↔ (reading_of b ≡ Err r)
  -- "the buffer and all lent memory are unchanged"
  pub map_kept : (out : List ℕ) (r : Refusal) → (map_copied b out).0 ≡ Err r → (map_copied b out).1 ≡ out
  pub bytes_kept : (out : List ℕ) (r : Refusal) → ((i : ℕ) → get_or out i 0 < 256) → (map_copied_bytes b out).0 ≡ Err r
      → (map_copied_bytes b out).1 ≡ out
  -- where the answer at an index is a refusal, the slice that is handed back has no bytes
  pub no_part : (lent s : Bor (List ℕ)) (i : ℕ) (r : Refusal) → s.now ≡ b → attribute_start b i ≡ Err r → PartHandedBack lent s i
      → lent.now ≡ []
  -- where nothing is refused
  pub attribute_starts : (i o : ℕ) → attribute_start b i ≡ Ok o
      → (c : Context) × HoldsContext 2 b c × (i < count c) × (o ≡ start_in c.attributes i) × (attribute_answer b i ≡ answered o (attribute_at c i))
  pub map_copies : (out : List ℕ) (n : ℕ) → (map_copied b out).0 ≡ Ok n
      → (es : List Entry) × MapHeld b es × (n ≡ length es) × ((map_copied b out).1 ≡ over (numbers es) out)
  pub bytes_copied : (out : List ℕ) (n : ℕ) → ((i : ℕ) → get_or out i 0 < 256) → (map_copied_bytes b out).0 ≡ Ok n
      → (es : List Entry) × MapHeld b es × (n ≡ length es) × ((map_copied_bytes b out).1 ≡ over (part_bytes (memory_map es)) out)
  pub module_start : (a o : ℕ) → (module_holding b a ≡ Ok o) ↔ ((c : Context) × HoldsContext 2 b c × ModuleStart (HoldsAddress a) c o)
  -- the same by pages: the first module that has a byte on the address's page
  pub module_page : (a o : ℕ) → (module_holding b a ≡ Ok o) ↔ ((c : Context) × HoldsContext 2 b c × ModuleStart (OnPage a) c o)
  -- "the page was given to the allocator": 0 now tells that no module has a byte on the page
  pub page_free : (a : ℕ) → (module_holding b a ≡ Ok 0) ↔ ((c : Context) × HoldsContext 2 b c × NoModule (OnPage a) c)
  -- "the rounded end can't pass 2^64": no address from there on is held
  pub held_below : (a o : ℕ) → module_holding b a ≡ Ok o → 1 ≤ o → a < 18446744073709551616
  -- every address of a page gets the same answer, of a refused buffer too
  pub one_page : (a x : ℕ) → SamePage a x → module_holding b a ≡ module_holding b x
  -- "hands back the context's own line where the context is accepted and has one, even an empty one, and otherwise the board's text": all
  -- of it, whatever it is
  pub line : (lent s board : Bor (List ℕ)) → s.now ≡ b → LineHandedBack lent s board → (WholeOf lent board × NoLine b) ⊎ LineHeld b lent s
  -- "0 still means no line": the number toward C
  pub line_number : (part_crossed (command_line_part b) ≡ 0) ↔ NoLine b

abbrev pub EveryBuffer : Type 0
EveryBuffer = (b : List ℕ) → ((i : ℕ) → get_or b i 0 < 256) → AnswersOf b

-- Statements: several modules in one call are added as by single adds, one after the other. Request R-1 of document 02: "add them in order,
-- with the same bytes and answers as adding them one by one. The call stops at the first refusal and answers how many were added besides the
-- refusal. With no modules it answers 0 with value 0 and doesn't look at the buffer. What went before the refused module stays .. Refusals:
-- those of adding a module."
-- Proved in proofs/OneByOne.antt: `one_by_one_exactly`, from it `modules_refuse`, and from the two `every_list`.
-- A reader has to believe this file.
use Rattle.std.specs.Prelude.{ℕ, zero, suc, ◌≤◌, ◌<◌, ◌≡◌, true, ◌↔◌, ◌⊎◌, List, [], ◌∷◌, length, get_or, take, Ok, Err}
use Rattle.byte_layout.specs.Stored.{Bytes}
use Rattle.refusals.specs.Answers.{Answer, number_of, value_of}
use Rattle.refusals.specs.declared.Refusal.{Refusal}
use Rattle.ultra_format.specs.Additions.{Addition.add_module, body_given}
use Rattle.ultra_format.specs.declared.records.ModuleRecord.{ModuleRecord}
use Rattle.ultra_building.specs.AddingRefusals.{AddRefused}
use Rattle.ultra_modules.specs.declared.ModulesAdded.{ModulesAdded}
use Rattle.ultra_modules.specs.Modules.{answer_and_count, module_at, module_added, modules_added}

-- the buffer after single adds of the modules, one after the other, whatever each answers
unfoldable pub after_adds : List ℕ → List ModuleRecord → List ℕ
after_adds b [] = b
after_adds b (m ∷ ms) = after_adds (module_added b m).1 ms

-- the single add of the module at an index, on the buffer that the adds of those before it left
abbrev pub single_add : List ℕ → List ModuleRecord → ℕ → Answer × List ℕ
single_add b ms i = module_added (after_adds b (take i ms)) (module_at ms i)

-- an add that is not refused
abbrev pub Accepted : Answer × List ℕ → Type 0
Accepted r = number_of r.0 ≡ 0

-- r is answered of the modules, and d is the buffer afterwards
pub record OneByOne (b : List ℕ) (ms : List ModuleRecord) (r : ModulesAdded) (d : List ℕ) : Type 0 where
  -- "how many were added": that many from the first on, and each was accepted
  pub within : r.added ≤ length ms
  pub accepted : (i : ℕ) → i < r.added → Accepted (single_add b ms i)
  -- "the same bytes"; "What went before the refused module stays"
  pub bytes : d ≡ after_adds b (take r.added ms)
  -- "stops at the first refusal": it is given, and nothing more is changed
  pub refused : r.added < length ms → (Accepted (single_add b ms r.added) → ⊥) × (single_add b ms r.added ≡ (r.answer, d))
  -- "the same .. answers": where all were added, the last add's
  pub last : (n : ℕ) → length ms ≡ suc n → r.added ≡ suc n → r.answer ≡ (single_add b ms n).0
  -- "With no modules it answers 0 with value 0"
  pub none : length ms ≡ zero → r.answer ≡ Ok 0

-- what is answered and left is just that, of every buffer and every list
abbrev pub OneByOneExactly : Type 0
OneByOneExactly = (b : List ℕ) (ms : List ModuleRecord) (r : ModulesAdded) (d : List ℕ) → ((r, d) ≡ modules_added b ms) ↔ OneByOne b ms r d

-- the add of the module at an index is to be refused with r, after those before it were added
abbrev pub NextRefused : List ℕ → List ModuleRecord → ℕ → Refusal → Type 0
NextRefused b ms n r =
    AddRefused (after_adds b (take n ms)) true (body_given (add_module (module_at ms n))) (number_of (Err r)) (value_of (Err r))

-- "Refusals: those of adding a module": n are added and the next is refused exactly where the adds of the first n are accepted and the table
-- refuses the add of the next, by that number and value. Of the buffer only that its elements are bytes is assumed.
abbrev pub ModulesRefuse : Type 0
ModulesRefuse =
    (b : List ℕ) (ms : List ModuleRecord) (n : ℕ) (r : Refusal) → Bytes b
    → ((modules_added b ms).0 ≡ answer_and_count (Err r) n)
    ↔ ((n < length ms) × ((i : ℕ) → i < n → Accepted (single_add b ms i)) × NextRefused b ms n r)

-- from the two: of every buffer of bytes and every list, all are added or the table refuses one. A statement that asked for more would not
-- give it.
abbrev pub EveryList : Type 0
EveryList =
    (b : List ℕ) (ms : List ModuleRecord) → ((i : ℕ) → get_or b i 0 < 256)
    → ((used : ℕ) × ((modules_added b ms).0 ≡ answer_and_count (Ok used) (length ms)))
    ⊎ ((n : ℕ) × (r : Refusal) × ((modules_added b ms).0 ≡ answer_and_count (Err r) n) × (n < length ms) × NextRefused b ms n r)

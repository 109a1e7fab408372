-- What adding several modules answers, and what it leaves in the buffer: request R-1 of document 02.
-- A reader has to believe this file.
use Rattle.std.specs.Prelude.{ℕ, ◌+◌, List, [], ◌∷◌, get_or, Ok, Err}
use Rattle.refusals.specs.Answers.{Answer}
use Rattle.ultra_format.specs.Records.{blank_module, module_record}
use Rattle.ultra_format.specs.Additions.{Addition.add_module}
use Rattle.ultra_format.specs.declared.records.ModuleRecord.{ModuleRecord}
use Rattle.ultra_adding.specs.Adding.{added}
use Rattle.ultra_modules.specs.declared.ModulesAdded.{ModulesAdded}

-- "answers how many were added besides the refusal"
abbrev pub answer_and_count : Answer → ℕ → ModulesAdded
answer_and_count a n = record { answer = a; added = n }

-- the record at an index; past the list's end a blank one, which is never asked for
abbrev pub module_at : List ModuleRecord → ℕ → ModuleRecord
module_at ms i = get_or ms i (module_record blank_module)

-- the first where an add is accepted, the second where it is refused
abbrev pub if_done : {X : Type 0} → Answer → X → X → X
if_done (Ok used) more stop = more
if_done (Err r) more stop = stop

-- "add them in order .. The call stops at the first refusal": what `add` makes of the modules that are left, where the one before answered a
-- and n were added. What is added to is a buffer here, and a list in demand 2.
unfoldable pub in_turn : {X : Type 0} → (X → ModuleRecord → Answer × X) → Answer → ℕ → X → List ModuleRecord → ModulesAdded × X
in_turn add a n x [] = (answer_and_count a n, x)
in_turn add a n x (m ∷ ms) = let r = add x m in if_done r.0 (in_turn add r.0 (n + 1) r.1 ms) (answer_and_count r.0 n, r.1)

-- "with the same bytes and answers as adding them one by one"
abbrev pub module_added : List ℕ → ModuleRecord → Answer × List ℕ
module_added b m = added b (add_module m)

-- the answer with how many were added, and the buffer afterwards. "With no modules it answers 0 with value 0 and doesn't look at the buffer."
unfoldable pub modules_added : List ℕ → List ModuleRecord → ModulesAdded × List ℕ
modules_added b ms = in_turn module_added (Ok 0) 0 b ms

-- A turn of the loop over the modules.
-- Serves the library's own functions and proofs: no published contract or promise rests on it.
use Rattle.std.specs.Prelude.{ℕ, ◌+◌, Bool, false, List, ltb, Ok}
use Rattle.refusals.specs.Answers.{Answer}
use Rattle.ultra_format.specs.declared.records.ModuleRecord.{ModuleRecord}
use Rattle.ultra_modules.specs.declared.ModulesAdded.{ModulesAdded}
use Rattle.ultra_modules.specs.Modules.{answer_and_count, if_done, module_added}

-- before the first module
abbrev pub none_yet : ModulesAdded
none_yet = answer_and_count (Ok 0) 0

-- whether a module is left to add
abbrev pub goes_on : ModulesAdded → ℕ → Bool
goes_on s n = if_done s.answer (ltb s.added n) false

-- a module that is added is counted
abbrev pub counting : Answer → ℕ → ModulesAdded
counting a n = if_done a (answer_and_count a (n + 1)) (answer_and_count a n)

-- after one more module
abbrev pub next_added : List ℕ → ModuleRecord → ModulesAdded → ModulesAdded × List ℕ
next_added b m s = let r = module_added b m in (counting r.0 s.added, r.1)

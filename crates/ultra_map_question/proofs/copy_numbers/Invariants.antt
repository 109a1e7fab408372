-- `ultra_map_question::copy_numbers` meets its contract: after i turns the front of the part written to has the first i numbers.
use mathlib.Core.Path.{◌≡◌}
use mathlib.Core.List.{◌++◌}
use lib.ListN.{drop}
use Rattle.words.specs.Words.{numbers_at}
use Rattle.ultra_map_question.proofs.copy_numbers.Given as goal

abbrev pub invariant-loop-i : goal.invariant-loop-i
invariant-loop-i l = l.number-items ≡ numbers_at l.bytes l.at l.i ++ drop l.i l.initial.number-items

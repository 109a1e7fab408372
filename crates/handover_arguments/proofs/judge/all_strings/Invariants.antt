-- `handover_arguments::judge::all_strings` meets its contract: the test holds of every record before `i`.
use mathlib.Core.Path.{◌≡◌}
use mathlib.Core.Bool.{true}
use Rattle.handover_arguments.specs.Judging.{every, strings_good}
use Rattle.handover_arguments.proofs.judge.all_strings.Given as goal

abbrev pub invariant-loop-i : goal.invariant-loop-i
invariant-loop-i l = every (strings_good l.records l.parts l.run) l.i ≡ true

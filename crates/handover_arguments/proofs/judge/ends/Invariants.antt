-- `handover_arguments::judge::ends` meets its contract: the test holds of every record before `i`.
use mathlib.Core.Path.{◌≡◌}
use mathlib.Core.Bool.{true}
use Rattle.handover_arguments.specs.Judging.{every, end_good}
use Rattle.handover_arguments.proofs.judge.ends.Given as goal

abbrev pub invariant-loop-i : goal.invariant-loop-i
invariant-loop-i l = every (end_good l.records l.count) l.i ≡ true

-- `handover_arguments::judge::ranges` meets its contract: the test holds of every record before `i`.
use mathlib.Core.Path.{◌≡◌}
use mathlib.Core.Bool.{true}
use Rattle.handover_arguments.specs.Judging.{every, range_good}
use Rattle.handover_arguments.proofs.judge.ranges.Given as goal

abbrev pub invariant-loop-i : goal.invariant-loop-i
invariant-loop-i l = every (range_good l.records) l.i ≡ true

-- `handover_arguments::judge::ranges` meets its contract: the record at `i` stops the test.
use Rattle.std.proofs.Common.{arith}
use Rattle.handover_arguments.specs.Judging.{range_good}
use Rattle.handover_arguments.proofs.EveryLaws.{every_stop}
use Rattle.handover_arguments.proofs.judge.ranges.Goals as goal

pub returns-then-not-fits : goal.returns-then-not-fits
returns-then-not-fits c = grind (arith, every_stop (range_good c.args.records.now) c.args.count c.loop-i.i)

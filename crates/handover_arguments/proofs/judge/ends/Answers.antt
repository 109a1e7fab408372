-- `handover_arguments::judge::ends` meets its contract: the record at `i` stops the test.
use Rattle.std.proofs.Common.{arith}
use Rattle.handover_arguments.specs.Judging.{end_good}
use Rattle.handover_arguments.proofs.EveryLaws.{every_stop}
use Rattle.handover_arguments.proofs.judge.ends.Goals as goal

pub returns-then-not-end_suits : goal.returns-then-not-end_suits
returns-then-not-end_suits c = grind (arith, every_stop (end_good c.args.records.now c.args.count) c.args.count c.loop-i.i)

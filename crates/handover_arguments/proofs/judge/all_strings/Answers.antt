-- `handover_arguments::judge::all_strings` meets its contract: the record at `i` stops the test.
use Rattle.std.proofs.Common.{arith}
use Rattle.handover_arguments.specs.Judging.{strings_good}
use Rattle.handover_arguments.proofs.EveryLaws.{every_stop}
use Rattle.handover_arguments.proofs.judge.all_strings.Goals as goal

pub returns-then-not-strings_good : goal.returns-then-not-strings_good
returns-then-not-strings_good c = grind (arith, every_stop (strings_good c.args.records.now c.args.parts.now c.args.run.now) c.args.count c.loop-i.i)

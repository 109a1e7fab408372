-- `probe_export` meets its contract: the answer of the call below, crossed.
use Rattle.ultra_crossing.proofs.Crossings.{crossing}
use Rattle.stack_probe.proofs.probe_export.Goals as goal

pub returns : goal.returns
returns c = crossing c.of_answer.ensures c.export.ensures

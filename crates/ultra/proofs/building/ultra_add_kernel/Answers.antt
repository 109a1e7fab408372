-- `ultra::building::ultra_add_kernel` meets its contract: the answer of the call below, crossed.
use Rattle.ultra_crossing.proofs.Crossings.{crossing}
use Rattle.ultra.proofs.building.ultra_add_kernel.Goals as goal

pub returns : goal.returns
returns c = crossing c.of_answer.ensures c.add_kernel.ensures

-- `ultra::questions::ultra_copy_map` meets its contract: the answer of the call below, crossed.
use Rattle.ultra_crossing.proofs.Crossings.{crossing}
use Rattle.ultra.proofs.questions.ultra_copy_map.Goals as goal

pub returns : goal.returns
returns c = crossing c.of_answer.ensures c.copy_map_bytes.ensures

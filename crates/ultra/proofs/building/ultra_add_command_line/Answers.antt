-- `ultra::building::ultra_add_command_line` meets its contract: the answer of the call below, crossed.
use Rattle.ultra_format.specs.Additions.{body_given}
use Rattle.ultra_crossing.proofs.Crossings.{crossing}
use Rattle.ultra.proofs.building.ultra_add_command_line.Goals as goal

pub returns : goal.returns
unfolding body_given
returns c = crossing c.of_answer.ensures c.add_command_line.ensures

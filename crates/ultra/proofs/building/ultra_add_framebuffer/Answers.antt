-- `ultra::building::ultra_add_framebuffer` meets its contract: the answer of the call below, crossed.
use Rattle.ultra_format.specs.Additions.{body_given}
use Rattle.ultra_crossing.proofs.Crossings.{crossing}
use Rattle.ultra.proofs.building.ultra_add_framebuffer.Goals as goal

pub returns : goal.returns
unfolding body_given
returns c = crossing c.of_answer.ensures c.add_framebuffer.ensures

-- `ultra::questions::ultra_attribute` meets its contract: the answer of the call below, crossed.
use mathlib.Core.Path.{ap, ◌∙◌}
use Rattle.ultra_crossing.specs.Crossing.{answer_crossed}
use Rattle.ultra.proofs.questions.ultra_attribute.Goals as goal

pub returns : goal.returns
returns c = c.of_answer.ensures ∙ ap answer_crossed c.attribute_start.ensures

-- `ultra::reading::ultra_step` meets its contract: the answer of the call below, crossed.
use mathlib.Core.Path.{ap, ◌∙◌}
use Rattle.ultra_crossing.specs.Crossing.{step_crossed}
use Rattle.ultra.proofs.reading.ultra_step.Goals as goal

pub returns : goal.returns
returns c = c.of_step.ensures ∙ ap step_crossed c.step.ensures

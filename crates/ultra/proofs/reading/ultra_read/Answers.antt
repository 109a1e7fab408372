-- `ultra::reading::ultra_read` meets its contract: the answer of the call below, crossed.
use mathlib.Core.Path.{ap, ◌∙◌}
use Rattle.ultra_crossing.specs.Crossing.{reading_crossed}
use Rattle.ultra.proofs.reading.ultra_read.Goals as goal

pub returns : goal.returns
returns c = c.of_reading.ensures ∙ ap reading_crossed c.read.ensures

-- `ultra::questions::ultra_command_line` meets its contract: the answer of the call below, crossed.
use mathlib.Core.Path.{ap, ◌∙◌}
use Rattle.ultra_crossing.specs.Crossing.{part_crossed}
use Rattle.ultra.proofs.questions.ultra_command_line.Goals as goal

pub returns : goal.returns
returns c = c.of_part.ensures ∙ ap part_crossed c.command_line_part.ensures

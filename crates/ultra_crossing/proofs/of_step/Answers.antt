-- `of_step` meets its contract, case by case.
use mathlib.Core.Path.{sym, ap, ◌∙◌}
use Rattle.ultra_crossing.specs.Crossing.{step_crossed}
use Rattle.ultra_crossing.proofs.of_step.Goals as goal

pub returns-in-Err : goal.returns-in-Err
returns-in-Err c = c.of_refusal.ensures ∙ sym (ap step_crossed c.in-Err.is)

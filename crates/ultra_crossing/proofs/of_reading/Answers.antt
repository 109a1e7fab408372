-- `of_reading` meets its contract, case by case.
use mathlib.Core.Path.{sym, ap, ◌∙◌}
use Rattle.ultra_crossing.specs.Crossing.{reading_crossed}
use native.Mathlib.Nat.{zero-add}
use Rattle.ultra_crossing.proofs.of_reading.Goals as goal

pub returns-in-Ok : goal.returns-in-Ok
returns-in-Ok c = sym (zero-add _) ∙ sym (ap reading_crossed c.in-Ok.is)

pub returns-in-Err : goal.returns-in-Err
returns-in-Err c = c.of_refusal.ensures ∙ sym (ap reading_crossed c.in-Err.is)

-- `ultra_stepping::cursor::check` meets its contract: one law a return.
use Prim.Native.Nat.{ℕ}
use mathlib.Core.Path.{ap, ◌∙◌}
use Rattle.ultra_stepping.specs.Checks.{bounds_check}
use native.Mathlib.Omega.{arith}
use Rattle.ultra_stepping.proofs.StepLaws.{stop_low, stop_crooked, only_bounds}
use Rattle.refusals.specs.Answers.{checked}
use Rattle.ultra_stepping.proofs.cursor.check.Goals as goal

pub returns-then-offset-lt8 : goal.returns-then-offset-lt8
returns-then-offset-lt8 c = ap checked (stop_low _ _ (omega arith))

pub returns-then-offset-ne0 : goal.returns-then-offset-ne0
returns-then-offset-ne0 c = ap checked (stop_crooked _ _ (omega arith) (λ e. omega arith))

pub returns : goal.returns
returns c =
    let a = c.args in
    c.check.ensures ∙ ap checked (ap (λ (r : ℕ). bounds_check a.buf.now r a.offset) c.room.ensures
    ∙ only_bounds a.buf.now a.offset (omega arith) (omega arith))

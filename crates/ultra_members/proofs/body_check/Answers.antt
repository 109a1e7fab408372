-- `ultra_members::body_check` meets its contract: each arm's answer is that of the body that its type decodes to.
use mathlib.Core.Path.{refl, ◌∙◌, ap}
use native.Mathlib.Omega.{arith}
use Rattle.ultra_format.specs.Decoding.{decoded}
use Rattle.ultra_members.proofs.Bodies.{of_type_law, of_other}
use Rattle.refusals.specs.Answers.{checked}
use Rattle.ultra_members.proofs.body_check.Goals as goal

pub returns-in-1 : goal.returns-in-1
unfolding decoded
returns-in-1 c = c.check.ensures ∙ ap checked (of_type_law _ _ _ c.in-1.is refl)

pub returns-in-2 : goal.returns-in-2
unfolding decoded
returns-in-2 c = c.check-in-2.ensures ∙ ap checked (of_type_law _ _ _ c.in-2.is refl)

pub returns-in-3 : goal.returns-in-3
unfolding decoded
returns-in-3 c = c.check-in-3.ensures ∙ ap checked (of_type_law _ _ _ c.in-3.is refl)

pub returns-in-4 : goal.returns-in-4
unfolding decoded
returns-in-4 c = c.check-in-4.ensures ∙ ap checked (of_type_law _ _ _ c.in-4.is refl)

pub returns-in-5 : goal.returns-in-5
unfolding decoded
returns-in-5 c = c.check-in-5.ensures ∙ ap checked (of_type_law _ _ _ c.in-5.is refl)

pub returns-in-6 : goal.returns-in-6
unfolding decoded
returns-in-6 c = c.check-in-6.ensures ∙ ap checked (of_type_law _ _ _ c.in-6.is refl)

pub returns-in_default : goal.returns-in_default
returns-in_default c = ap checked (of_other _ _ _ _ (omega arith) (omega arith) (omega arith) (omega arith) (omega arith) (omega arith))

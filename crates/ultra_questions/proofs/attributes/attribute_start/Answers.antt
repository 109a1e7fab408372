-- `ultra_questions::attributes::attribute_start` meets its contract.
use Rattle.std.specs.Prelude.{Ok, Err}
use mathlib.Core.Path.{sym, ap, ◌∙◌}
use native.Mathlib.Omega.{arith}
use Rattle.ultra_locating.specs.Passing.{Accepts}
use Rattle.ultra_acceptance.proofs.Walked.{in_bounds}
use Rattle.ultra_locating.proofs.Located.{reading, head_inside, inside}
use Rattle.ultra_questions.proofs.AttributeLaws.{start_passed, start_past, start_found}
use Rattle.ultra_questions.proofs.attributes.attribute_start.Goals as goal
use Rattle.ultra_questions.proofs.attributes.attribute_start.Goals.{In-Ok}

-- after the `let .. else`, reading has accepted the buffer
abbrev accepts : (c : In-Ok) → Accepts c.args.buf.now
accepts c = (_, sym c.used_length-answer.ensures ∙ c.in-Ok.is)

pub returns-in_default : goal.returns-in_default
returns-in_default c =
    let s = c.args in
    let e = c.in_default.is in
    e ∙ start_passed s.buf.now s.index (sym c.used_length-answer.ensures ∙ e)

pub load_u32-requires : goal.load_u32-requires
load_u32-requires c = omega (arith, head_inside _ (accepts (goal.at.load_u32-requires c).In-Ok))

pub returns-then-load_u32-index : goal.returns-then-load_u32-index
returns-then-load_u32-index c =
    let s = c.args in
    ap Err c.new.ensures ∙ start_past s.buf.now s.index _ (accepts (goal.at.returns-then-load_u32-index c).In-Ok).1 (omega (arith, c.load_u32.ensures))

pub start_of-requires : goal.start_of-requires
start_of-requires c = λ j l. in_bounds 2 _ _ (reading _ (accepts (goal.at.start_of-requires c).In-Ok)) j (omega (arith, c.load_u32.ensures))

pub overflow_cast-result : goal.overflow_cast-result
overflow_cast-result c =
    let s = c.args in
    omega (arith, c.start_of.ensures, inside _ (accepts (goal.at.overflow_cast-result c).In-Ok) s.index (omega (arith, c.load_u32.ensures)))

pub returns : goal.returns
returns c =
    let s = c.args in
    ap Ok c.start_of.ensures ∙ start_found s.buf.now s.index _ (accepts (goal.at.returns c).In-Ok).1 (omega (arith, c.load_u32.ensures))

-- `handover_questions::indexed` meets its contract.
use Rattle.std.specs.Prelude.{Ok, Err}
use mathlib.Core.Path.{◌≡◌, sym, ap, ◌∙◌}
use native.Mathlib.Omega.{arith}
use Rattle.handover_reading.specs.PayloadReading.{reading_of}
use Rattle.handover_reading.proofs.Accepted.{accepted}
use Rattle.handover_questions.proofs.QuestionLaws.{index_passed, index_past, index_found}
use Rattle.handover_questions.proofs.indexed.Goals as goal
use Rattle.handover_questions.proofs.indexed.Goals.{In-Ok}

-- after the `let .. else`, reading has accepted the buffer
done : (c : In-Ok) → reading_of c.args.buf.now ≡ Ok c.in-Ok.size
done c = sym c.read-answer.ensures ∙ c.in-Ok.is

pub returns-in_default : goal.returns-in_default
returns-in_default c =
    let s = c.args in
    let e = c.in_default.is in
    e ∙ index_passed s.buf.now s.index _ (sym c.read-answer.ensures ∙ e)

pub load_u32-requires : goal.load_u32-requires
load_u32-requires c = omega (arith, (accepted _ _ (done (goal.at.load_u32-requires c).In-Ok)).head)

pub returns-then-load_u32-index : goal.returns-then-load_u32-index
returns-then-load_u32-index c =
    let s = c.args in
    ap Err c.new.ensures ∙ index_past s.buf.now s.index _ (done (goal.at.returns-then-load_u32-index c).In-Ok) (omega (arith, c.load_u32.ensures))

pub returns : goal.returns
returns c =
    let s = c.args in
    index_found s.buf.now s.index _ (done (goal.at.returns c).In-Ok) (omega (arith, c.load_u32.ensures))

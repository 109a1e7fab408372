-- `handover_questions::agent` meets its contract.
use Rattle.std.specs.Prelude.{Ok}
use mathlib.Core.Path.{◌≡◌, sym, ap, ◌∙◌}
use native.Mathlib.Omega.{arith}
use Rattle.handover_format.specs.Payloads.{record_start}
use Rattle.handover_reading.specs.PayloadReading.{reading_of}
use Rattle.handover_reading.proofs.Accepted.{accepted}
use Rattle.handover_questions.specs.Questions.{agent_refused}
use Rattle.handover_questions.proofs.QuestionLaws.{agent_passed, agent_found, closes_at}
use Rattle.handover_questions.proofs.agent.Goals as goal
use Rattle.handover_questions.proofs.agent.Goals.{In-Ok}

-- after the `let .. else`, reading has accepted the buffer
done : (c : In-Ok) → reading_of c.args.buf.now ≡ Ok c.in-Ok.size
done c = sym c.read-answer.ensures ∙ c.in-Ok.is

pub returns-in_default : goal.returns-in_default
returns-in_default c =
    let e = c.in_default.is in
    c.no_agent.ensures ∙ ap agent_refused e ∙ agent_passed _ _ (sym c.read-answer.ensures ∙ e)

pub load_u32-offset-requires : goal.load_u32-offset-requires
load_u32-offset-requires c = omega (arith, (accepted _ _ (done (goal.at.load_u32-offset-requires c).In-Ok)).head)

pub load_u32-requires : goal.load_u32-requires
load_u32-requires c = omega (arith, (accepted _ _ (done (goal.at.load_u32-requires c).In-Ok)).head)

pub overflow_sub-size : goal.overflow_sub-size
overflow_sub-size c = let a = accepted _ _ (done (goal.at.overflow_sub-size c).In-Ok) in omega (arith, a.used, a.head, c.load_u32.ensures)

pub string_part-name-requires : goal.string_part-name-requires
string_part-name-requires c =
    let a = accepted _ _ (done (goal.at.string_part-name-requires c).In-Ok) in
    let t = c.load_u32.ensures in
    let o = c.load_u32-offset.ensures in
    let z = a.used in
    record { extent_in_bounds = (omega (arith, a.head), omega (arith, a.head)); offset_value = closes_at _ _ _ _ _ t z o a.agent }

pub returns : goal.returns
returns c =
    agent_found _ _ _ _ _ (done (goal.at.returns c).In-Ok) c.load_u32-offset.ensures (ap record_start c.load_u32.ensures) c.string_part-name.ensures

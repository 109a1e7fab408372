-- `handover_reading::body` meets its contract: one law a return.
use Rattle.std.specs.Prelude.{Ok, Err}
use Prim.Native.Nat.{◌-◌}
use mathlib.Core.Path.{◌≡◌, sym, ap, ◌∙◌}
use borrow.Author.Tests.{not-true, not-false}
use Rattle.handover_format.specs.Payloads.{record_start}
use Rattle.handover_format.specs.PayloadDecoding.{stored_agent}
use Rattle.handover_reading.specs.PayloadReading.{record_check, closes, each_of}
use Rattle.refusals.proofs.Chains.{passed_on}
use Rattle.handover_reading.proofs.AnswerLaws.{body_refused, body_agent, body_strings}
use Rattle.handover_reading.proofs.body.Goals as goal
use Rattle.handover_reading.proofs.body.Goals.{After-closes, In_ok-each}

-- after the `let .. else` the records have passed
done : (c : In_ok-each) → let a = c.args in
    each_of (record_check a.buf.now a.count) a.size 0 a.count ≡ Ok c.in_ok-each.field-0
done c = sym c.in_ok-each.ensures

-- what the test answers of the agent that was loaded
agent : (c : After-closes) → let a = c.args in
    closes a.buf.now (record_start a.count) (a.size - record_start a.count) (stored_agent a.buf.now) ≡ c.closes.result
agent c = sym (c.closes.ensures ∙ ap (closes _ _ _) c.load_u32.ensures)

pub returns-in_err-each : goal.returns-in_err-each
returns-in_err-each c = passed_on _ c.from_residual.ensures.1 ∙ body_refused _ _ _ _ (sym c.in_err-each.ensures)

pub returns-then-not-closes : goal.returns-then-not-closes
returns-then-not-closes c =
    ap Err c.new.ensures ∙ body_agent _ _ _ _ (done (goal.at.returns-then-not-closes c).In_ok-each) (agent (goal.at.returns-then-not-closes c).After-closes ∙ not-true _ c.if-not-closes.true-raw)

pub returns : goal.returns
returns c =
    c.each-2.ensures ∙ body_strings _ _ _ _ (done (goal.at.returns c).In_ok-each) (agent (goal.at.returns c).After-closes ∙ not-false _ c.if-not-closes.false-raw)

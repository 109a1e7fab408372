-- `handover_reading::strings::each` meets its contract. The invariant: the answer from record `i` on is the answer from the first on.
use Rattle.std.proofs.Common.{◌≡◌, ◌-◌, sym, ap, ◌∙◌, arith, Err}
use Rattle.refusals.specs.Answers.{checked}
use Rattle.handover_format.specs.Payloads.{record_start}
use Rattle.handover_reading.specs.PayloadReading.{strings_check, named_check}
use Rattle.handover_reading.proofs.EachLaws.{each_refuse, each_next, each_end}
use Rattle.handover_reading.proofs.strings.each.Goals as goal
use Rattle.handover_reading.proofs.strings.each.Goals.{After-check}

-- what the test answers, of the record that was loaded
said : (c : After-check)
    → checked (named_check c.args.buf.now (record_start c.args.count) (c.args.size - record_start c.args.count) c.loop-i.i) ≡ c.check.result
said c = sym (c.check.ensures ∙ ap checked (ap (strings_check _ _ _) c.load.ensures))

pub returns-in-Err : goal.returns-in-Err
returns-in-Err c =
    let l = c.loop-i in
    ap Err c.at.ensures ∙ each_refuse _ _ l.i _ _ c.loop-i-test.true (said (goal.at.returns-in-Err c).After-check ∙ c.in-Err.is) ∙ l.invariant

pub loop-i-preserved : goal.loop-i-preserved
loop-i-preserved c =
    let l = c.loop-i in
    each_next _ _ l.i _ c.loop-i-test.true (said (goal.at.loop-i-preserved c).After-check ∙ c.in_default.is) ∙ l.invariant

pub returns : goal.returns
returns c = each_end _ _ c.loop-i.i _ (omega arith) ∙ c.loop-i.invariant

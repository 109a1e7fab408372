-- `spelling::joined` meets its contract: after the last turn, all numbers are put.
use Rattle.text_output.proofs.Puts.{joined_all}
use Rattle.text_output.proofs.spelling.joined.Goals as goal

pub returns : goal.returns
returns c =
    let s = c.in-Some in
    joined_all _ c.args.separator _ _ _ s.first.now s.others.now c.loop-number.number-index s.ensures.cases.0 c.loop-number-test.false
    c.decimal-at.ensures c.loop-number.invariant

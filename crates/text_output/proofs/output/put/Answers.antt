-- `output::put` meets its contract: a byte past the end is not put.
use Rattle.text_output.proofs.Puts.{put_past, put_within}
use Rattle.text_output.proofs.output.put.Goals as goal

pub returns-then-out-at : goal.returns-then-out-at
returns-then-out-at c =
    let a = c.args in
    put_past a.out.now a.to a.byte c.next.result c.next.ensures c.if-out-at.true

pub returns : goal.returns
returns c =
    let a = c.args in
    put_within a.out.now a.to a.byte c.next-2.result c.next-2.ensures

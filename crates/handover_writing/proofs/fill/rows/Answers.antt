-- `handover_writing::fill::rows` meets its contract: the records before `i` are stored, and `at` is where this one's strings start.
use Rattle.std.proofs.Common.{arith}
use Rattle.handover_arguments.proofs.MeasureLaws.{start_first, start_below, agent_below}
use Rattle.handover_writing.proofs.FillLaws.{first_rows}
use Rattle.handover_writing.proofs.fill.rows.Goals as goal

pub loop-i-init : goal.loop-i-init
loop-i-init c =
    let a = c.args in
    record {
      next = omega (arith, c.agent_width-at.ensures, start_first a.records.now a.parts.now, agent_below a.records.now a.parts.now a.count, c.requires.count_bound);
      stored = λ run. first_rows a.records.now a.parts.now run a.out.now;
    }

pub row_at-at-requires-clause-i_bound : goal.row_at-at-requires-clause-i_bound
row_at-at-requires-clause-i_bound c =
    let a = c.args in
    omega (arith, c.loop-i.invariant.next, start_below a.records.now a.parts.now a.count c.loop-i.i c.loop-i-test.true, c.requires.count_bound)

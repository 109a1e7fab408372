-- `cases_text::print::field` counts no more zeros than it has passed bytes.
use Rattle.std.proofs.Common.{◌≤◌}
use Rattle.cases_text.proofs.print.field.Given as goal

abbrev pub invariant-loop-byte : goal.invariant-loop-byte
invariant-loop-byte g l = l.zeros ≤ l.byte-index

-- `handover_reading::strings::closes` meets its contract.
use native.Mathlib.Omega.{arith}
use Rattle.handover_reading.proofs.RecordLaws.{past_table, in_table}
use Rattle.handover_reading.proofs.strings.closes.Goals as goal

pub returns-then-extent-at : goal.returns-then-extent-at
returns-then-extent-at c = let a = c.args in past_table a.buf.now a.table a.extent a.offset (omega arith)

pub returns : goal.returns
returns c = let a = c.args in in_table a.buf.now a.table a.extent a.offset _ c.text_length.ensures.0

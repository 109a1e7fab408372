-- `handover_reading::strings::check` meets its contract: one law a return.
use borrow.Author.Tests.{not-true, not-false}
use Rattle.handover_reading.proofs.RecordLaws.{stop_name, stop_meta, strings_pass, slot_said}
use mathlib.Core.Path.{ap}
use Rattle.refusals.specs.Answers.{checked}
use Rattle.handover_reading.proofs.strings.check.Goals as goal

pub returns-then-not-named_closes : goal.returns-then-not-named_closes
returns-then-not-named_closes c = ap checked (stop_name _ _ _ _ (slot_said _ _ _ _ _ c.named_closes.ensures c.names_name-name.ensures (not-true _ c.if-not-named_closes.true-raw)))

pub returns-then-not-named_closes-2 : goal.returns-then-not-named_closes-2
returns-then-not-named_closes-2 c = ap checked (stop_meta _ _ _ _ (slot_said _ _ _ _ _ c.named_closes.ensures c.names_name-name.ensures (not-false _ c.if-not-named_closes.false-raw)) (slot_said _ _ _ _ _ c.named_closes-2.ensures c.names_meta-meta.ensures (not-true _ c.if-not-named_closes-2.true-raw)))

pub returns : goal.returns
returns c = ap checked (strings_pass _ _ _ _ (slot_said _ _ _ _ _ c.named_closes.ensures c.names_name-name.ensures (not-false _ c.if-not-named_closes.false-raw)) (slot_said _ _ _ _ _ c.named_closes-2.ensures c.names_meta-meta.ensures (not-false _ c.if-not-named_closes-2.false-raw)))

-- `handover_reading::strings::named_closes` meets its contract.
use mathlib.Core.Path.{◌∙◌}
use borrow.Author.Tests.{not-true, not-false}
use Rattle.handover_reading.proofs.RecordLaws.{unnamed_suits, named_suits}
use Rattle.handover_reading.proofs.strings.named_closes.Goals as goal

pub returns-then-not-named : goal.returns-then-not-named
returns-then-not-named c = let a = c.args in unnamed_suits a.named _ (not-true a.named c.if-not-named.true-raw)

pub returns : goal.returns
returns c = let a = c.args in c.closes.ensures ∙ named_suits a.named _ (not-false a.named c.if-not-named.false-raw)

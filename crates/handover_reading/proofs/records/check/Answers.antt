-- `handover_reading::records::check` meets its contract: one law a return.
use mathlib.Core.Path.{sym, ◌∙◌, ap}
use borrow.Author.Tests.{not-true, not-false}
use Rattle.handover_reading.proofs.RecordLaws.{stop_end, stop_range, words_pass}
use Rattle.refusals.specs.Answers.{checked}
use Rattle.handover_reading.proofs.records.check.Goals as goal

pub returns-then-not-end_suits : goal.returns-then-not-end_suits
returns-then-not-end_suits c = ap checked (stop_end _ _ (sym c.end_suits.ensures ∙ not-true _ c.if-not-end_suits.true-raw))

pub returns-then-not-fits : goal.returns-then-not-fits
returns-then-not-fits c = ap checked (stop_range _ _ (sym c.end_suits.ensures ∙ not-false _ c.if-not-end_suits.false-raw) (sym c.fits.ensures ∙ not-true _ c.if-not-fits.true-raw))

pub returns : goal.returns
returns c = ap checked (words_pass _ _ (sym c.end_suits.ensures ∙ not-false _ c.if-not-end_suits.false-raw) (sym c.fits.ensures ∙ not-false _ c.if-not-fits.false-raw))

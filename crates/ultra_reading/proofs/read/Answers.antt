-- `ultra_reading::read` meets its contract: the used length with the version, or the same refusal.
use mathlib.Core.Path.{sym, ap, ◌∙◌}
use native.Mathlib.Omega.{arith}
use Rattle.ultra_reading.specs.Reading.{with_version, reading_of}
use Rattle.refusals.proofs.Chains.{passed_on}
use Rattle.ultra_stepping.proofs.HeadLaws.{HeadHolds}
use Rattle.ultra_reading.proofs.ReadingLaws.{accepted_head}
use Rattle.ultra_reading.proofs.read.Goals as goal
use Rattle.ultra_reading.proofs.read.Goals.{In_ok-used}

-- a buffer with a used length has a good head
head_good : (c : In_ok-used) → HeadHolds 2 c.args.buf.now
head_good c = accepted_head 2 _ _ (sym c.in_ok-used.ensures)

pub bounds-buf-0 : goal.bounds-buf-0
bounds-buf-0 c = omega (arith, head_good (goal.at.bounds-buf-0 c).In_ok-used)

pub bounds-buf-1 : goal.bounds-buf-1
bounds-buf-1 c = omega (arith, head_good (goal.at.bounds-buf-1 c).In_ok-used)

pub returns-in_err-used : goal.returns-in_err-used
unfolding reading_of
returns-in_err-used c = passed_on _ c.from_residual.ensures.1 ∙ ap (with_version _) c.in_err-used.ensures

pub returns : goal.returns
unfolding reading_of
returns c = ap (with_version _) c.in_ok-used.ensures

-- `output::next` meets its contract.
use borrow.Author.Tests.{lt-ltb, le-ltb}
use Rattle.text_output.specs.Output.{next}
use Rattle.text_output.proofs.output.next.Goals as goal

pub returns-then-at-lt4294967295 : goal.returns-then-at-lt4294967295
unfolding next
returns-then-at-lt4294967295 c = simp (lt-ltb _ _ c.if-at-lt4294967295.true)

pub returns-else-at-lt4294967295 : goal.returns-else-at-lt4294967295
unfolding next
returns-else-at-lt4294967295 c = simp (le-ltb _ _ c.if-at-lt4294967295.false)

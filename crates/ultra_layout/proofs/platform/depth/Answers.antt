-- `ultra_layout::platform::depth` meets its contract.
use native.Mathlib.Nat.{add-zero}
use borrow.Author.Tests.{le-leb, lt-leb}
use Rattle.words.specs.Words.{number_at}
use Rattle.ultra_layout.proofs.platform.depth.Goals as goal

pub returns-then-size : goal.returns-then-size
returns-then-size c = simp (lt-leb 65 c.args.size c.if-size.true)

pub returns : goal.returns
unfolding number_at
returns c = simp (le-leb 65 c.args.size c.if-size.false, add-zero)

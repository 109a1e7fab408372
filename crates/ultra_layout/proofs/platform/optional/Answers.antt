-- `ultra_layout::platform::optional` meets its contract.
use Prim.Native.Nat.{◌+◌}
use borrow.Author.Tests.{le-leb, lt-leb}
use Rattle.ultra_layout.proofs.platform.optional.Goals as goal

pub returns-then-size-offset : goal.returns-then-size-offset
returns-then-size-offset c =
    let s = c.args in
    simp (lt-leb (s.offset + 8) s.size c.if-size-offset.true)

pub returns : goal.returns
returns c =
    let s = c.args in
    rw c.load_u64.ensures (simp (le-leb (s.offset + 8) s.size c.if-size-offset.false))

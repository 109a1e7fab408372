-- `store_padded` meets its contract: the bytes and the zeros after them are one field.
use Prim.Native.Nat.{◌-◌}
use native.Mathlib.Omega.{arith}
use lib.ListN.{length}
use Rattle.byte_layout.proofs.Written.{padded_stored}
use Rattle.byte_layout.proofs.store_padded.Goals as goal

pub returns : goal.returns
returns c =
    let a = c.args in
    let l = a.bytes.now in
    padded_stored a.part.now l _ _ a.at a.width (a.width - length l) (omega arith) (omega arith) c.store.ensures c.clear.ensures

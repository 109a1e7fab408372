-- `byte_layout::store` meets its contract: the part written to has all the bytes at the end.
use Rattle.std.proofs.Common.{arith}
use Rattle.std.proofs.lemmas.Grind.{common_steps}
use Rattle.byte_layout.proofs.Copies.{all_stored}
use Rattle.byte_layout.proofs.store.Goals as goal

pub returns : goal.returns
returns c =
    let h = all_stored c.args.bytes.now _ _ c.loop-i.i (grind (arith, common_steps)) (grind (arith, common_steps)) c.loop-i.invariant in
    grind (arith, common_steps, h)

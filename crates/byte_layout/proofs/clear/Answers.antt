-- `byte_layout::clear` meets its contract: what `fill` writes are the zeros.
use Rattle.std.proofs.Common.{arith}
use Rattle.std.proofs.lemmas.Grind.{common_steps}
use Rattle.byte_layout.proofs.Copies.{zeros_padded}
use Rattle.byte_layout.proofs.clear.Goals as goal

pub returns : goal.returns
returns c =
    let h = c.fill.ensures.after (λ y e. e) in
    grind (arith, common_steps, h, zeros_padded)

-- `ultra_records::module::read` meets its contract.
use mathlib.Core.Path.{◌∙◌}
use Prim.Native.Nat.{◌+◌}
use Rattle.byte_layout.proofs.Copies.{text_padded}
use Rattle.ultra_records.proofs.module.read.Goals as goal

pub returns : goal.returns
returns c =
    let s = c.args in
    λ i. record {
      kind = c.kind-kind.ensures i;
      name = (c.copy_text.ensures ∙ text_padded s.bytes.now (s.at + 16) 64) i;
      address = c.address-address.ensures i;
      size = c.size-size.ensures i;
    }

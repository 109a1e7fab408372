-- `ultra_records::platform::read` meets its contract.
use mathlib.Core.Path.{◌∙◌}
use Prim.Native.Nat.{◌+◌}
use Rattle.byte_layout.proofs.Copies.{text_padded}
use Rattle.ultra_records.proofs.platform.read.Goals as goal

pub returns : goal.returns
returns c =
    let s = c.args in
    λ i. record {
      kind = c.kind-kind.ensures i;
      loader_major = c.loader_major-loader_major.ensures i;
      loader_minor = c.loader_minor-loader_minor.ensures i;
      name = (c.copy_text.ensures ∙ text_padded s.bytes.now (s.at + 16) 32) i;
      rsdp = c.rsdp-rsdp.ensures i;
      higher_half_base = c.higher_half_base-higher_half_base.ensures i;
      depth = c.depth-depth.ensures i;
      dtb = c.dtb-dtb.ensures i;
      smbios = c.smbios-smbios.ensures i;
    }

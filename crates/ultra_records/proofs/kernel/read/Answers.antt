-- `ultra_records::kernel::read` meets its contract.
use mathlib.Core.Path.{◌∙◌}
use Prim.Native.Nat.{◌+◌}
use Rattle.byte_layout.proofs.Copies.{text_padded}
use Rattle.ultra_records.proofs.kernel.read.Goals as goal

pub returns : goal.returns
returns c =
    let s = c.args in
    λ i. record {
      physical_base = c.physical_base-physical_base.ensures i;
      virtual_base = c.virtual_base-virtual_base.ensures i;
      size = c.size-size.ensures i;
      partition_type = c.partition_type-partition_type.ensures i;
      disk_guid = c.disk_guid-disk_guid.ensures i;
      partition_guid = c.partition_guid-partition_guid.ensures i;
      disk_index = c.disk_index-disk_index.ensures i;
      partition_index = c.partition_index-partition_index.ensures i;
      path = (c.copy_text.ensures ∙ text_padded s.bytes.now (s.at + 80) 256) i;
    }

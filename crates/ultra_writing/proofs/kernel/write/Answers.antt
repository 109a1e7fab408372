-- `kernel::write` meets its contract: each member is a field more.
use Rattle.byte_layout.specs.Fields.{width, Field.number, Field.raw, Field.text}
use Rattle.byte_layout.proofs.Written.{begun, next, no_padding}
use Rattle.ultra_format.specs.Plain.{written_size}
use Rattle.ultra_writing.specs.Leading.{kernel_leading}
use Rattle.ultra_writing.proofs.kernel.write.Goals as goal

pub returns : goal.returns
unfolding written_size width
returns c =
    let a = c.args in
    let s0 = begun a.part.now (kernel_leading a.physical_base a.virtual_base a.size a.partition_type) c.leading.ensures in
    let s1 = next (raw 16 a.disk_guid.now) s0 c.store_padded.ensures in
    let s2 = next (raw 16 a.partition_guid.now) s1 c.store_padded-2.ensures in
    let s3 = next (number 4 a.disk_index) s2 c.store_u32.ensures in
    let s4 = next (number 4 a.partition_index) s3 c.store_u32-2.ensures in
    (no_padding (next (text 256 a.path.now) s4 c.store_padded-3.ensures)).front

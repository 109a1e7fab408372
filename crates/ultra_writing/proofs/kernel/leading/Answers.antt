-- `kernel::leading` meets its contract: each member is a field more.
use Rattle.byte_layout.specs.Fields.{width, Field.number}
use Rattle.byte_layout.proofs.Written.{begun, next}
use Rattle.ultra_writing.specs.Leading.{header_fields}
use Rattle.ultra_writing.proofs.kernel.leading.Goals as goal

pub returns : goal.returns
unfolding width
returns c =
    let a = c.args in
    let s0 = begun a.part.now (header_fields 2 336) c.header.ensures in
    let s1 = next (number 8 a.physical_base) s0 c.store_u64.ensures in
    let s2 = next (number 8 a.virtual_base) s1 c.store_u64-2.ensures in
    let s3 = next (number 8 a.size) s2 c.store_u64-3.ensures in
    (next (number 8 a.partition_type) s3 c.store_u64-4.ensures).front

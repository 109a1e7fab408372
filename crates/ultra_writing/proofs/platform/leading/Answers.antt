-- `platform::leading` meets its contract: each member is a field more.
use Rattle.byte_layout.specs.Fields.{width, Field.number, Field.text}
use Rattle.byte_layout.proofs.Written.{begun, next}
use Rattle.ultra_writing.specs.Leading.{header_fields}
use Rattle.ultra_writing.proofs.platform.leading.Goals as goal

pub returns : goal.returns
unfolding width
returns c =
    let a = c.args in
    let s0 = begun a.part.now (header_fields 1 88) c.header.ensures in
    let s1 = next (number 4 a.kind) s0 c.store_u32.ensures in
    let s2 = next (number 2 a.loader_major) s1 c.store_u16.ensures in
    let s3 = next (number 2 a.loader_minor) s2 c.store_u16-2.ensures in
    let s4 = next (text 32 a.name.now) s3 c.store_padded.ensures in
    (next (number 8 a.rsdp) s4 c.store_u64.ensures).front

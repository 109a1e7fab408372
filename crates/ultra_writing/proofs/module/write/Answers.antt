-- `module::write` meets its contract: each member is a field more.
use Rattle.byte_layout.specs.Fields.{width, Field.number, Field.text, Field.padding}
use Rattle.byte_layout.proofs.Written.{begun, next, no_padding}
use Rattle.ultra_format.specs.Plain.{written_size}
use Rattle.ultra_writing.specs.Leading.{header_fields}
use Rattle.ultra_writing.proofs.module.write.Goals as goal

pub returns : goal.returns
unfolding written_size width
returns c =
    let a = c.args in
    let s0 = begun a.part.now (header_fields 4 96) c.header.ensures in
    let s1 = next (padding 4) s0 c.clear.ensures in
    let s2 = next (number 4 a.kind) s1 c.store_u32.ensures in
    let s3 = next (text 64 a.name.now) s2 c.store_padded.ensures in
    let s4 = next (number 8 a.address) s3 c.store_u64.ensures in
    (no_padding (next (number 8 a.size) s4 c.store_u64-2.ensures)).front

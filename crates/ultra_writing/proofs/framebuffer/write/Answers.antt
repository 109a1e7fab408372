-- `framebuffer::write` meets its contract: each member is a field more.
use Rattle.byte_layout.specs.Fields.{width, Field.number}
use Rattle.byte_layout.proofs.Written.{begun, next, no_padding}
use Rattle.ultra_format.specs.Plain.{written_size}
use Rattle.ultra_format.specs.Additions.{body_given}
use Rattle.ultra_writing.specs.Leading.{header_fields}
use Rattle.ultra_writing.proofs.framebuffer.write.Goals as goal

pub returns : goal.returns
unfolding body_given written_size width
returns c =
    let a = c.args in
    let g = a.given in
    let s0 = begun a.part.now (header_fields 6 32) c.header.ensures in
    let s1 = next (number 4 g.width) s0 c.store_u32.ensures in
    let s2 = next (number 4 g.height) s1 c.store_u32-2.ensures in
    let s3 = next (number 4 g.pitch) s2 c.store_u32-3.ensures in
    let s4 = next (number 2 g.bpp) s3 c.store_u16.ensures in
    let s5 = next (number 2 g.format) s4 c.store_u16-2.ensures in
    (no_padding (next (number 8 g.address) s5 c.store_u64.ensures)).front

-- `header` meets its contract: the fields of an attribute's first 8 bytes.
use Rattle.byte_layout.specs.Fields.{Field.number}
use Rattle.byte_layout.proofs.Written.{nothing, next}
use Rattle.ultra_writing.proofs.header.Goals as goal

pub returns : goal.returns
returns c =
    let a = c.args in
    (next (number 4 a.size) (next (number 4 a.kind) (nothing a.part.now) c.store_u32.ensures) c.store_u32-2.ensures).front

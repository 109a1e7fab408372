-- `command_line::write` meets its contract: the text is one field.
use Prim.Native.Nat.{◌-◌}
use Rattle.byte_layout.specs.Fields.{width, Field.text}
use Rattle.byte_layout.proofs.Written.{begun, next}
use Rattle.ultra_format.specs.Plain.{written_size}
use Rattle.ultra_format.specs.Additions.{body_given}
use Rattle.ultra_writing.specs.Leading.{header_fields}
use Rattle.ultra_writing.proofs.command_line.write.Goals as goal

pub returns : goal.returns
unfolding body_given written_size width
returns c =
    let a = c.args in
    let s = c.size-whole.result in
    rw (← c.size-whole.ensures) (next (text (s - 8) a.text.now) (begun a.part.now (header_fields 5 s) c.header.ensures) c.store_padded.ensures).front

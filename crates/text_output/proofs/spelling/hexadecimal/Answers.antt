-- `spelling::hexadecimal` meets its contract: after the last turn, all bytes are put.
use Rattle.text_output.specs.Spelling.{hex_pair}
use Rattle.text_output.proofs.Puts.{bytes_all}
use Rattle.text_output.proofs.spelling.hexadecimal.Goals as goal

pub returns : goal.returns
returns c =
    let a = c.args in
    bytes_all hex_pair _ _ a.bytes.now a.start a.n c.loop-byte.byte-index c.requires c.loop-byte-test.false c.loop-byte.invariant

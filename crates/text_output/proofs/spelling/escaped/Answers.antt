-- `spelling::escaped` meets its contract: after the last turn, all bytes are put.
use Rattle.text_output.specs.Spelling.{spelled}
use Rattle.text_output.proofs.Puts.{bytes_all}
use Rattle.text_output.proofs.spelling.escaped.Goals as goal

pub returns : goal.returns
returns c =
    let a = c.args in
    bytes_all spelled _ _ a.bytes.now a.start a.n c.loop-byte.byte-index c.requires c.loop-byte-test.false c.loop-byte.invariant

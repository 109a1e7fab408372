-- The law of numbers at 2 and 2 bytes.
use Rattle.std.proofs.Common.{arith}
use Rattle.words.proofs.Widths.{number_split}
use Rattle.words.proofs.load_u32.Goals as goal

pub returns : goal.returns
returns c = omega (arith, number_split c.args.bytes.now c.args.at 2 2)

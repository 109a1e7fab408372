-- The law of numbers at 4 and 4 bytes.
use Rattle.std.proofs.Common.{arith}
use Rattle.words.proofs.Widths.{number_split}
use Rattle.words.proofs.load_u64.Goals as goal

pub returns : goal.returns
returns c = omega (arith, number_split c.args.bytes.now c.args.at 4 4)

-- The law of stores at 2 and 2 bytes.
use Rattle.std.proofs.Common.{◌%◌, arith}
use Rattle.words.proofs.Widths.{store_split}
use Rattle.words.proofs.store_u32.Goals as goal

pub returns : goal.returns
returns c =
    cc (store_split c.args.bytes.now c.args.at 2 2 c.args.number (c.args.number % 65536) (omega arith) (omega arith))

-- The law of stores at 4 and 4 bytes.
use Rattle.std.proofs.Common.{◌%◌, arith}
use Rattle.words.proofs.Widths.{store_split}
use Rattle.words.proofs.store_u64.Goals as goal

pub returns : goal.returns
returns c =
    cc (store_split c.args.bytes.now c.args.at 4 4 c.args.number (c.args.number % 4294967296) (omega arith) (omega arith))

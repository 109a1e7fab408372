-- The two bytes are the number.
use Rattle.std.proofs.Common.{arith}
use Rattle.words.specs.Words.{number_at}
use Rattle.words.proofs.load_u16.Goals as goal

pub returns : goal.returns
unfolding number_at
returns c = omega arith

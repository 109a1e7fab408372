-- The number of a member that can be absent.
-- Serves the library's own functions and proofs: no published contract or promise rests on it.
use Rattle.std.specs.Prelude.{ℕ}
use Rattle.ultra_format.specs.Contexts.{Member}
use Rattle.ultra_format.specs.Contexts.{Member.present, Member.absent}

abbrev pub number_or_zero : Member → ℕ
number_or_zero (present n) = n
number_or_zero absent = 0

-- What the example takes of an answer.
-- Serves the example alone: no published contract or promise rests on it.
use Rattle.std.specs.Prelude.{ℕ, Ok, Err}
use Rattle.refusals.specs.Answers.{Answer}

-- the value of a success; 0 of a refusal
abbrev pub value_or_none : Answer → ℕ
value_or_none (Ok v) = v
value_or_none (Err r) = 0

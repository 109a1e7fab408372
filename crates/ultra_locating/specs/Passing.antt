-- "Each reads first and passes its refusal on".
-- A reader has to believe this file.
use Rattle.std.specs.Prelude.{ℕ, ◌≡◌, List, Ok, Err}
use Rattle.refusals.specs.Answers.{Answer}
use Rattle.ultra_reading.specs.Reading.{used_length}

-- `x` where reading accepts the buffer; else what `pass` makes of the refusal
abbrev pub if_accepted : {X : Type 0} → (Answer → X) → X → Answer → X
if_accepted pass x (Ok n) = x
if_accepted pass x (Err r) = pass (Err r)

-- reading accepts the buffer
abbrev pub Accepts : List ℕ → Type 0
Accepts b = (n : ℕ) × (used_length 2 b ≡ Ok n)

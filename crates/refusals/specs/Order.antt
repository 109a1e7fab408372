-- Which of several numbers is given, where the conditions of some are met: the first in a given order.
-- A reader has to believe this file.
use Rattle.std.specs.Prelude.{ℕ, ◌≡◌, ◌⊎◌, List, [], ◌∷◌}

-- n is the first of some numbers whose condition is met: "Refusals, in order" (R-2)
abbrev pub First : List ℕ → (ℕ → Type 0) → ℕ → Type 0
First [] breaks n = ⊥
First (m ∷ ms) breaks n = (breaks m × (n ≡ m)) ⊎ ((breaks m → ⊥) × First ms breaks n)

-- the condition of no number is met
abbrev pub NoneBreaks : (ℕ → Type 0) → Type 0
NoneBreaks breaks = (m : ℕ) → breaks m → ⊥

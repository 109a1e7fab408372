-- Going from attribute to attribute where they are known to break none of 5 to 8, and where a type is found first.
-- Serves the library's own functions and proofs: no published contract or promise rests on it.
use Rattle.std.specs.Prelude.{ℕ, zero, suc, ◌<◌, ◌≡◌, List, length, eqb}
use Rattle.ultra_format.specs.Decoding.{pick, start, stored_type}
use Rattle.ultra_stepping.specs.Checks.{bounds_check}

-- the attributes before n break none of 5 to 8, with all of the buffer as the room
abbrev pub InBounds : List ℕ → ℕ → Type 0
InBounds b n = (j : ℕ) → j < n → bounds_check b (length b) (start b j) ≡ 0

-- where the first of type `t` starts, of n attributes from attribute i on; 0, where no attribute starts, if there is none
unfoldable pub first_of_type : List ℕ → ℕ → ℕ → ℕ → ℕ
first_of_type b t i zero = 0
first_of_type b t i (suc n) = pick (eqb (stored_type b i) t) (start b i) (first_of_type b t (suc i) n)

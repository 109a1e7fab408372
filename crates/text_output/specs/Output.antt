-- Bytes put into a lent output one after the other. A state is the output's bytes and the place of the next byte. A byte past the end is
-- counted and not put, so that the same writer writes a text and measures it; the place stays at 2^32 − 1, which no listing comes near.
-- Serves the library's own functions and proofs: no published contract or promise rests on it.
use Rattle.std.specs.Prelude.{ℕ, ◌+◌, List, [], ◌∷◌, set, ltb}
use Rattle.text_output.specs.Spelling.{pick}

abbrev pub State : Type 0
State = List ℕ × ℕ

-- the place after one; it stays at the last that has 32 bits
unfoldable pub next : ℕ → ℕ
next at = pick (ltb at 4294967295) (at + 1) at

-- `set` leaves a list as it is where the place is past its end
unfoldable pub put : State → ℕ → State
put s x = (set s.0 s.1 x, next s.1)

unfoldable pub puts : State → List ℕ → State
puts s [] = s
puts s (x ∷ l) = puts (put s x) l

-- Strings stored one after the other.
-- Serves the library's own functions and proofs: no published contract or promise rests on it.
use Rattle.std.specs.Prelude.{ℕ, ◌+◌, List, length}
use Rattle.handover_writing.specs.Stores.{put}

-- the output, and where the next byte goes
abbrev pub State : Type 0
State = List ℕ × ℕ

-- the bytes x there
unfoldable pub bytes_put : State → List ℕ → State
bytes_put s x = (put s.0 s.1 x, s.1 + length x)

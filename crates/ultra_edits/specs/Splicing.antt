-- What an edit in the middle of a buffer leaves: other bytes in the place of some, and what follows moved after them. The laws are in
-- proofs/Splices.antt.
-- Serves the library's own functions and proofs: no published contract or promise rests on it.
use Rattle.std.specs.Prelude.{ℕ, ◌+◌, List, ◌++◌, length}
use Rattle.words.specs.Words.{little_endian, replaced}
use Rattle.byte_layout.specs.Stored.{bytes_at}

-- x in place of the `old` bytes from `at` on, and after it the `rest` bytes that followed them; every other byte stays
abbrev pub spliced : List ℕ → ℕ → ℕ → List ℕ → ℕ → List ℕ
spliced b at old x rest = replaced b at (length x + rest) (x ++ bytes_at b (at + old) rest)

-- n as the head's count
abbrev pub counting : ℕ → List ℕ → List ℕ
counting n b = replaced b 4 4 (little_endian 4 n)

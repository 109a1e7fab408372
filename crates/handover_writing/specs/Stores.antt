-- What the stores of a payload's parts leave.
-- Serves the library's own functions and proofs: no published contract or promise rests on it.
use Rattle.std.specs.Prelude.{ℕ, List, [], ◌∷◌, length}
use Rattle.words.specs.Words.{replaced}
use Rattle.byte_layout.specs.Fields.{Field, Field.number}
use Rattle.handover_format.specs.PayloadLayouts.{magic}

-- `b` with x in place of as many of its bytes, from `o` on
unfoldable pub put : List ℕ → ℕ → List ℕ → List ℕ
put b o x = replaced b o (length x) x

-- "magic 0xc001b001, agent, size, count"; "agent string first", so that its offset in the table is 0
abbrev pub head_fields : ℕ → ℕ → List Field
head_fields size count = number 4 magic ∷ number 4 0 ∷ number 4 size ∷ number 4 count ∷ []

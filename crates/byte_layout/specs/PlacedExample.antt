-- Two strings that share bytes, as placed fields. proofs/PlacedExample.antt proves the statements.
-- Serves the library's own functions and proofs: no published contract or promise rests on it.
use Rattle.std.specs.Prelude.{ℕ, ◌+◌, ◌≤◌, ◌≡◌, List, [], ◌∷◌, ◌++◌, length}
use Rattle.words.specs.Words.{replaced}
use Rattle.byte_layout.specs.Fields.{Field, cells}
use Rattle.byte_layout.specs.Fields.{Field.text}
use Rattle.byte_layout.specs.Stored.{closed}
use Rattle.byte_layout.specs.Placed.{LiesAt, PlacedOpens, PlacedSilent, PlacedWithin}

-- "ab" from byte 0 on and its tail "b" from byte 1 on, in 5 bytes
pub data Shared : ℕ → List Field → Type 0 where
  whole : Shared 0 (text 5 (97 ∷ 98 ∷ []) ∷ [])
  tail : Shared 1 (text 4 (98 ∷ []) ∷ [])

pub record SharedExample : Type 0 where
  pub within : PlacedWithin 5 Shared
  -- what follows the closing zero is silent, and may be anything
  pub opens : (v w : ℕ) → PlacedOpens (97 ∷ 98 ∷ 0 ∷ v ∷ w ∷ []) 5 Shared
  pub silent : PlacedSilent Shared 3
  -- the zero closes both
  pub closing : PlacedSilent Shared 2 → ⊥
  pub unclosed : PlacedOpens (97 ∷ 98 ∷ 99 ∷ 0 ∷ 0 ∷ []) 5 Shared → ⊥

-- two strings stored one after the other, with their closing zeros: each lies where it was stored, in a field however wide
abbrev pub StoredInTurn : Type 0
StoredInTurn =
    (e q r s t : List ℕ) (a j k : ℕ) → a + length (closed s ++ closed t) ≤ length e
    → q ≡ replaced e a (length (closed s)) (closed s) → r ≡ replaced q (a + length (closed s)) (length (closed t)) (closed t)
    → LiesAt r a (cells (text j s ∷ [])) × LiesAt r (a + length (closed s)) (cells (text k t ∷ []))

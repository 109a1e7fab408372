-- Fields at places of their own: rows of fields, each with the byte that it starts at. Rows may overlap and share bytes, as strings do that
-- others point to. Fields has the case of one row from byte 0 on.
-- A reader has to believe this file.
use Rattle.std.specs.Prelude.{ℕ, ◌+◌, ◌≤◌, ◌<◌, ◌≡◌, List, length, get_or}
use Rattle.byte_layout.specs.Fields.{Cell, Field, cells, width, SilentAt}
use Rattle.byte_layout.specs.Fields.{Cell.byte, Cell.silent}

-- cells lie from `o` on: every byte that is not silent is there as the cell says
abbrev pub LiesAt : List ℕ → ℕ → List Cell → Type 0
LiesAt b o cs = (i n : ℕ) → i < length cs → get_or cs i silent ≡ byte n → get_or b (o + i) 0 ≡ n

-- the rows open a buffer of at least n bytes: each lies there. `rows o fs` says that fs is a row from byte `o` on. That every row ends by
-- byte n is said apart (`PlacedWithin`).
pub record PlacedOpens (b : List ℕ) (n : ℕ) (rows : ℕ → List Field → Type 0) : Type 0 where
  pub within : n ≤ length b
  pub lies : (o : ℕ) (fs : List Field) → rows o fs → LiesAt b o (cells fs)

-- byte i is silent in every row
abbrev pub PlacedSilent : (ℕ → List Field → Type 0) → ℕ → Type 0
PlacedSilent rows i = (o k : ℕ) (fs : List Field) → rows o fs → i ≡ o + k → SilentAt (cells fs) k

-- every row ends by byte n
abbrev pub PlacedWithin : ℕ → (ℕ → List Field → Type 0) → Type 0
PlacedWithin n rows = (o : ℕ) (fs : List Field) → rows o fs → o + width fs ≤ n

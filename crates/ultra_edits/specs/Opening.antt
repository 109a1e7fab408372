-- A context attribute by attribute: its bytes open a buffer just where its head and each of its attributes lie there. It is proved in
-- proofs/Opening.antt.
-- Serves the library's own functions and proofs: no published contract or promise rests on it.
use Rattle.std.specs.Prelude.{ℕ, ◌<◌, ◌≡◌, ◌↔◌, List, [], ◌∷◌}
use Rattle.byte_layout.specs.Fields.{Field, width}
use Rattle.byte_layout.specs.Fields.{Field.number, Field.padding}
use Rattle.byte_layout.specs.Placed.{PlacedOpens}
use Rattle.ultra_format.specs.Contexts.{Context, count, size_at, attribute_at, start_in, used}
use Rattle.ultra_format.specs.Layouts.{attribute_fields, Opens}

-- "Head, 8 bytes"
abbrev pub head_fields : Context → List Field
head_fields c = number 1 c.major ∷ number 1 c.minor ∷ padding 2 ∷ number 4 (count c) ∷ []

-- the rows of a context: its head, and each attribute where it starts
pub data RowOf (c : Context) : ℕ → List Field → Type 0 where
  head : RowOf c 0 (head_fields c)
  attribute : (i : ℕ) → i < count c → RowOf c (start_in c.attributes i) (attribute_fields (attribute_at c i))

-- every attribute is as wide as its size, as each that meets the rules is
abbrev pub EachWide : Context → Type 0
EachWide c = (i : ℕ) → i < count c → width (attribute_fields (attribute_at c i)) ≡ size_at c i

abbrev pub OpensByAttribute : Type 0
OpensByAttribute = (b : List ℕ) (c : Context) → EachWide c → Opens b c ↔ PlacedOpens b (used c) (RowOf c)

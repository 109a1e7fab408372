-- The first attribute of a context that meets a test, and where it starts.
-- A reader has to believe this file.
use Rattle.std.specs.Prelude.{ℕ, ◌+◌, Bool, List, [], ◌∷◌, eqb}
use Rattle.ultra_format.specs.Contexts.{Body, type_of, Attribute, Context}
use Rattle.ultra_format.specs.Decoding.{pick}

pub data Found : Type 0 where
  none : Found
  found : ℕ → Attribute → Found

-- of the attributes `l`, the first of which starts at `o`
unfoldable pub first : (Body → Bool) → ℕ → List Attribute → Found
first test o [] = none
first test o (a ∷ l) = pick (test a.body) (found o a) (first test (o + a.size) l)

abbrev pub first_in : (Body → Bool) → Context → Found
first_in test c = first test 8 c.attributes

-- no attribute starts at 0
abbrev pub found_start : Found → ℕ
found_start none = 0
found_start (found o a) = o

abbrev pub of_type : ℕ → Body → Bool
of_type t x = eqb (type_of x) t

-- A test of every element, as a loop over a list meets it: by the first of those left.
use mathlib.Core.Path.{◌≡◌, refl, ap}
use mathlib.Core.Bool.{Bool, true, false, ◌&&◌}
use mathlib.Core.List.{List, [], ◌∷◌}
use Rattle.std.specs.List.{list_all}
use Rattle.ultra_format.specs.Members.{every}

module _ {X : Type 0} (p : X → Bool) where
  pub none_left : {l : List X} → l ≡ [] → every p l ≡ true
  unfolding every
  none_left e = rw e

  module _ {l m : List X} {x : X} (e : l ≡ x ∷ m) where
    pub first_fails : p x ≡ false → every p l ≡ false
    unfolding every
    first_fails f = rw (e, f)

    pub first_passes : p x ≡ true → every p l ≡ every p m
    unfolding every
    first_passes f = rw (e, f)

-- the library's word for it
pub every_all : {X : Type 0} (p : X → Bool) (l : List X) → every p l ≡ list_all p l
unfolding every
every_all p [] = refl
every_all p (x ∷ l) = ap (λ (b : Bool). p x && b) (every_all p l)

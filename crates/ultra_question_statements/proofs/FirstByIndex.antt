-- What a search finds, by index: nothing where no attribute of the list meets the test, else the one with the least index that meets it.
use Prim.Native.Nat.{ℕ, zero, suc, ◌+◌, ◌<◌}
use mathlib.Core.Path.{◌≡◌, refl, sym, ap, ◌∙◌}
use mathlib.Core.Bool.{Bool, true, false}
use mathlib.Core.List.{List, [], ◌∷◌}
use mathlib.Core.Logic.{◌⊎◌, ◌⊎◌.inl, ◌⊎◌.inr}
use native.Mathlib.Omega.{arith}
use native.Mathlib.Nat.{not-suc-le-zero, le_of_suc-le-suc, add-zero}
use lib.ListN.{length, take}
use borrow.Author.Tests.{eqb-true, eqb-false}
use Rattle.ultra_format.specs.Contexts.{Body, Attribute, Context, count, attribute_at, type_at, total, start_in}
use Rattle.ultra_format.specs.Places.{single}
use Rattle.ultra_format.specs.Rules.{Meets}
use Rattle.ultra_format.specs.Decoding.{pick}
use Rattle.ultra_format.proofs.Attributes.{at}
use Rattle.ultra_locating.specs.Searching.{Found, Found.none, Found.found, first, first_in, of_type}

module _ (test : Body → Bool) where
  abbrev pub NoneMeets : List Attribute → Type 0
  NoneMeets l = (i : ℕ) → i < length l → test (at l i).body ≡ false

  -- `o` is where the first attribute of the list starts
  pub record FirstAt (o : ℕ) (l : List Attribute) (f : Found) : Type 0 where
    pub index : ℕ
    pub below : index < length l
    pub is : f ≡ found (o + total (take index l)) (at l index)
    pub meets : test (at l index).body ≡ true
    pub before : (j : ℕ) → j < index → test (at l j).body ≡ false

  abbrev pub Outcome : ℕ → List Attribute → Found → Type 0
  Outcome o l f = ((f ≡ none) × NoneMeets l) ⊎ FirstAt o l f

  none_meets : (a : Attribute) (l : List Attribute) → test a.body ≡ false → NoneMeets l → NoneMeets (a ∷ l)
  none_meets a l e n zero h = e
  none_meets a l e n (suc i) h = n i (le_of_suc-le-suc h)

  none_before : (a : Attribute) (l : List Attribute) (i : ℕ) → test a.body ≡ false → ((j : ℕ) → j < i → test (at l j).body ≡ false)
      → (j : ℕ) → j < suc i → test (at (a ∷ l) j).body ≡ false
  none_before a l i e n zero h = e
  none_before a l i e n (suc j) h = n j (le_of_suc-le-suc h)

  -- the first attribute of the list, or what is found after it
  head_or : (o : ℕ) (a : Attribute) (l : List Attribute) (rest : Found) (t : Bool) → test a.body ≡ t → Outcome (o + a.size) l rest → Outcome o (a ∷ l) (pick t (found o a) rest)
  unfolding total
  head_or o a l rest true e r = inr (record { index = 0; below = omega arith; is = rw (add-zero o) refl; meets = e; before = λ j h. absurd (not-suc-le-zero h) })
  head_or o a l rest false e (inl r) = inl (r.0, none_meets a l e r.1)
  head_or o a l rest false e (inr f) =
      let q : o + a.size + total (take f.index l) ≡ o + (a.size + total (take f.index l)) = omega arith in
      inr (record { index = suc f.index; below = omega (arith, f.below); is = rw (← q) f.is; meets = f.meets; before = none_before a l f.index e f.before })

  pub outcome : (o : ℕ) (l : List Attribute) → Outcome o l (first test o l)
  unfolding first
  outcome o [] = inl (refl, λ i h. absurd (not-suc-le-zero h))
  outcome o (a ∷ l) = head_or o a l (first test (o + a.size) l) (test a.body) refl (outcome (o + a.size) l)

-- ---- "types 3, 5 and 6 occur at most once"
module _ (room : ℕ) (c : Context) (m : Meets 2 room c) (t : ℕ) (s : single t ≡ true) where
  not_before : (i j : ℕ) → j < count c → type_at c i ≡ t → type_at c j ≡ t → i < j → ⊥
  not_before i j h e f k = m.once i j k h (ap single f ∙ s) (e ∙ sym f)

  pub one_only : (i j : ℕ) → i < count c → j < count c → type_at c i ≡ t → type_at c j ≡ t → i ≡ j
  one_only i j h k e f =
      let p = not_before i j k e f in
      let q = not_before j i h f e in
      omega arith

  -- so the one of the type is found
  pub found_type : (i : ℕ) → i < count c → type_at c i ≡ t → first_in (of_type t) c ≡ found (start_in c.attributes i) (attribute_at c i)
  found_type i h e = go (outcome (of_type t) 8 c.attributes)
    where
      go : Outcome (of_type t) 8 c.attributes (first_in (of_type t) c) → first_in (of_type t) c ≡ found (start_in c.attributes i) (attribute_at c i)
      go (inl r) = absurd (eqb-false (type_at c i) t (r.1 i h) e)
      go (inr f) =
          let q = one_only f.index i f.below h (eqb-true (type_at c f.index) t f.meets) e in
          f.is ∙ ap (λ (k : ℕ). found (start_in c.attributes k) (attribute_at c k)) q

  pub found_none : ((i : ℕ) → i < count c → type_at c i ≡ t → ⊥) → first_in (of_type t) c ≡ none
  found_none n = go (outcome (of_type t) 8 c.attributes)
    where
      go : Outcome (of_type t) 8 c.attributes (first_in (of_type t) c) → first_in (of_type t) c ≡ none
      go (inl r) = r.0
      go (inr f) = absurd (n f.index f.below (eqb-true (type_at c f.index) t f.meets))

-- The tests 9 to 11 of every attribute pass just where the types meet the rules: first, second, once, together.
use Prim.Native.Nat.{ℕ, zero, suc, ◌<◌}
use mathlib.Core.Path.{◌≡◌, refl, sym, ap, ◌∙◌}
use mathlib.Core.Bool.{Bool, true, false, not, ◌&&◌, ◌||◌}
use mathlib.Core.List.{List}
use mathlib.Core.Logic.{⊎_elim}
use native.Mathlib.Omega.{arith}
use native.Mathlib.Nat.{not-suc-le-zero, eq-or-lt_of_le, le_of_suc-le-suc}
use lib.ListN.{length}
use lib.Dec.{leb, eqb}
use borrow.Author.Tests.{leb-true, leb-false, eqb-true, eqb-false, eq-eqb, ne_eqb, not-true, not-false}
use Rattle.ultra_format.specs.Places.{placed, single, repeatable, occurs, nearest, place_check}
use Rattle.ultra_format.specs.Decoding.{stored_type, types_before}
use Rattle.refusals.proofs.Chains.{passed}
use Rattle.ultra_places.proofs.PlaceLaws.{high_repeatable, pass_new, pass_neighbour, length_types, occurs_here}

-- ---- one attribute
-- what it says that the tests 9 to 11 pass
pub record Fits (before : List ℕ) (t : ℕ) : Type 0 where
  pub place : placed (length before) t ≡ true
  pub new : single t ≡ true → occurs t before ≡ true → ⊥
  pub neighbour : repeatable t ≡ true → occurs t before ≡ true → nearest before ≡ t

differ : true ≡ false → ⊥
differ e = let z : ◌≡◌ {A = ℕ} 0 1 = cc in omega arith

both : (s o : Bool) → not (s && o) ≡ true → s ≡ true → o ≡ true → ⊥
both s o e p q = differ (sym (rw (p, q) at e))

close : (r o : Bool) (u t : ℕ) → not (r && o && not (eqb u t)) ≡ true → r ≡ true → o ≡ true → u ≡ t
close r o u t e p q = eqb-true u t (not-false (eqb u t) (not-true _ (rw (p, q) at e)))

pub fits : (before : List ℕ) (t : ℕ) → place_check before t ≡ 0 → Fits before t
unfolding place_check
fits before t e =
    let p1 = passed (placed (length before) t) _ _ e in
    let p2 = passed (not (single t && occurs t before)) _ _ p1.1 in
    let p3 = passed (not (repeatable t && occurs t before && not (eqb (nearest before) t))) _ _ p2.1 in
    record {
      place = p1.0;
      new = both (single t) (occurs t before) p2.0;
      neighbour = close (repeatable t) (occurs t before) (nearest before) t p3.0;
    }

-- ---- all of them
-- an earlier attribute of a type
pub found : (b : List ℕ) (t i : ℕ) → occurs t (types_before b i) ≡ true → (j : ℕ) × (j < i) × (stored_type b j ≡ t)
unfolding types_before occurs
found b t zero e = absurd (differ (sym e))
found b t (suc i) e = go (eqb (stored_type b i) t) refl (found b t i) e
  where
    go : (x : Bool) → eqb (stored_type b i) t ≡ x → (occurs t (types_before b i) ≡ true → (j : ℕ) × (j < i) × (stored_type b j ≡ t))
        → (x || occurs t (types_before b i)) ≡ true → (j : ℕ) × (j < suc i) × (stored_type b j ≡ t)
    go true q r h = (i, omega arith, eqb-true _ _ q)
    go false q r h = let k = r h in (k.0, omega arith, k.2)

-- the rules on the types of the first n attributes
pub record Ordered (b : List ℕ) (n : ℕ) : Type 0 where
  pub first : 0 < n → stored_type b 0 ≡ 1
  pub second : 1 < n → stored_type b 1 ≡ 2
  pub later : (i : ℕ) → 1 < i → i < n → (stored_type b i ≡ 1 → ⊥) × (stored_type b i ≡ 2 → ⊥)
  pub once : (i j : ℕ) → i < j → j < n → single (stored_type b j) ≡ true → stored_type b i ≡ stored_type b j → ⊥
  pub together : (i j k : ℕ) → i < j → j < k → k < n → stored_type b i ≡ stored_type b k → stored_type b j ≡ stored_type b k

module _ (b : List ℕ) (n : ℕ) (f : (i : ℕ) → i < n → Fits (types_before b i) (stored_type b i)) where
  at_place : (i : ℕ) → i < n → placed i (stored_type b i) ≡ true
  at_place i h = rw (length_types b i) at (f i h).place

  is_first : 0 < n → stored_type b 0 ≡ 1
  unfolding placed
  is_first h = eqb-true (stored_type b 0) 1 (at_place 0 h)

  is_second : 1 < n → stored_type b 1 ≡ 2
  unfolding placed
  is_second h = eqb-true (stored_type b 1) 2 (at_place 1 h)

  is_later : (i : ℕ) → 1 < i → i < n → (stored_type b i ≡ 1 → ⊥) × (stored_type b i ≡ 2 → ⊥)
  unfolding placed
  is_later zero l h = absurd (omega arith)
  is_later (suc zero) l h = absurd (omega arith)
  is_later (suc (suc i)) l h = go (eqb (stored_type b (suc (suc i))) 1) (eqb (stored_type b (suc (suc i))) 2) refl refl (at_place (suc (suc i)) h)
    where
      go : (x y : Bool) → eqb (stored_type b (suc (suc i))) 1 ≡ x → eqb (stored_type b (suc (suc i))) 2 ≡ y → not (x || y) ≡ true
          → (stored_type b (suc (suc i)) ≡ 1 → ⊥) × (stored_type b (suc (suc i)) ≡ 2 → ⊥)
      go true y p q e = absurd (differ (sym e))
      go false true p q e = absurd (differ (sym e))
      go false false p q e = (eqb-false _ _ p, eqb-false _ _ q)

  is_once : (i j : ℕ) → i < j → j < n → single (stored_type b j) ≡ true → stored_type b i ≡ stored_type b j → ⊥
  is_once i j l h s e = (f j h).new s (occurs_here b (stored_type b j) i j l e)

  -- a type that occurred earlier is the one just before
  module _ (z : (i : ℕ) → i < n → stored_type b i ≡ 0 → ⊥) where
    low : (k : ℕ) → k < n → stored_type b k < 3 → (j : ℕ) × (j < k) × (stored_type b j ≡ stored_type b k) → ⊥
    low zero h l r = not-suc-le-zero r.1
    low (suc zero) h l r =
        let q : r.0 ≡ 0 = omega (arith, r.1) in
        omega (arith, r.2, ap (stored_type b) q, is_first (omega arith), is_second h)
    low (suc (suc k)) h l r =
        let d = is_later (suc (suc k)) (omega arith) h in
        let e0 = z (suc (suc k)) h in
        below_three (stored_type b (suc (suc k))) l e0 d.0 d.1
      where
        below_three : (t : ℕ) → t < 3 → (t ≡ 0 → ⊥) → (t ≡ 1 → ⊥) → (t ≡ 2 → ⊥) → ⊥
        below_three t l x y w = omega arith

    grouped : (k : ℕ) → k < n → (j : ℕ) × (j < k) × (stored_type b j ≡ stored_type b k) → nearest (types_before b k) ≡ stored_type b k
    grouped k h r = go (single (stored_type b k)) (leb 3 (stored_type b k)) refl refl
      where
        o : occurs (stored_type b k) (types_before b k) ≡ true
        o = occurs_here b (stored_type b k) r.0 k r.1 r.2

        go : (x y : Bool) → single (stored_type b k) ≡ x → leb 3 (stored_type b k) ≡ y → nearest (types_before b k) ≡ stored_type b k
        go x false p q = absurd (low k h (leb-false 3 (stored_type b k) q) r)
        go true true p q = absurd ((f k h).new p o)
        go false true p q = (f k h).neighbour (high_repeatable (stored_type b k) (leb-true 3 (stored_type b k) q) p) o

    is_together : (i j k : ℕ) → i < j → j < k → k < n → stored_type b i ≡ stored_type b k → stored_type b j ≡ stored_type b k
    unfolding types_before
    is_together i j zero l m h e = absurd (not-suc-le-zero m)
    is_together i j (suc k) l m h e =
        let p : stored_type b k ≡ stored_type b (suc k) = grouped (suc k) h (i, omega arith, e) in
        ⊎_elim (λ q. ap (stored_type b) q ∙ p) (λ lt. is_together i j k l lt (omega arith) (e ∙ sym p) ∙ p) (eq-or-lt_of_le (le_of_suc-le-suc m))

    pub ordered : Ordered b n
    ordered = record { first = is_first; second = is_second; later = is_later; once = is_once; together = is_together }

-- ---- and back
module _ (b : List ℕ) (n : ℕ) (r : Ordered b n) where
  in_place : (i : ℕ) → i < n → placed i (stored_type b i) ≡ true
  unfolding placed
  in_place zero h = eq-eqb (stored_type b 0) 1 (r.first h)
  in_place (suc zero) h = eq-eqb (stored_type b 1) 2 (r.second h)
  in_place (suc (suc i)) h =
      let d = r.later (suc (suc i)) (omega arith) h in
      simp (ne_eqb (stored_type b (suc (suc i))) 1 d.0, ne_eqb (stored_type b (suc (suc i))) 2 d.1)

  before_it : (k : ℕ) → k < n → (j : ℕ) × (j < k) × (stored_type b j ≡ stored_type b k) → stored_type b k ≡ nearest (types_before b k)
  unfolding types_before
  before_it zero h s = absurd (not-suc-le-zero s.1)
  before_it (suc k) h s =
      ⊎_elim (λ q. sym s.2 ∙ ap (stored_type b) q) (λ lt. sym (r.together s.0 k (suc k) lt (omega arith) h s.2)) (eq-or-lt_of_le (le_of_suc-le-suc s.1))

  pub no_check : (i : ℕ) → i < n → place_check (types_before b i) (stored_type b i) ≡ 0
  no_check i h = sym (go (occurs (stored_type b i) (types_before b i)) (single (stored_type b i)) refl refl)
    where
      p : placed (length (types_before b i)) (stored_type b i) ≡ true
      p = rw (length_types b i) (in_place i h)

      go : (o s : Bool) → occurs (stored_type b i) (types_before b i) ≡ o → single (stored_type b i) ≡ s → 0 ≡ place_check (types_before b i) (stored_type b i)
      go false s q w = pass_new (types_before b i) (stored_type b i) p q
      go true true q w = let k = found b (stored_type b i) i q in absurd (r.once k.0 i k.1 h w k.2)
      go true false q w = pass_neighbour (types_before b i) (stored_type b i) p w (before_it i h (found b (stored_type b i) i q))

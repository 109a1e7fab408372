-- Laws of the tests 9 to 11: each answer from the facts that lead to it; of the types before an attribute, and of a search among them.
use Prim.Native.Nat.{ℕ, zero, suc, ◌+◌, ◌-◌, ◌≤◌, ◌<◌}
use mathlib.Core.Path.{◌≡◌, refl, sym, ap, subst, ◌∙◌}
use mathlib.Core.Bool.{Bool, true, false, not, ◌||◌, and-false, or-false}
use mathlib.Core.List.{List}
use mathlib.Core.Logic.{⊎_elim}
use native.Mathlib.Omega.{arith}
use native.Mathlib.Numerals.{add-one}
use native.Mathlib.Nat.{add-zero, zero-add, not-suc-le-zero, eq-or-lt_of_le, le_of_suc-le-suc}
use lib.ListN.{length}
use lib.Dec.{eqb}
use borrow.Author.Tests.{eqb-true, eq-eqb, ne_eqb}
use Rattle.ultra_format.specs.Places.{placed, single, repeatable, occurs, nearest, place_check}
use Rattle.ultra_format.specs.Decoding.{pick, start, stored_type, types_before}
use Rattle.ultra_stepping.specs.Walking.{first_of_type}
use Rattle.std.proofs.lemmas.Grind.{common_steps}
use Rattle.std.proofs.lemmas.Bool.Decides.{nat_tests}
use Rattle.ultra_stepping.proofs.WalkLaws.{after_head, header_in}

-- ---- the index
pub placed_first : (i t : ℕ) → i ≡ 0 → eqb t 1 ≡ placed i t
unfolding placed
placed_first i t e = rw e

pub placed_second : (i t : ℕ) → i ≡ 1 → eqb t 2 ≡ placed i t
unfolding placed
placed_second i t e = rw e

pub placed_later : (i t : ℕ) → (i ≡ 0 → ⊥) → (i ≡ 1 → ⊥) → not (eqb t 1 || eqb t 2) ≡ placed i t
unfolding placed
placed_later zero t n m = absurd (n refl)
placed_later (suc zero) t n m = absurd (m refl)
placed_later (suc (suc i)) t n m = refl

-- ---- kinds of types
pub low_single : (t : ℕ) → t < 3 → single t ≡ false
low_single t h = grind (arith, nat_tests)

pub low_repeatable : (t : ℕ) → t < 3 → repeatable t ≡ false
low_repeatable t h = grind (arith, nat_tests)

pub high_repeatable : (t : ℕ) → 3 ≤ t → single t ≡ false → repeatable t ≡ true
high_repeatable t h s = grind (arith, nat_tests)

-- ---- the answers
module _ (before : List ℕ) (t : ℕ) where
  pub stop_place : placed (length before) t ≡ false → 9 ≡ place_check before t
  unfolding place_check
  stop_place p = simp p

  module _ (p : placed (length before) t ≡ true) where
    pub pass_low : t < 3 → 0 ≡ place_check before t
    unfolding place_check
    pass_low h = simp (p, low_single t h, low_repeatable t h)

    pub stop_repeat : single t ≡ true → occurs t before ≡ true → 10 ≡ place_check before t
    unfolding place_check
    stop_repeat s o = simp (p, s, o)

    pub pass_new : occurs t before ≡ false → 0 ≡ place_check before t
    unfolding place_check
    pass_new o = simp (p, o, and-false)

    pub pass_neighbour : single t ≡ false → t ≡ nearest before → 0 ≡ place_check before t
    unfolding place_check
    pass_neighbour s e = simp (p, s, eq-eqb (nearest before) t (sym e), and-false)

    pub stop_split : 3 ≤ t → single t ≡ false → occurs t before ≡ true → (t ≡ nearest before → ⊥) → 11 ≡ place_check before t
    unfolding place_check
    stop_split h s o n = simp (p, s, high_repeatable t h s, o, ne_eqb (nearest before) t (λ e. n (sym e)))

-- ---- the types before attribute i
pub length_types : (b : List ℕ) (i : ℕ) → length (types_before b i) ≡ i
unfolding types_before
length_types b zero = refl
length_types b (suc i) = ap suc (length_types b i)

pub nearest_first : (b : List ℕ) → nearest (types_before b 0) ≡ 0
unfolding types_before
nearest_first b = refl

pub nearest_next : (b : List ℕ) (i : ℕ) → nearest (types_before b (i + 1)) ≡ stored_type b i
unfolding types_before
nearest_next b i = rw add-one

pub nearest_last : (b : List ℕ) (n : ℕ) → 0 < n → nearest (types_before b n) ≡ stored_type b (n - 1)
unfolding types_before
nearest_last b zero h = absurd (omega arith)
nearest_last b (suc n) h = let q : suc n - 1 ≡ n = omega arith in rw q

pub occurs_next : (b : List ℕ) (t i : ℕ) → (stored_type b i ≡ t → ⊥) → occurs t (types_before b i) ≡ false → occurs t (types_before b (i + 1)) ≡ false
unfolding types_before occurs
occurs_next b t i n e = rw add-one (simp (ne_eqb (stored_type b i) t n, e))

found : (x y : Bool) → y ≡ true → (x || y) ≡ true
found true y e = refl
found false y e = e

pub occurs_here : (b : List ℕ) (t j i : ℕ) → j < i → stored_type b j ≡ t → occurs t (types_before b i) ≡ true
unfolding types_before occurs
occurs_here b t j zero l e = absurd (not-suc-le-zero l)
occurs_here b t j (suc i) l e =
    ⊎_elim (λ q. simp (eq-eqb (stored_type b i) t (subst (λ (k : ℕ). stored_type b k ≡ t) q e)))
    (λ lt. found (eqb (stored_type b i) t) (occurs t (types_before b i)) (occurs_here b t j i lt e)) (eq-or-lt_of_le (le_of_suc-le-suc l))

-- ---- a search finds a type exactly where it occurs
module _ (b : List ℕ) (t : ℕ) where
  among : (i n : ℕ) (x : Bool) → eqb (stored_type b i) t ≡ x
      → (not (eqb (first_of_type b t (suc i) n) 0) || occurs t (types_before b (suc i))) ≡ occurs t (types_before b (suc i + n))
      → (not (eqb (pick x (start b i) (first_of_type b t (suc i) n)) 0) || occurs t (types_before b i)) ≡ occurs t (types_before b (i + suc n))
  unfolding types_before occurs
  among i n true e rest =
      simp (ne_eqb (start b i) 0 (λ z. omega (arith, after_head b i, z)), occurs_here b t i (i + suc n) (omega arith) (eqb-true _ _ e))
  among i n false e rest =
      let q : suc i + n ≡ i + suc n = omega arith in
      subst (λ (x : Bool). (not (eqb (first_of_type b t (suc i) n) 0) || (x || occurs t (types_before b i))) ≡ occurs t (types_before b (suc i + n))) e rest
      ∙ ap (λ (k : ℕ). occurs t (types_before b k)) q

  found_from : (i n : ℕ) → (not (eqb (first_of_type b t i n) 0) || occurs t (types_before b i)) ≡ occurs t (types_before b (i + n))
  unfolding first_of_type
  found_from i zero = rw add-zero
  found_from i (suc n) = among i n (eqb (stored_type b i) t) refl (found_from (suc i) n)

  pub found_is : (n : ℕ) → not (eqb (first_of_type b t 0 n) 0) ≡ occurs t (types_before b n)
  unfolding types_before occurs
  found_is n = sym (or-false _) ∙ found_from 0 n ∙ ap (λ (k : ℕ). occurs t (types_before b k)) (zero-add n)

-- ---- what the functions go by
pub ruleset indices = (common_steps, placed_first, placed_second, placed_later)

pub ruleset answers = (common_steps, length_types, stop_place, pass_low, stop_repeat, pass_new, pass_neighbour, stop_split)

pub ruleset last = (common_steps, nearest_first, nearest_last, header_in)

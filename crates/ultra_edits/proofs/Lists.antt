-- Lists without one element or with another in its place, and what holds of all elements.
use Prim.Native.Nat.{ℕ, zero, suc, ◌≤◌, ◌<◌}
use mathlib.Core.Path.{◌≡◌, refl, ap}
use mathlib.Core.List.{List, [], ◌∷◌, ◌++◌}
use native.Mathlib.Omega.{arith}
use native.Mathlib.Nat.{not-suc-le-zero, le_of_suc-le-suc}
use lib.ListN.{length, get_or}

-- ---- what holds of all
abbrev pub All : {X : Type 0} → (X → Type 0) → List X → Type 0
All P [] = Unit {0}
All P (x ∷ l) = P x × All P l

module _ {X : Type 0} (P : X → Type 0) where
  pub all_append : (l m : List X) → All P l → All P m → All P (l ++ m)
  all_append [] m g h = h
  all_append (x ∷ l) m g h = (g.0, all_append l m g.1 h)

  pub all_front : (l m : List X) → All P (l ++ m) → All P l × All P m
  all_front [] m h = (tt, h)
  all_front (x ∷ l) m h = let r = all_front l m h.1 in ((h.0, r.0), r.1)

  module _ (z : X) where
    pub gathered : (l : List X) → ((i : ℕ) → i < length l → P (get_or l i z)) → All P l
    gathered [] h = tt
    gathered (x ∷ l) h = (h 0 (omega arith), gathered l (λ i k. h (suc i) (omega arith)))

    pub at_each : (l : List X) → All P l → (i : ℕ) → i < length l → P (get_or l i z)
    at_each [] h i k = absurd (not-suc-le-zero k)
    at_each (x ∷ l) h zero k = h.0
    at_each (x ∷ l) h (suc i) k = at_each l h.1 i (le_of_suc-le-suc k)

-- ---- a list without its element k: where the one at i was
abbrev pub skip : ℕ → ℕ → ℕ
skip zero i = suc i
skip (suc k) zero = 0
skip (suc k) (suc i) = suc (skip k i)

pub skip_rises : (k i j : ℕ) → i < j → skip k i < skip k j
skip_rises zero i j h = omega arith
skip_rises (suc k) i zero h = absurd (not-suc-le-zero h)
skip_rises (suc k) zero (suc j) h = omega arith
skip_rises (suc k) (suc i) (suc j) h = let r = skip_rises k i j (le_of_suc-le-suc h) in omega arith

pub skip_near : (k i : ℕ) → skip k i ≤ suc i
skip_near zero i = omega arith
skip_near (suc k) zero = omega arith
skip_near (suc k) (suc i) = let r = skip_near k i in omega arith

pub skip_zero : (k : ℕ) → 0 < k → skip k 0 ≡ 0
skip_zero zero h = absurd (not-suc-le-zero h)
skip_zero (suc k) h = refl

pub skip_one : (k : ℕ) → 1 < k → skip k 1 ≡ 1
skip_one zero h = absurd (not-suc-le-zero h)
skip_one (suc k) h = ap suc (skip_zero k (le_of_suc-le-suc h))

module _ {X : Type 0} where
  pub skip_at : (p : List X) (a : X) (s : List X) (z : X) (i : ℕ) → get_or (p ++ s) i z ≡ get_or (p ++ (a ∷ s)) (skip (length p) i) z
  skip_at [] a s z i = refl
  skip_at (x ∷ p) a s z zero = refl
  skip_at (x ∷ p) a s z (suc i) = skip_at p a s z i

  -- another in place of one
  pub other_at : (p : List X) (a : X) (s : List X) (z e : X) (i : ℕ) → (i ≡ length p → ⊥)
      → get_or (p ++ (e ∷ s)) i z ≡ get_or (p ++ (a ∷ s)) i z
  other_at [] a s z e zero h = absurd (h refl)
  other_at [] a s z e (suc i) h = refl
  other_at (x ∷ p) a s z e zero h = refl
  other_at (x ∷ p) a s z e (suc i) h = other_at p a s z e i (λ q. h (ap suc q))

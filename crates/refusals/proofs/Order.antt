-- Chains of tests in an order, each of which fails just under its condition.
use Prim.Native.Nat.{ℕ, suc, ◌<◌}
use mathlib.Core.Path.{◌≡◌, refl, sym, ◌∙◌}
use mathlib.Core.Logic.{◌↔◌, ◌⊎◌, inl, inr, ⊎_elim}
use mathlib.Core.Bool.{Bool, true, false, ◌&&◌}
use mathlib.Core.List.{List, [], ◌∷◌}
use native.Mathlib.Omega.{arith}
use lib.Dec.{leb}
use borrow.Author.Tests.{leb-false, lt-leb}
use Rattle.refusals.specs.Refusals.{unless}
use Rattle.refusals.specs.Order.{First}

abbrev pub AllFine : List ℕ → (ℕ → Type 0) → Type 0
AllFine [] breaks = Unit {0}
AllFine (m ∷ ms) breaks = (breaks m → ⊥) × AllFine ms breaks

-- v is 0 and no condition is met, or v is not 0 and is the first whose condition is
abbrev pub Chain : List ℕ → (ℕ → Type 0) → ℕ → Type 0
Chain ms breaks v = ((v ≡ 0) × AllFine ms breaks) ⊎ ((v ≡ 0 → ⊥) × First ms breaks v)

pub clash : {X : Type 0} → true ≡ false → X
clash e = absurd (let z : ◌≡◌ {A = ℕ} 0 1 = cc in omega arith)

module _ (breaks : ℕ → Type 0) where
  pub ends : Chain [] breaks 0
  ends = inl (refl, tt)

  pub link : (t : Bool) (m rest : ℕ) (ms : List ℕ) → (t ≡ false) ↔ breaks (suc m) → Chain ms breaks rest → Chain (suc m ∷ ms) breaks (unless t (suc m) rest)
  link true m rest ms h r = ⊎_elim (λ a. inl (a.0, (λ x. clash (h.1 x), a.1))) (λ a. inr (a.0, inr (λ x. clash (h.1 x), a.1))) r
  link false m rest ms h r = inr ((λ z. omega arith), inl (h.0 refl, refl))

  -- what is first is one
  fine_first : (ms : List ℕ) (n : ℕ) → AllFine ms breaks → First ms breaks n → ⊥
  fine_first [] n f g = g
  fine_first (m ∷ ms) n f g = ⊎_elim (λ a. f.0 a.0) (λ a. fine_first ms n f.1 a.1) g

  first_same : (ms : List ℕ) (n v : ℕ) → First ms breaks n → First ms breaks v → v ≡ n
  first_same [] n v f g = absurd f
  first_same (m ∷ ms) n v f g =
      ⊎_elim (λ a. ⊎_elim (λ c. c.1 ∙ sym a.1) (λ c. absurd (c.0 a.0)) g)
      (λ a. ⊎_elim (λ c. absurd (a.0 c.0)) (λ c. first_same ms n v a.1 c.1) g) f

  -- by what is met
  pub said_first : (ms : List ℕ) (v n : ℕ) → Chain ms breaks v → First ms breaks n → (v ≡ n) × (n ≡ 0 → ⊥)
  said_first ms v n c f =
      ⊎_elim (λ a. absurd (fine_first ms n a.1 f)) (λ a. let e = first_same ms n v f a.1 in (e, λ z. a.0 (e ∙ z))) c

  first_breaks : (ms : List ℕ) (n : ℕ) → First ms breaks n → (m : ℕ) × breaks m
  first_breaks [] n f = absurd f
  first_breaks (m ∷ ms) n f = ⊎_elim (λ a. (m, a.0)) (λ a. first_breaks ms n a.1) f

  pub said_none : (ms : List ℕ) (v : ℕ) → Chain ms breaks v → ((m : ℕ) → breaks m → ⊥) → v ≡ 0
  said_none ms v c h = ⊎_elim (λ a. a.0) (λ a. absurd (let x = first_breaks ms v a.1 in h x.0 x.1)) c

-- ---- single tests
pub below : (a b : ℕ) → (leb a b ≡ false) ↔ (b < a)
below a b = (leb-false a b, lt-leb a b)

pub through : {A B C : Type 0} → A ↔ B → (B → C) → (C → B) → A ↔ C
through f g h = (λ a. g (f.0 a), λ c. f.1 (h c))

-- two tests with one number are one
pub one_number : (s t : Bool) (m rest : ℕ) → unless s m (unless t m rest) ≡ unless (s && t) m rest
one_number true t m rest = refl
one_number false t m rest = refl

pub either_fails : {A B : Type 0} (s t : Bool) → (s ≡ false) ↔ A → (t ≡ false) ↔ B → ((s && t) ≡ false) ↔ (A ⊎ B)
either_fails true t f g = (λ e. inr (g.0 e), λ x. ⊎_elim (λ a. clash (f.1 a)) (λ b. g.1 b) x)
either_fails false t f g = (λ e. inl (f.0 refl), λ x. refl)

-- Laws of chains of tests: what a chain that answers 0 says, link by link.
use Rattle.std.specs.Prelude.{⊤, Result, Ok, Err}
use Rattle.std.specs.Result.{IsErrAnd}
use Rattle.std.proofs.lemmas.Result.{err_from_is_err_and}
use Prim.Native.Nat.{ℕ, zero, suc}
use mathlib.Core.Path.{◌≡◌, refl, ap, ◌∙◌}
use mathlib.Core.Bool.{Bool, true, false, ◌&&◌}
use native.Mathlib.Omega.{arith}
use Rattle.refusals.specs.Refusals.{unless, first_of}
use Rattle.refusals.specs.Answers.{Answer, checked, number_in, refused, or_refused, and_then}

pub passed : (t : Bool) (n rest : ℕ) → unless t (suc n) rest ≡ 0 → (t ≡ true) × (rest ≡ 0)
passed true n rest e = (refl, e)
passed false n rest e = absurd (omega arith)

pub none_first : (n rest : ℕ) → first_of n rest ≡ 0 → (n ≡ 0) × (rest ≡ 0)
none_first zero rest e = (refl, e)
none_first (suc n) rest e = absurd (omega arith)

pub first_stays : (n rest : ℕ) → (n ≡ 0 → ⊥) → n ≡ first_of n rest
first_stays zero rest h = absurd (h refl)
first_stays (suc n) rest h = refl

-- ---- tests
pub both_hold : (s t : Bool) → (s && t) ≡ true → (s ≡ true) × (t ≡ true)
both_hold true t e = (refl, e)
both_hold false t e = absurd (let z : ◌≡◌ {A = ℕ} 0 1 = cc in omega arith)

-- ---- answers
-- what a check that answers by its number says of the number
pub broken : (k : ℕ) (n : ℕ) → checked k ≡ Err n → (k ≡ n) × (k ≡ 0 → ⊥)
broken zero n e = absurd (let z : ◌≡◌ {A = ℕ} 0 1 = cc in omega arith)
broken (suc k) n e = (cc, λ z. omega arith)

pub unbroken : {u : ⊤} (k : ℕ) → checked k ≡ Ok u → k ≡ 0
unbroken zero e = refl
unbroken (suc k) e = absurd (let z : ◌≡◌ {A = ℕ} 0 1 = cc in omega arith)

pub number_checked : (k : ℕ) → number_in (checked k) ≡ k
number_checked zero = refl
number_checked (suc k) = refl

-- what a `?` hands back of an error
pub passed_on : {T E : Type 0} (r : Result T E) {e : E} → IsErrAnd r (λ x. x ≡ e) → r ≡ Err e
passed_on r h = let x = err_from_is_err_and r h in x.1 ∙ ap Err x.2

pub refuses : (n o : ℕ) (rest : Answer) → (n ≡ 0 → ⊥) → or_refused n o rest ≡ refused n o
refuses zero o rest h = absurd (h refl)
refuses (suc n) o rest h = refl

pub not_refused : (n o : ℕ) (rest : Answer) (v : ℕ) → or_refused n o rest ≡ Ok v → (n ≡ 0) × (rest ≡ Ok v)
not_refused zero o rest v e = (refl, e)
not_refused (suc n) o rest v e = absurd (let z : ◌≡◌ {A = ℕ} 0 1 = cc in omega arith)

pub both_done : (a rest : Answer) (v : ℕ) → and_then a rest ≡ Ok v → ((w : ℕ) × (a ≡ Ok w)) × (rest ≡ Ok v)
both_done (Ok w) rest v e = ((w, refl), e)
both_done (Err r) rest v e = absurd (let z : ◌≡◌ {A = ℕ} 0 1 = cc in omega arith)

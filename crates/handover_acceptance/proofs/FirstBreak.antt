-- Going over the records: the first index at which a check is not 0.
use Rattle.std.specs.Prelude.{Err}
use Prim.Native.Nat.{ℕ, zero, suc, ◌+◌, ◌<◌}
use mathlib.Core.Path.{◌≡◌, refl}
use mathlib.Core.Logic.{◌⊎◌, inl, inr, ⊎_elim}
use mathlib.Core.Bool.{Bool, true, false}
use native.Mathlib.Omega.{arith}
use native.Mathlib.Nat.{not-suc-le-zero}
use lib.Dec.{eqb}
use borrow.Author.Tests.{eqb-true, eqb-false}
use Rattle.refusals.specs.Answers.{refusal_at}
use Rattle.refusals.proofs.Chains.{refuses}
use Rattle.handover_format.specs.Payloads.{record_start}
use Rattle.handover_reading.specs.PayloadReading.{each_of}

pub record FirstBreak (f : ℕ → ℕ) (v n : ℕ) : Type 0 where
  pub i : ℕ
  pub below : i < n
  pub before : (j : ℕ) → j < i → f j ≡ 0
  pub here : f i ≡ 0 → ⊥
  pub is : each_of f v 0 n ≡ Err (refusal_at (f i) i (record_start i))

module _ (f : ℕ → ℕ) (v : ℕ) where
  -- the answer from i on, where f is first not 0 at i + k
  each_from : (i k n : ℕ) → k < n → ((j : ℕ) → j < k → f (i + j) ≡ 0) → (f (i + k) ≡ 0 → ⊥) → each_of f v i n ≡ Err (refusal_at (f (i + k)) (i + k) (record_start (i + k)))
  unfolding each_of
  each_from i k zero l h g = absurd (not-suc-le-zero l)
  each_from i zero (suc n) l h g = let q : i + 0 ≡ i = omega arith in rw q (refuses (f i) (record_start i) _ (λ z. g (rw q z)))
  each_from i (suc k) (suc n) l h g =
      let p : i + 0 ≡ i = omega arith in
      let z : f i ≡ 0 = rw p at (h 0 (omega arith)) in
      let q : i + suc k ≡ suc i + k = omega arith in
      rw (z, q) (each_from (suc i) k n (omega arith) (λ j m. let r : suc i + j ≡ i + suc j = omega arith in rw r (h (suc j) (omega arith))) (λ e. g (rw q e)))

  pub each_at : (n i : ℕ) → i < n → ((j : ℕ) → j < i → f j ≡ 0) → (f i ≡ 0 → ⊥) → each_of f v 0 n ≡ Err (refusal_at (f i) i (record_start i))
  each_at n i l h g =
      let q : 0 + i ≡ i = omega arith in
      rw q at (each_from 0 i n l (λ j m. let r : 0 + j ≡ j = omega arith in rw r (h j m)) (λ e. g (rw q at e)))

  zero_or : (x : ℕ) → (x ≡ 0) ⊎ (x ≡ 0 → ⊥)
  zero_or zero = inl refl
  zero_or (suc x) = inr (λ z. omega arith)

  -- either there is none or there is a first
  search_break : (n : ℕ) → ((j : ℕ) → j < n → f j ≡ 0) ⊎ ((i : ℕ) × (i < n) × ((j : ℕ) → j < i → f j ≡ 0) × (f i ≡ 0 → ⊥))
  search_break zero = inl (λ j h. absurd (not-suc-le-zero h))
  search_break (suc n) = ⊎_elim (λ a. ⊎_elim (λ z. inl (more a z)) (λ z. inr (n, omega arith, a, z)) (zero_or (f n))) (λ a. inr (a.0, omega (arith, a.1), a.2, a.3)) (search_break n)
    where
      more : ((j : ℕ) → j < n → f j ≡ 0) → f n ≡ 0 → (j : ℕ) → j < suc n → f j ≡ 0
      more a z j h = go (eqb j n) refl
        where
          go : (t : Bool) → eqb j n ≡ t → f j ≡ 0
          go true e = let q = eqb-true j n e in rw q z
          go false e = let q = eqb-false j n e in a j (omega arith)

  pub each_settled : (n : ℕ) → ((j : ℕ) → j < n → f j ≡ 0) ⊎ FirstBreak f v n
  each_settled n = ⊎_elim (λ a. inl a) (λ a. inr (record { i = a.0; below = a.1; before = a.2; here = a.3; is = each_at n a.0 a.1 a.2 a.3 })) (search_break n)

-- Laws of going over the records, whatever is asked of each: the answer from record i of n on.
use Rattle.std.specs.Prelude.{⊤, Ok, Err}
use Prim.Native.Nat.{ℕ, zero, suc, ◌+◌, ◌-◌, ◌<◌}
use mathlib.Core.Path.{◌≡◌, refl, sym, ap, ◌∙◌}
use native.Mathlib.Omega.{arith}
use native.Mathlib.Numerals.{add-one}
use native.Mathlib.Nat.{not-suc-le-zero}
use Rattle.refusals.specs.Answers.{checked, refusal_at, refused}
use Rattle.handover_format.specs.Payloads.{record_start}
use Rattle.refusals.proofs.Chains.{broken, unbroken, refuses, not_refused}
use Rattle.handover_reading.specs.PayloadReading.{each_of}

module _ (f : ℕ → ℕ) (v : ℕ) where
  module _ (i n : ℕ) where
    pub each_refuse : (k : ℕ) → i < n → checked (f i) ≡ Err k → Err (refusal_at k i (record_start i)) ≡ each_of f v i (n - i)
    unfolding each_of
    each_refuse k l e =
        let q : n - i ≡ suc (n - (i + 1)) = omega arith in
        let m = broken (f i) k e in
        rw q (sym (refuses (f i) (record_start i) _ m.1 ∙ ap (λ (j : ℕ). refused j (record_start i)) m.0))

    pub each_next : {u : ⊤} → i < n → checked (f i) ≡ Ok u → each_of f v (i + 1) (n - (i + 1)) ≡ each_of f v i (n - i)
    unfolding each_of
    each_next l e =
        let q : n - i ≡ suc (n - (i + 1)) = omega arith in
        let z = unbroken (f i) e in
        rw q (simp (z, add-one))

    pub each_end : n ≡ i → Ok v ≡ each_of f v i (n - i)
    unfolding each_of
    each_end e = let q : n - i ≡ 0 = omega arith in rw q

  -- where the end is reached, no record has a break; and back
  pub each_clear : (i n w : ℕ) → each_of f v i n ≡ Ok w → ((j : ℕ) → j < n → f (i + j) ≡ 0) × (w ≡ v)
  unfolding each_of
  each_clear i zero w e = (λ j h. absurd (not-suc-le-zero h), cc)
  each_clear i (suc n) w e =
      let p = not_refused (f i) (record_start i) _ w e in
      let r = each_clear (suc i) n w p.1 in
      (at p.0 r.0, r.1)
    where
      at : f i ≡ 0 → ((j : ℕ) → j < n → f (suc i + j) ≡ 0) → (j : ℕ) → j < suc n → f (i + j) ≡ 0
      at z r zero h = let q : i + 0 ≡ i = omega arith in rw q z
      at z r (suc j) h = let q : i + suc j ≡ suc i + j = omega arith in rw q (r j (omega arith))

  pub each_done : (i n : ℕ) → ((j : ℕ) → j < n → f (i + j) ≡ 0) → each_of f v i n ≡ Ok v
  unfolding each_of
  each_done i zero h = refl
  each_done i (suc n) h =
      let q : i + 0 ≡ i = omega arith in
      let z : f i ≡ 0 = rw q at (h 0 (omega arith)) in
      rw z (each_done (suc i) n (λ j l. let q : suc i + j ≡ i + suc j = omega arith in rw q (h (suc j) (omega arith))))

-- Laws of a test that holds of every index below a number.
use Rattle.std.proofs.Common.{ℕ, zero, suc, ◌+◌, ◌<◌, ◌≡◌, refl, Bool, true, false, ◌&&◌, arith, add-one}
use Rattle.handover_arguments.specs.Judging.{every}

module _ (f : ℕ → Bool) where
  pub every_none : every f 0 ≡ true
  unfolding every
  every_none = refl

  pub every_more : (i : ℕ) → every f (i + 1) ≡ every f i && f i
  unfolding every
  every_more i = rw add-one

  pub every_at : (n : ℕ) → every f n ≡ true → (i : ℕ) → i < n → f i ≡ true
  unfolding every
  every_at zero h i l = absurd (omega arith)
  every_at (suc n) h i l = grind (arith, every_at n, h)

  pub every_stop : (n i : ℕ) → i < n → f i ≡ false → every f n ≡ false
  every_stop n i l e = grind (arith, every_at n)

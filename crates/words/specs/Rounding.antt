-- Whole numbers rounded up to a multiple, and what that is: `RoundsUp`, proved in proofs/Rounding.antt as `rounds_up`.
-- A reader has to believe this file.
use Rattle.std.specs.Prelude.{ℕ, ◌+◌, ◌-◌, ◌*◌, ◌/◌, ◌≤◌, ◌≡◌}

-- `x` is a multiple of `k`
abbrev pub Multiple : ℕ → ℕ → Type 0
Multiple k x = (q : ℕ) × (x ≡ q * k)

-- `n`, "rounded up to a multiple of" `k`
abbrev pub rounded_up : ℕ → ℕ → ℕ
rounded_up k n = (n + (k - 1)) / k * k

-- `x` is the least multiple of `k` that is not below `n`
pub record LeastMultiple (k n x : ℕ) : Type 0 where
  pub multiple : Multiple k x
  pub enough : n ≤ x
  pub least : (y : ℕ) → Multiple k y → n ≤ y → x ≤ y

abbrev pub RoundsUp : Type 0
RoundsUp = (k n : ℕ) → 1 ≤ k → LeastMultiple k n (rounded_up k n)

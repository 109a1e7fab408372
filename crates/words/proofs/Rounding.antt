-- A number rounded up is the least multiple that is not below it.
use Prim.Native.Nat.{ℕ, suc, ◌+◌, ◌-◌, ◌*◌, ◌/◌, ◌≤◌}
use mathlib.Core.Path.{refl}
use native.Mathlib.Omega.{arith}
use native.Mathlib.Nat.{lt-div-mul-add, div-lt_iff_lt-mul, mul-le-mul_right, suc-mul}
use Rattle.words.specs.Rounding.{rounded_up, RoundsUp}

least : (k n q : ℕ) → 1 ≤ k → n ≤ q * k → rounded_up k n ≤ q * k
least k n q h l =
    let e = suc-mul q k in
    let b : (n + (k - 1)) / k ≤ q = omega (arith, (div-lt_iff_lt-mul {k = k} {x = n + (k - 1)} {y = suc q} h).1 (omega arith)) in
    mul-le-mul_right k b

pub rounds_up : RoundsUp
rounds_up k n h =
    record {
      multiple = ((n + (k - 1)) / k, refl);
      enough = let l = lt-div-mul-add {a = n + (k - 1)} {b = k} h in omega arith;
      least = λ y m l. let e = m.1 in rw e (least k n m.0 h (omega arith));
    }

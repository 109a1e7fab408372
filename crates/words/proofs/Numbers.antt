-- Numbers in a list of bytes, and the bytes that they are: written again, they are the bytes that they stood in.
use Prim.Native.Nat.{ℕ, zero, suc, ◌+◌, ◌*◌, ◌/◌, ◌%◌, ◌≤◌, ◌<◌}
use mathlib.Core.Path.{◌≡◌, refl, ap, ap₂, ◌∙◌}
use mathlib.Core.List.{List, ◌∷◌, ◌++◌}
use native.Mathlib.Omega.{arith}
use native.Mathlib.Numerals.{add-one}
use lib.ListN.{length, take, drop, get_or}
use lib.Seq.{drop-cons, drop-drop, take-add, take-length}
use Rattle.words.specs.Words.{number_at, little_endian, numbers_at, numbers_in, numbers_bytes}

pub length_numbers : (b : List ℕ) (o n : ℕ) → length (numbers_at b o n) ≡ n
unfolding numbers_at
length_numbers b o zero = refl
length_numbers b o (suc n) = ap suc (length_numbers b (o + 8) n)

module _ (b : List ℕ) (y : (i : ℕ) → get_or b i 0 < 256) where
  pub number_bytes : (o k : ℕ) → o + k ≤ length b → little_endian k (number_at b o k) ≡ take k (drop o b)
  unfolding number_at
  number_bytes o zero h = refl
  number_bytes o (suc k) h =
      let x = get_or b o 0 in
      let n = number_at b (o + 1) k in
      let l : (x + 256 * n) % 256 ≡ x = omega (arith, y o) in
      let r : (x + 256 * n) / 256 ≡ n = omega (arith, y o) in
      rw (l, r, drop-cons b o 0 (omega arith), ← (add-one o)) (ap (λ (m : List ℕ). x ∷ m) (number_bytes (o + 1) k (omega arith)))

  pub numbers_bytes_law : (o n : ℕ) → o + 8 * n ≤ length b → numbers_bytes (numbers_at b o n) ≡ take (8 * n) (drop o b)
  unfolding numbers_at numbers_bytes
  numbers_bytes_law o zero h = refl
  numbers_bytes_law o (suc n) h =
      let q : 8 * suc n ≡ 8 + 8 * n = omega arith in
      rw (q, take-add 8 (8 * n) (drop o b), drop-drop 8 o b)
      (ap₂ (λ (l m : List ℕ). l ++ m) (number_bytes o 8 (omega arith)) (numbers_bytes_law (o + 8) n (omega arith)))

  -- whole eights are all of the list
  pub bytes_back : length b % 8 ≡ 0 → numbers_bytes (numbers_in b) ≡ b
  bytes_back h =
      let q : 8 * (length b / 8) ≡ length b = omega arith in
      numbers_bytes_law 0 (length b / 8) (omega arith) ∙ rw (q, take-length)

-- The entries in a buffer, by the numbers that a part of it has.
use Prim.Native.Nat.{ℕ, zero, suc, ◌+◌, ◌-◌, ◌*◌, ◌/◌, ◌≤◌, ◌<◌}
use mathlib.Core.Path.{◌≡◌, refl, ap, ap₂, ◌∙◌}
use mathlib.Core.List.{List, ◌∷◌}
use native.Mathlib.Omega.{arith}
use lib.ListN.{length, get_or, take, drop, length-drop}
use Rattle.std.proofs.lemmas.List.{get_or-take, get_or-drop, length-take}
use Rattle.words.specs.Words.{number_at, numbers_at, numbers_in}
use Rattle.byte_layout.specs.Stored.{Bytes}
use Rattle.byte_layout.proofs.FieldLaws.{number_fits}
use Rattle.ultra_format.specs.Contexts.{Body.memory_map}
use Rattle.ultra_format.specs.Members.{body_check}
use Rattle.ultra_format.specs.Decoding.{entries_at}
use Rattle.ultra_format.specs.Additions.{entries_given}
use Rattle.ultra_format.proofs.Numbers.{length_entries, entries_of_numbers}

-- ---- the numbers that bytes are
pub number_is : (b : List ℕ) (o n i : ℕ) → i < n → get_or (numbers_at b o n) i 0 ≡ number_at b (o + 8 * i) 8
unfolding numbers_at
number_is b o zero i h = absurd (omega arith)
number_is b o (suc n) zero h = let q : o ≡ o + 8 * 0 = omega arith in ap (λ (j : ℕ). number_at b j 8) q
number_is b o (suc n) (suc i) h =
    let q : o + 8 + 8 * i ≡ o + 8 * suc i = omega arith in
    number_is b (o + 8) n i (omega arith) ∙ ap (λ (j : ℕ). number_at b j 8) q

pub bounded : (b : List ℕ) → Bytes b → (o n i : ℕ) → get_or (numbers_at b o n) i 0 < 18446744073709551616
unfolding numbers_at
bounded b y o zero i = omega arith
bounded b y o (suc n) zero = number_fits b y o 8
bounded b y o (suc n) (suc i) = bounded b y (o + 8) n i

-- ---- in the m bytes from `o` on stand the numbers that stand there in all of them
module _ (b : List ℕ) (m o : ℕ) where
  number_in : (i k : ℕ) → i + k ≤ m → number_at (take m (drop o b)) i k ≡ number_at b (o + i) k
  unfolding number_at
  number_in i zero h = refl
  number_in i (suc k) h =
      let e : get_or (take m (drop o b)) i 0 ≡ get_or b (o + i) 0 = get_or-take m (drop o b) i 0 (omega arith) ∙ get_or-drop o b i 0 in
      let q : o + (i + 1) ≡ o + i + 1 = omega arith in
      ap₂ (λ (x n : ℕ). x + 256 * n) e (number_in (i + 1) k (omega arith) ∙ ap (λ (j : ℕ). number_at b j k) q)

  numbers_part : (i n : ℕ) → i + 8 * n ≤ m → numbers_at (take m (drop o b)) i n ≡ numbers_at b (o + i) n
  unfolding numbers_at
  numbers_part i zero h = refl
  numbers_part i (suc n) h =
      let q : o + (i + 8) ≡ o + i + 8 = omega arith in
      ap₂ (λ (x : ℕ) (l : List ℕ). x ∷ l) (number_in i 8 (omega arith)) (numbers_part (i + 8) n (omega arith) ∙ ap (λ (j : ℕ). numbers_at b j n) q)

-- ---- n entries in the bytes from `o` on
module _ (b : List ℕ) (o n : ℕ) where
  pub part_numbers : o + 24 * n ≤ length b → numbers_in (take (o + 24 * n - o) (drop o b)) ≡ numbers_at b o (3 * n)
  part_numbers h =
      let m : o + 24 * n - o ≡ 24 * n = omega arith in
      let l : length (take (24 * n) (drop o b)) / 8 ≡ 3 * n = omega (arith, length-take (24 * n) (drop o b), length-drop o b) in
      let q : o + 0 ≡ o = omega arith in
      rw (m, l, numbers_part b (24 * n) o 0 (3 * n) (omega arith), q)

  pub stored_number : body_check (8 + 24 * length (entries_given (numbers_at b o (3 * n)))) (memory_map (entries_given (numbers_at b o (3 * n))))
      ≡ body_check (8 + 24 * n) (memory_map (entries_at b o n))
  stored_number = let d : 3 * n / 3 ≡ n = omega arith in rw (entries_of_numbers b o (3 * n), d, length_entries b o n)

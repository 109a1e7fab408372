-- Numbers over the front of those that a list of bytes holds: their bytes, and after them bytes of the list.
use Prim.Native.Nat.{ℕ, zero, suc, ◌+◌, ◌-◌, ◌*◌, ◌/◌, ◌≤◌, ◌<◌}
use mathlib.Core.Path.{◌≡◌, refl, ap, ◌∙◌}
use mathlib.Core.List.{List, [], ◌∷◌, ◌++◌, append_assoc}
use native.Mathlib.Omega.{arith}
use native.Mathlib.Nat.{add-zero, zero-add}
use lib.ListN.{length, take, drop, get_or, length-append}
use Rattle.words.specs.Words.{little_endian, numbers_at, numbers_in, numbers_bytes}
use Rattle.words.proofs.Widths.{length_bytes}
use Rattle.words.proofs.Numbers.{numbers_bytes_law}

pub length_numbers_bytes : (ns : List ℕ) → length (numbers_bytes ns) ≡ 8 * length ns
unfolding numbers_bytes
length_numbers_bytes [] = refl
length_numbers_bytes (n ∷ ns) = omega (arith, length-append (little_endian 8 n) (numbers_bytes ns), length_bytes 8 n, length_numbers_bytes ns)

numbers_append : (ms ns : List ℕ) → numbers_bytes (ms ++ ns) ≡ numbers_bytes ms ++ numbers_bytes ns
unfolding numbers_bytes
numbers_append [] ns = refl
numbers_append (m ∷ ms) ns = rw (numbers_append ms ns, append_assoc)

-- the numbers after the first k
numbers_after : (b : List ℕ) (o n k : ℕ) → k ≤ n → drop k (numbers_at b o n) ≡ numbers_at b (o + 8 * k) (n - k)
unfolding numbers_at
numbers_after b o n zero h = let q : n - 0 ≡ n = omega arith in rw (q, add-zero)
numbers_after b o zero (suc k) h = absurd (omega arith)
numbers_after b o (suc n) (suc k) h =
    let q : o + 8 * suc k ≡ o + 8 + 8 * k = omega arith in
    let r : suc n - suc k ≡ n - k = omega arith in
    rw (q, r) (numbers_after b (o + 8) n k (omega arith))

pub front_bytes : (b ns : List ℕ) → ((i : ℕ) → get_or b i 0 < 256) → length ns ≤ length b / 8
    → numbers_bytes (ns ++ drop (length ns) (numbers_in b)) ≡ numbers_bytes ns ++ take (8 * (length b / 8 - length ns)) (drop (length (numbers_bytes ns)) b)
front_bytes b ns y h =
    numbers_append ns (drop (length ns) (numbers_in b))
    ∙ rw (numbers_after b 0 (length b / 8) (length ns) h, zero-add, length_numbers_bytes ns)
    (ap (λ (l : List ℕ). numbers_bytes ns ++ l) (numbers_bytes_law b y (8 * length ns) (length b / 8 - length ns) (omega arith)))

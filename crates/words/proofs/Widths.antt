-- One law over the width for loads, and one for stores: a number of `j + k` bytes is one of `j` bytes and one of `k` after it.
use Prim.Native.Nat.{ℕ, zero, suc, ◌+◌, ◌*◌, ◌/◌, ◌%◌, ◌^◌, ◌≤◌, ◌<◌}
use mathlib.Core.Path.{◌≡◌, refl, sym, ap, ap₂, ◌∙◌}
use mathlib.Core.List.{List, [], ◌∷◌, ◌++◌, append_assoc}
use native.Mathlib.Omega.{arith}
use native.Mathlib.Nat.{add-zero, zero-add, suc-add, mul_assoc, mul_comm, pow-suc, div-one, div-div-eq-div-mul}
use lib.ListN.{length, take, drop, set, length-append}
use lib.Seq.{take_at, length-take-le, drop-drop, drop-append-add, sets-eq}
use Rattle.words.specs.Words.{number_at, little_endian, replaced}

pub number_split : (b : List ℕ) (o j k : ℕ) → number_at b o (j + k) ≡ number_at b o j + 256 ^ j * number_at b (o + j) k
unfolding number_at
number_split b o zero k = rw (zero-add, add-zero) (omega arith)
number_split b o (suc j) k =
    let r = number_split b (o + 1) j k in
    let q : o + suc j ≡ o + 1 + j = omega arith in
    let p : 256 ^ suc j * number_at b (o + 1 + j) k ≡ 256 * (256 ^ j * number_at b (o + 1 + j) k) =
    rw (pow-suc, mul_comm (256 ^ j) 256, mul_assoc) in
    rw (suc-add, q) (omega arith)

-- numbers that differ by a multiple of 256 ^ j have the same `j` low bytes
pub same_low : (j n m q : ℕ) → n ≡ m + q * 256 ^ j → little_endian j n ≡ little_endian j m
same_low zero n m q e = refl
same_low (suc j) n m q e =
    let p : q * 256 ^ suc j ≡ q * 256 ^ j * 256 = rw (pow-suc, ← mul_assoc) in
    let h : n % 256 ≡ m % 256 = omega arith in
    ap₂ (λ (x : ℕ) (l : List ℕ). x ∷ l) h (same_low j (n / 256) (m / 256) q (omega arith))

pub bytes_split : (j k n : ℕ) → little_endian (j + k) n ≡ little_endian j n ++ little_endian k (n / 256 ^ j)
bytes_split zero k n = rw (zero-add, div-one)
bytes_split (suc j) k n =
    let p : n / 256 ^ suc j ≡ n / 256 / 256 ^ j = rw (pow-suc, mul_comm (256 ^ j) 256, div-div-eq-div-mul) in
    rw (suc-add, p) (ap (λ (l : List ℕ). n % 256 ∷ l) (bytes_split j k (n / 256)))

pub length_bytes : (k n : ℕ) → length (little_endian k n) ≡ k
length_bytes zero n = refl
length_bytes (suc k) n = ap suc (length_bytes k (n / 256))

-- two runs of bytes replaced side by side are one
pub replaced_twice : (b : List ℕ) (o j k : ℕ) (x y : List ℕ) → length x ≡ j → o + j ≤ length b
    → replaced (replaced b o j x) (o + j) k y ≡ replaced b o (j + k) (x ++ y)
replaced_twice b o j k x y e h =
    let n : length (take o b ++ x) ≡ o + j = length-append (take o b) x ∙ ap₂ (λ (i m : ℕ). i + m) (length-take-le o b (omega arith)) e in
    let q : o + j + k ≡ o + (j + k) = omega arith in
    let t : take (o + j) (replaced b o j x) ≡ take o b ++ x =
    take_at (take o b ++ x) (drop (o + j) b) (o + j) n in
    let d : drop (o + j + k) (replaced b o j x) ≡ drop (o + (j + k)) b =
    ap (λ (m : ℕ). drop (m + k) (take o b ++ x ++ drop (o + j) b)) (sym n)
    ∙ drop-append-add (take o b ++ x) (drop (o + j) b) k
    ∙ drop-drop k (o + j) b
    ∙ ap (λ (m : ℕ). drop m b) q in
    rw (t, d) (simp append_assoc)

-- storing the low `j` bytes' number and then the rest stores the number
pub store_split : (b : List ℕ) (o j k n low : ℕ) → n ≡ low + n / 256 ^ j * 256 ^ j → o + j ≤ length b
    → replaced (replaced b o j (little_endian j low)) (o + j) k (little_endian k (n / 256 ^ j)) ≡ replaced b o (j + k) (little_endian (j + k) n)
store_split b o j k n low e h =
    replaced_twice b o j k _ _ (length_bytes j low) h
    ∙ ap (replaced b o (j + k)) (ap (λ (l : List ℕ). l ++ little_endian k (n / 256 ^ j)) (sym (same_low j n low (n / 256 ^ j) e)) ∙ sym (bytes_split j k n))

-- a byte set is a number of one byte stored
pub byte_stored : (b : List ℕ) (o n : ℕ) → n < 256 → o < length b → set b o n ≡ replaced b o 1 (little_endian 1 n)
byte_stored b o n s h = let q : n % 256 ≡ n = omega arith in rw q (sets-eq (n ∷ []) b o (omega arith))

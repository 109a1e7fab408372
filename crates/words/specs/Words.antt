-- Numbers in a list of bytes, the least byte first. Document 01: "Numbers are little-endian."
-- A reader has to believe this file.
use Rattle.std.specs.Prelude.{ℕ, zero, suc, ◌+◌, ◌*◌, ◌/◌, ◌%◌, List, [], ◌∷◌, ◌++◌, length, get_or, take, drop}

-- the number in the `k` bytes of `b` from `o` on
unfoldable pub number_at : List ℕ → ℕ → ℕ → ℕ
number_at b o zero = 0
number_at b o (suc k) = get_or b o 0 + 256 * number_at b (o + 1) k

abbrev pub u16_at : List ℕ → ℕ → ℕ
u16_at b o = number_at b o 2

abbrev pub u32_at : List ℕ → ℕ → ℕ
u32_at b o = number_at b o 4

abbrev pub u64_at : List ℕ → ℕ → ℕ
u64_at b o = number_at b o 8

-- the `k` low bytes of a number
abbrev pub little_endian : ℕ → ℕ → List ℕ
little_endian zero n = []
little_endian (suc k) n = n % 256 ∷ little_endian k (n / 256)

-- `b` with `x` in place of its `k` bytes from `o` on
abbrev pub replaced : List ℕ → ℕ → ℕ → List ℕ → List ℕ
replaced b o k x = take o b ++ x ++ drop (o + k) b

-- ---- lists of 64-bit numbers. Document 01: "64-bit lists as bytes, eight to a number".
-- the n numbers in `b` from `o` on
unfoldable pub numbers_at : List ℕ → ℕ → ℕ → List ℕ
numbers_at b o zero = []
numbers_at b o (suc n) = u64_at b o ∷ numbers_at b (o + 8) n

-- the numbers that bytes are; "an output counts whole eights", so that fewer than eight left over are no number
abbrev pub numbers_in : List ℕ → List ℕ
numbers_in b = numbers_at b 0 (length b / 8)

-- the bytes that numbers are
unfoldable pub numbers_bytes : List ℕ → List ℕ
numbers_bytes [] = []
numbers_bytes (n ∷ ns) = little_endian 8 n ++ numbers_bytes ns

-- The entries that a list of bytes gives, as numbers three to an entry, are the entries in the bytes.
use Prim.Native.Nat.{ℕ, zero, suc, ◌+◌, ◌*◌, ◌/◌}
use mathlib.Core.Path.{◌≡◌, refl, ap, ◌∙◌}
use mathlib.Core.List.{List, ◌∷◌}
use native.Mathlib.Omega.{arith}
use lib.ListN.{length}
use Rattle.words.specs.Words.{numbers_at}
use Rattle.ultra_format.specs.Contexts.{Entry, Body.memory_map}
use Rattle.ultra_format.specs.Decoding.{entry_at, entries_at}
use Rattle.ultra_format.specs.Plain.{written_size}
use Rattle.ultra_format.specs.Additions.{entries_given, map_of}

-- three numbers are an entry
pub entries_of_numbers : (b : List ℕ) (o n : ℕ) → entries_given (numbers_at b o n) ≡ entries_at b o (n / 3)
unfolding entries_given numbers_at entries_at
entries_of_numbers b o zero = refl
entries_of_numbers b o (suc zero) = refl
entries_of_numbers b o (suc (suc zero)) = refl
entries_of_numbers b o (suc (suc (suc n))) =
    let q : suc (suc (suc n)) / 3 ≡ suc (n / 3) = omega arith in
    let r8 : o + 8 + 8 ≡ o + 16 = omega arith in
    let r16 : o + 16 + 8 ≡ o + 24 = omega arith in
    rw (q, r8, r16) (ap (λ (es : List Entry). entry_at b o ∷ es) (entries_of_numbers b (o + 24) n))

pub length_entries : (b : List ℕ) (o n : ℕ) → length (entries_at b o n) ≡ n
unfolding entries_at
length_entries b o zero = refl
length_entries b o (suc n) = ap suc (length_entries b (o + 24) n)

pub map_given : (b : List ℕ) → map_of b ≡ memory_map (entries_at b 0 (length b / 24))
map_given b =
    let q : length b / 8 / 3 ≡ length b / 24 = omega arith in
    ap memory_map (entries_of_numbers b 0 (length b / 8) ∙ ap (entries_at b 0) q)

pub map_given_size : (b : List ℕ) → written_size (map_of b) ≡ 8 + 24 * (length b / 24)
unfolding written_size
map_given_size b = ap written_size (map_given b) ∙ ap (λ (n : ℕ). 8 + 24 * n) (length_entries b 0 (length b / 24))

-- The text that an array gives, from its end: a zero there is dropped, and any other byte ends the text.
use Prim.Native.Nat.{ℕ, zero, suc, ◌+◌, ◌-◌, ◌≤◌}
use mathlib.Core.Path.{◌≡◌, refl, ap, ◌∙◌}
use mathlib.Core.List.{List, [], ◌∷◌, ◌++◌}
use native.Mathlib.Omega.{arith}
use lib.ListN.{length, take}
use lib.Dec.{eqb, eqb-suc-zero}
use native.Mathlib.Nat.{sub-zero}
use Rattle.std.specs.List.{take_while, prefix_len}
use Rattle.std.proofs.Common.{reverse}
use Rattle.std.proofs.lemmas.List.{reverse-reverse, reverse-append, take-append-le, length-append, length-reverse}
use Rattle.std.proofs.lemmas.List.Sums.{prefix_len-le-length}
use Rattle.std.proofs.lemmas.List.Folds.{length-prefix_len}
use Rattle.std.proofs.Math.Seq.{take-length}
use Rattle.ultra_format.specs.Records.{unless_trailing, trimmed}

trailing_zero : (l : List ℕ) → trimmed (l ++ (0 ∷ [])) ≡ trimmed l
unfolding trimmed
trailing_zero [] = refl
trailing_zero (x ∷ l) = ap (unless_trailing x) (trailing_zero l)

-- what is kept after a byte that is not empty keeps the byte too
kept : (x y : ℕ) (l m : List ℕ) → m ≡ l ++ (suc y ∷ []) → unless_trailing x m ≡ x ∷ m
kept zero y [] m e = rw e
kept zero y (z ∷ l) m e = rw e
kept (suc x) y l m e = refl

last_byte_law : (l : List ℕ) (y : ℕ) → trimmed (l ++ (suc y ∷ [])) ≡ l ++ (suc y ∷ [])
unfolding trimmed
last_byte_law [] y = refl
last_byte_law (x ∷ l) y = kept x y l _ (last_byte_law l y) ∙ ap (λ (m : List ℕ). x ∷ m) (last_byte_law l y)

-- ---- a list from its end: the zeros that come first there are the trailing ones
abbrev zeros : List ℕ → ℕ
zeros l = length (take_while (λ x. eqb x 0) l)

zeros_are : (l : List ℕ) → zeros l ≡ prefix_len (λ x. eqb x 0) l
zeros_are l = length-prefix_len (λ x. eqb x 0) l

from_end : (r : List ℕ) → take (length (reverse r) - prefix_len (λ x. eqb x 0) r) (reverse r) ≡ trimmed (reverse r)
unfolding trimmed
from_end [] = refl
from_end (zero ∷ r) =
    let p = prefix_len (λ x. eqb x 0) r in
    let w = prefix_len-le-length (λ x. eqb x 0) r in
    let q : prefix_len (λ x. eqb x 0) (0 ∷ r) ≡ 1 + p = refl in
    let l : length (reverse r ++ (0 ∷ [])) - (1 + p) ≡ length (reverse r) - p = omega (arith, length-append (reverse r) (0 ∷ []), length-reverse r) in
    let h : length (reverse r) - p ≤ length (reverse r) = omega arith in
    rw (reverse-append (0 ∷ []) r, q, l, trailing_zero (reverse r), take-append-le (length (reverse r) - p) (reverse r) (0 ∷ []) h) (from_end r)
from_end (suc x ∷ r) =
    let q : prefix_len (λ x. eqb x 0) (suc x ∷ r) ≡ 0 = simp (eqb-suc-zero x) in
    rw (reverse-append (suc x ∷ []) r, q, sub-zero, last_byte_law (reverse r) x) (take-length (reverse r ++ (suc x ∷ [])))

pub trimmed_is : (b : List ℕ) → take (length b - zeros (reverse b)) b ≡ trimmed b
trimmed_is b = rw (zeros_are (reverse b)) (rw reverse-reverse at (from_end (reverse b)))

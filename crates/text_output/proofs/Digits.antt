-- Laws of how numbers and bytes are spelled.
use Prim.Native.Nat.{ℕ, zero, suc, ◌+◌, ◌/◌, ◌%◌, ◌^◌, ◌≤◌, ◌<◌}
use mathlib.Core.Path.{◌≡◌, refl, sym, ap, ◌∙◌}
use mathlib.Core.Bool.{Bool, true, false}
use mathlib.Core.List.{List, [], ◌∷◌, ◌++◌}
use native.Mathlib.Omega.{arith}
use native.Mathlib.Nat.{div-lt_iff_lt-mul, pow-suc}
use lib.Dec.{ltb}
use borrow.Author.Tests.{ltb-true, ltb-false, lt-ltb, le-ltb}
use Rattle.text_output.specs.Spelling.{digits, decimal, is_escaped, hex_pair, spelled}

pub one_digit : (k n : ℕ) → n < 10 → digits (suc k) n ≡ (48 + n) ∷ []
unfolding digits
one_digit k n h = rw (lt-ltb n 10 h)

pub more_digits : (k n : ℕ) → 10 ≤ n → digits (suc k) n ≡ digits k (n / 10) ++ ((48 + n % 10) ∷ [])
unfolding digits
more_digits k n h = rw (le-ltb n 10 h)

-- one more place changes nothing where the number has no digit there
longer : (k n : ℕ) (t : Bool) → ltb n 10 ≡ t → (10 ≤ n → digits (suc k) (n / 10) ≡ digits (suc (suc k)) (n / 10)) → digits (suc (suc k)) n ≡ digits (suc (suc (suc k))) n
longer k n true e f = one_digit (suc k) n (ltb-true n 10 e) ∙ sym (one_digit (suc (suc k)) n (ltb-true n 10 e))
longer k n false e f =
    let g : 10 ≤ n = ltb-false n 10 e in
    more_digits (suc k) n g ∙ ap (λ (l : List ℕ). l ++ ((48 + n % 10) ∷ [])) (f g) ∙ sym (more_digits (suc (suc k)) n g)

settled : (k n : ℕ) → n < 10 ^ suc k → digits (suc k) n ≡ digits (suc (suc k)) n
settled zero n h = one_digit 0 n h ∙ sym (one_digit 1 n h)
settled (suc k) n h = longer k n (ltb n 10) refl (λ g. settled k (n / 10) ((div-lt_iff_lt-mul (omega arith)).1 (rw (pow-suc 10 (suc k)) at h)))

-- the digits of a number of 64 bits are those of its tenth and one more
pub decimal_more : (n : ℕ) → 10 ≤ n → n < 18446744073709551616 → decimal n ≡ decimal (n / 10) ++ ((48 + n % 10) ∷ [])
decimal_more n g h = more_digits 19 n g ∙ ap (λ (l : List ℕ). l ++ ((48 + n % 10) ∷ [])) (settled 18 (n / 10) (omega arith))

-- ---- bytes of a text
pub escaped_byte : (b : ℕ) → is_escaped b ≡ true → spelled b ≡ 37 ∷ hex_pair b
unfolding spelled
escaped_byte b e = rw e

pub plain_byte : (b : ℕ) → is_escaped b ≡ false → spelled b ≡ b ∷ []
unfolding spelled
plain_byte b e = rw e

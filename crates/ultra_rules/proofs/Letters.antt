-- Laws of the rules on texts, one byte at a time.
use Prim.Native.Nat.{ℕ, zero, suc, ◌+◌, ◌-◌, ◌≤◌, ◌<◌}
use mathlib.Core.Path.{◌≡◌, refl}
use mathlib.Core.Bool.{true, false, and-true, and-false}
use mathlib.Core.List.{List, [], ◌∷◌}
use native.Mathlib.Omega.{arith}
use lib.ListN.{length, get_or}
use lib.Dec.{ltb, eqb-suc-zero}
use borrow.Author.Tests.{lt-ltb, le-ltb, ne_eqb}
use Rattle.std.proofs.lemmas.Grind.{common_steps}
use Rattle.byte_layout.specs.Stored.{up_to_zero, text_at}
use Rattle.byte_layout.proofs.Texts.{rest_stop, rest_next}
use Rattle.ultra_format.specs.Members.{every, nonzero, ascii_text, path_text}
use Rattle.words.proofs.Comparisons.{leb_same}

-- ---- a text of bytes 1 to 127 that closes within k bytes
pub ascii_closed : (k : ℕ) → 0 < k → ascii_text k [] ≡ true
unfolding ascii_text every
ascii_closed k h = simp (lt-ltb 0 k h)

pub ascii_open : (k : ℕ) (t : List ℕ) → k ≤ 0 → ascii_text k t ≡ false
unfolding ascii_text
ascii_open k t h = simp (le-ltb (length t) k (omega arith))

pub ascii_next : (k x : ℕ) (t : List ℕ) → 0 < k → 0 < x → x < 128 → ascii_text k (x ∷ t) ≡ ascii_text (k - 1) t
unfolding ascii_text every
ascii_next k x t h l u =
    rw (lt-ltb 0 x l, lt-ltb x 128 u, leb_same (suc (suc (length t))) k (suc (length t)) (k - 1) (λ f. omega arith) (λ f. omega arith))

pub ascii_stop : (k x : ℕ) (t : List ℕ) → 127 < x → ascii_text k (x ∷ t) ≡ false
unfolding ascii_text every
ascii_stop k x t h = simp (lt-ltb 0 x (omega arith), le-ltb x 128 (omega arith), and-false)

-- the same of the text in the rest of a field of k bytes, from byte i on
module _ (b : List ℕ) (o k i : ℕ) where
  module _ (h : i < k) where
    pub rest_closed : get_or b (o + i) 0 ≡ 0 → ascii_text (k - i) (text_at b (o + i) (k - i)) ≡ true
    rest_closed e = rw (rest_stop b o k i e) (ascii_closed (k - i) (omega arith))

    pub rest_bad : 127 < get_or b (o + i) 0 → ascii_text (k - i) (text_at b (o + i) (k - i)) ≡ false
    rest_bad u = rw (rest_next b o k i h (omega arith)) (ascii_stop (k - i) (get_or b (o + i) 0) _ u)

    pub rest_letter : (get_or b (o + i) 0 ≡ 0 → ⊥) → get_or b (o + i) 0 < 128
        → ascii_text (k - i) (text_at b (o + i) (k - i)) ≡ ascii_text (k - (i + 1)) (text_at b (o + (i + 1)) (k - (i + 1)))
    rest_letter n u =
        let q : k - i - 1 ≡ k - (i + 1) = omega arith in
        rw (rest_next b o k i h n, ascii_next (k - i) (get_or b (o + i) 0) _ (omega arith) (omega arith) u, q)

  pub rest_open : k ≤ i → ascii_text (k - i) (text_at b (o + i) (k - i)) ≡ false
  rest_open h = ascii_open (k - i) _ (omega arith)

-- a loop over the field's bytes, which are a part of the buffer
pub ruleset letters = (common_steps, rest_closed, rest_bad, rest_letter, rest_open)

-- ---- a path
first_up : (x : ℕ) (l : List ℕ) → get_or (up_to_zero x l) 0 0 ≡ x
first_up zero l = refl
first_up (suc x) l = refl

-- a text begins with the byte at its field's start; where that is zero, the text is empty
pub first : (b : List ℕ) (o k : ℕ) → 0 < k → get_or (text_at b o k) 0 0 ≡ get_or b o 0
unfolding text_at
first b o zero h = absurd (omega arith)
first b o (suc k) h = first_up (get_or b o 0) _

nonzero_up : (x : ℕ) (l : List ℕ) → every nonzero l ≡ true → every nonzero (up_to_zero x l) ≡ true
unfolding every
nonzero_up zero l e = refl
nonzero_up (suc x) l e = simp (eqb-suc-zero x, e)

pub all_nonzero : (b : List ℕ) (o k : ℕ) → every nonzero (text_at b o k) ≡ true
unfolding text_at every
all_nonzero b o zero = refl
all_nonzero b o (suc k) = nonzero_up (get_or b o 0) _ (all_nonzero b (o + 1) k)

module _ (b : List ℕ) (o k : ℕ) (h : 1 ≤ k) where
  pub path_stop : (get_or b o 0 ≡ 47 → ⊥) → false ≡ path_text k (text_at b o k)
  unfolding path_text
  path_stop n = rw (first b o k h, ne_eqb (get_or b o 0) 47 n) (simp and-false)

  pub path_rest : (n : ℕ) → get_or b o 0 ≡ 47 → n ≡ length (text_at b o k) → ltb n k ≡ path_text k (text_at b o k)
  unfolding path_text
  path_rest n e l = rw (first b o k h, e, all_nonzero b o k, l) (simp and-true)

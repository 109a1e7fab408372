-- Laws of copying to the front of a list, of raw bytes, and of a text with zeros after it.
use Prim.Native.Nat.{ℕ, zero, suc, ◌+◌, ◌≤◌, ◌<◌}
use mathlib.Core.Path.{◌≡◌, refl, sym, ap, ◌∙◌}
use mathlib.Core.List.{List, [], ◌∷◌, ◌++◌, append-nil}
use native.Mathlib.Omega.{arith}
use native.Mathlib.Nat.{not-suc-le-zero, le_of_suc-le-suc, add-zero}
use native.Mathlib.Numerals.{add-one}
use lib.ListN.{length, take, drop, get_or, set, replicate, drop_of_length-le}
use lib.Seq.{drop-cons, set_at, append_snoc, take-length}
use Rattle.std.proofs.lemmas.Grind.{common_steps}
use Rattle.byte_layout.specs.Fields.{padded}
use Rattle.byte_layout.specs.Stored.{up_to_zero, bytes_at, text_at, over}

-- one more element after the i that have been copied over the front of `out`
pub front_more : (xs out a : List ℕ) (i v : ℕ) → length xs ≡ i → i < length out → a ≡ xs ++ drop i out → set a i v ≡ (xs ++ (v ∷ [])) ++ drop (i + 1) out
front_more xs out a i v l h e =
    rw (e, add-one i, drop-cons out i 0 h)
    (set_at xs (get_or out i 0) (drop (suc i) out) v i l ∙ sym (append_snoc xs v (drop (suc i) out)))

pub length_stored : (b : List ℕ) (o n : ℕ) → length (bytes_at b o n) ≡ n
unfolding bytes_at
length_stored b o zero = refl
length_stored b o (suc n) = ap suc (length_stored b (o + 1) n)

-- byte i of the n
pub bytes_at_law : (b : List ℕ) (o n i : ℕ) → i < n → get_or (bytes_at b o n) i 0 ≡ get_or b (o + i) 0
unfolding bytes_at
bytes_at_law b o zero i h = absurd (not-suc-le-zero h)
bytes_at_law b o (suc n) zero h = rw add-zero
bytes_at_law b o (suc n) (suc i) h = let q : o + suc i ≡ o + 1 + i = omega arith in rw q (bytes_at_law b (o + 1) n i (le_of_suc-le-suc h))

-- one more byte is stored
pub bytes_more : (b : List ℕ) (o n : ℕ) → bytes_at b o (n + 1) ≡ bytes_at b o n ++ (get_or b (o + n) 0 ∷ [])
unfolding bytes_at
bytes_more b o zero = rw add-zero
bytes_more b o (suc n) =
    let q : suc n + 1 ≡ suc (n + 1) = omega arith in
    let r : o + 1 + n ≡ o + suc n = omega arith in
    rw (q, ← r) (ap (λ (l : List ℕ). get_or b o 0 ∷ l) (bytes_more b (o + 1) n))

-- the n bytes from o on are a part of the list
pub bytes_taken : (b : List ℕ) (o n : ℕ) → o + n ≤ length b → take n (drop o b) ≡ bytes_at b o n
unfolding bytes_at
bytes_taken b o zero h = refl
bytes_taken b o (suc n) h =
    rw (drop-cons b o 0 (omega arith)) (ap (λ (l : List ℕ). get_or b o 0 ∷ l) (rw (← (add-one o)) (bytes_taken b (o + 1) n (omega arith))))

-- all bytes
pub bytes_all : (b : List ℕ) → bytes_at b 0 (length b) ≡ b
bytes_all b = sym (bytes_taken b 0 (length b) (omega arith)) ∙ take-length b

-- where a loop has stored them all
pub all_stored : (b d e : List ℕ) (i : ℕ) → i ≡ length b → length e ≡ i → d ≡ bytes_at b 0 i ++ drop i e → d ≡ b
all_stored b d e i l m h = let k : length e ≤ length b = omega arith in rw (l, bytes_all b, drop_of_length-le e k, append-nil) at h

-- a loop that copies bytes to the front of a part
pub ruleset copying = (common_steps, bytes_more, front_more, length_stored)

-- ---- texts
until : (b : List ℕ) (o x : ℕ) (l : List ℕ) → get_or b o 0 ≡ x → bytes_at b (o + 1) (length l) ≡ l → bytes_at b o (length (up_to_zero x l)) ≡ up_to_zero x l
unfolding bytes_at
until b o zero l e h = refl
until b o (suc x) l e h = rw (e, h)

-- as many bytes as the text has are the text
pub text_bytes : (b : List ℕ) (o k : ℕ) → bytes_at b o (length (text_at b o k)) ≡ text_at b o k
unfolding text_at bytes_at
text_bytes b o zero = refl
text_bytes b o (suc k) = until b o (get_or b o 0) (text_at b (o + 1) k) refl (text_bytes b (o + 1) k)

until_short : (x : ℕ) (l : List ℕ) (k : ℕ) → length l ≤ k → length (up_to_zero x l) ≤ suc k
until_short zero l k h = omega arith
until_short (suc x) l k h = omega arith

pub text_short : (b : List ℕ) (o k : ℕ) → length (text_at b o k) ≤ k
unfolding text_at
text_short b o zero = omega arith
text_short b o (suc k) = until_short (get_or b o 0) (text_at b (o + 1) k) k (text_short b (o + 1) k)

-- ---- over what was there
-- `fill` writes these
pub zeros_padded : (k : ℕ) → padded k [] ≡ replicate k 0
zeros_padded zero = refl
zeros_padded (suc k) = ap (λ (m : List ℕ). 0 ∷ m) (zeros_padded k)

-- a list over the front of zeros
over_zeros : (k : ℕ) (l : List ℕ) → length l ≤ k → over l (replicate k 0) ≡ padded k l
over_zeros zero [] h = refl
over_zeros (suc k) [] h = ap (λ (m : List ℕ). 0 ∷ m) (over_zeros k [] (omega arith))
over_zeros zero (x ∷ l) h = absurd (omega arith)
over_zeros (suc k) (x ∷ l) h = ap (λ (m : List ℕ). x ∷ m) (over_zeros k l (omega arith))

-- a text over zeros
pub text_padded : (b : List ℕ) (o k : ℕ) → over (text_at b o k) (replicate k 0) ≡ padded k (text_at b o k)
text_padded b o k = over_zeros k (text_at b o k) (text_short b o k)

-- raw bytes over as many
pub bytes_whole : (b : List ℕ) (o k : ℕ) (out : List ℕ) → length out ≤ k → over (bytes_at b o k) out ≡ bytes_at b o k
bytes_whole b o k out h = rw (length_stored b o k, drop_of_length-le out h, append-nil)

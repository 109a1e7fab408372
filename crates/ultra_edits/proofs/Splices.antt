-- The bytes of a buffer after a splice, and with a new count.
use Prim.Native.Nat.{ℕ, ◌+◌, ◌≤◌, ◌<◌}
use mathlib.Core.Path.{◌≡◌, refl, sym, ap, ◌∙◌}
use mathlib.Core.List.{List, ◌++◌, append_assoc, append-nil}
use native.Mathlib.Omega.{arith}
use native.Mathlib.Nat.{add-zero}
use lib.ListN.{length, get_or, take, drop, length-append, get_or-append}
use lib.Seq.{get_or-append-add, take_at, drop_at}
use Rattle.words.specs.Words.{little_endian, replaced}
use Rattle.words.proofs.Stores.{before_it, within_it, after_it, length_replaced, replaced_before}
use Rattle.byte_layout.specs.Stored.{bytes_at}
use Rattle.byte_layout.proofs.Copies.{length_stored, bytes_at_law, bytes_taken}
use Rattle.byte_moves.specs.Moves.{moved}
use Rattle.ultra_edits.specs.Splicing.{spliced, counting}

-- what follows is moved, and x is written before it
pub moved_written : (b x : List ℕ) (at old rest : ℕ) → at + length x ≤ length b
    → replaced (moved b (at + old) (at + length x) rest) at (length x) x ≡ spliced b at old x rest
moved_written b x at old rest h = replaced_before b x (bytes_at b (at + old) rest) at (length x) rest refl h

module _ (b x : List ℕ) (at old rest : ℕ) (f : at + (length x + rest) ≤ length b) where
  abbrev stored : List ℕ
  stored = x ++ bytes_at b (at + old) rest

  stored_length_law : length stored ≡ length x + rest
  stored_length_law = length-append x (bytes_at b (at + old) rest) ∙ ap (λ (n : ℕ). length x + n) (length_stored b (at + old) rest)

  pub length_spliced : length (spliced b at old x rest) ≡ length b
  length_spliced = length_replaced b stored at (length x + rest) stored_length_law f

  pub spliced_before : (i : ℕ) → i < at → get_or (spliced b at old x rest) i 0 ≡ get_or b i 0
  spliced_before i h = before_it b stored at (length x + rest) stored_length_law (omega arith) i h

  pub spliced_new : (i : ℕ) → i < length x → get_or (spliced b at old x rest) (at + i) 0 ≡ get_or x i 0
  spliced_new i h =
      within_it b stored at (length x + rest) stored_length_law (omega arith) i (omega arith)
      ∙ get_or-append x (bytes_at b (at + old) rest) 0 i h

  pub spliced_after : (i : ℕ) → i < rest → get_or (spliced b at old x rest) (at + length x + i) 0 ≡ get_or b (at + old + i) 0
  spliced_after i h =
      let q : at + length x + i ≡ at + (length x + i) = omega arith in
      rw q
      (within_it b stored at (length x + rest) stored_length_law (omega arith) (length x + i) (omega arith)
      ∙ get_or-append-add x (bytes_at b (at + old) rest) i 0 ∙ bytes_at_law b (at + old) rest i h)

  pub spliced_past : (i : ℕ) → at + (length x + rest) ≤ i → get_or (spliced b at old x rest) i 0 ≡ get_or b i 0
  spliced_past i h = after_it b stored at (length x + rest) stored_length_law (omega arith) i h

-- in place of nothing, with nothing after it, x is stored
pub spliced_last : (b x : List ℕ) (at : ℕ) → spliced b at 0 x 0 ≡ replaced b at (length x) x
unfolding bytes_at
spliced_last b x at = rw (add-zero (length x), append-nil x)

-- a splice in the middle of a list that is given in parts
pub spliced_parts : (f y s t x : List ℕ) (at : ℕ) → length f ≡ at
    → take (at + (length x + length s)) (spliced (f ++ (y ++ (s ++ t))) at (length y) x (length s)) ≡ f ++ (x ++ s)
spliced_parts f y s t x at e =
    let b = f ++ (y ++ (s ++ t)) in
    let l : at + length y + length s ≤ length b =
    omega (arith, length-append f (y ++ (s ++ t)), length-append y (s ++ t), length-append s t) in
    let p : take at b ≡ f = take_at f (y ++ (s ++ t)) at e in
    let g : drop (at + length y) b ≡ s ++ t =
    ap (drop (at + length y)) (sym (append_assoc f y (s ++ t)))
    ∙ drop_at (f ++ y) (s ++ t) (at + length y) (omega (arith, length-append f y)) in
    let q : bytes_at b (at + length y) (length s) ≡ s =
    sym (bytes_taken b (at + length y) (length s) l) ∙ ap (take (length s)) g ∙ take_at s t (length s) refl in
    rw (p, q) (take_at (f ++ (x ++ s)) (drop (at + (length x + length s)) b) (at + (length x + length s))
    (omega (arith, length-append f (x ++ s), length-append x s)))

-- ---- the head's count
module _ (b : List ℕ) (n : ℕ) (h : 8 ≤ length b) where
  pub length_counting : length (counting n b) ≡ length b
  length_counting = length_replaced b (little_endian 4 n) 4 4 refl h

  pub counting_version : (i : ℕ) → i < 4 → get_or (counting n b) i 0 ≡ get_or b i 0
  counting_version i k = before_it b (little_endian 4 n) 4 4 refl (omega arith) i k

  pub counting_count : (i : ℕ) → i < 4 → get_or (counting n b) (4 + i) 0 ≡ get_or (little_endian 4 n) i 0
  counting_count i k = within_it b (little_endian 4 n) 4 4 refl (omega arith) i k

  pub counting_after : (i : ℕ) → 8 ≤ i → get_or (counting n b) i 0 ≡ get_or b i 0
  counting_after i k = after_it b (little_endian 4 n) 4 4 refl (omega arith) i k

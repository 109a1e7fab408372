-- How long what is spelled can be, and where putting it ends.
use Prim.Native.Nat.{ℕ, zero, suc, ◌+◌, ◌*◌, ◌/◌, ◌%◌, ◌≤◌, ◌<◌}
use mathlib.Core.Path.{◌≡◌, ap, ◌∙◌}
use mathlib.Core.Bool.{Bool, true, false}
use mathlib.Core.List.{List, [], ◌∷◌, ◌++◌}
use native.Mathlib.Omega.{arith}
use native.Mathlib.Nat.{add-zero, zero-add, mul-suc}
use native.Mathlib.Numerals.{add-one}
use lib.Dec.{ltb}
use lib.ListN.{length, set, length-append}
use lib.Seq.{sets, sets-eq}
use borrow.Author.Tests.{lt-ltb}
use Rattle.byte_layout.specs.Stored.{over}
use Rattle.key_value_text.specs.Lines.{Value, Value.numbers, Value.text, Value.hex, Value.absent, Line, value_bytes, line_bytes, lines_bytes}
use Rattle.text_output.specs.Output.{State, next, put, puts}
use Rattle.text_output.proofs.Puts.{each_append}
use Rattle.text_output.specs.Spelling.{pick, each, digits, after, joined, hex_pair, is_escaped, spelled}

-- ---- where putting ends
place_next : (n : ℕ) → n < 4294967295 → next n ≡ n + 1
unfolding next
place_next n h = rw (lt-ltb n 4294967295 h)

-- short of the last place, every byte is counted, and all that fit are put
pub puts_sets : (l out : List ℕ) (n : ℕ) → n + length l ≤ 4294967295 → puts (out, n) l ≡ (sets out n l, n + length l)
unfolding puts put
puts_sets [] out n h = rw (add-zero n)
puts_sets (x ∷ l) out n h =
    let q : next n ≡ suc n = place_next n (omega arith) ∙ add-one n in
    let r : suc n + length l ≡ n + suc (length l) = omega arith in
    rw q (puts_sets l (set out n x) (suc n) (omega arith) ∙ ap (λ (k : ℕ). (sets (set out n x) (suc n) l, k)) r)

module _ (l out : List ℕ) (h : length l ≤ 4294967295) where
  -- the place that a text put from the front on ends at is its length
  pub text_place : (n : ℕ) (o : List ℕ) → (o, n) ≡ puts (out, 0) l → n ≡ length l
  text_place n o e = ap (λ (s : State). s.1) (e ∙ puts_sets l out 0 (rw (zero-add (length l)) h)) ∙ zero-add (length l)

  -- where it fits, it is written over the front
  pub text_over : (n : ℕ) (o : List ℕ) → length l ≤ length out → (o, n) ≡ puts (out, 0) l → o ≡ over l out
  text_over n o f e =
      let z : 0 + length l ≡ length l = zero-add (length l) in
      ap (λ (s : State). s.0) (e ∙ puts_sets l out 0 (rw z h)) ∙ (rw (sets-eq l out 0 (rw z f), z))

-- ---- how long
last_short : (k m x : ℕ) (l : List ℕ) (t : Bool) → length l ≤ k → length (pick t (m ∷ []) (l ++ (x ∷ []))) ≤ suc k
last_short k m x l true h = omega arith
last_short k m x l false h = simp length-append (omega arith)

digits_short : (k n : ℕ) → length (digits k n) ≤ k
unfolding digits
digits_short zero n = omega arith
digits_short (suc k) n = last_short k (48 + n) (48 + n % 10) (digits k (n / 10)) (ltb n 10) (digits_short k (n / 10))

each_short : {X : Type 0} (f : X → List ℕ) (k : ℕ) → ((x : X) → length (f x) ≤ k) → (l : List X) → length (each f l) ≤ k * length l
unfolding each
each_short f k h [] = omega arith
each_short f k h (x ∷ l) = let r = each_short f k h l in simp length-append (omega (arith, h x, mul-suc k (length l)))

joined_short : (c : ℕ) (ns : List ℕ) → length (joined c ns) ≤ 21 * length ns
joined_short c [] = omega arith
joined_short c (n ∷ ns) =
    let r = each_short (after c) 21 (λ (m : ℕ). omega (arith, digits_short 20 m)) ns in
    simp length-append (omega (arith, digits_short 20 n))

one_short : (b : ℕ) (t : Bool) → length (pick t (37 ∷ hex_pair b) (b ∷ [])) ≤ 3
one_short b true = omega arith
one_short b false = omega arith

spelled_short : (b : ℕ) → length (spelled b) ≤ 3
unfolding spelled
spelled_short b = one_short b (is_escaped b)

-- how long a value, a line and lines can be, by what they hold
abbrev pub value_most : Value → ℕ
value_most (numbers c ns) = 21 * length ns
value_most (text t) = 3 * length t
value_most (hex l) = 2 * length l
value_most absent = 1

abbrev pub line_most : Line → ℕ
line_most x = length x.key + 2 + value_most x.value

abbrev pub lines_most : List Line → ℕ
lines_most [] = 0
lines_most (x ∷ ls) = line_most x + lines_most ls

value_short : (v : Value) → length (value_bytes v) ≤ value_most v
unfolding value_bytes
value_short (numbers c ns) = joined_short c ns
value_short (text t) = each_short spelled 3 spelled_short t
value_short (hex l) = each_short hex_pair 2 (λ b. omega arith) l
value_short absent = omega arith

line_short : (x : Line) → length (line_bytes x) ≤ line_most x
unfolding line_bytes
line_short x = let r = value_short x.value in simp length-append (omega arith)

pub lines_short : (ls : List Line) → length (lines_bytes ls) ≤ lines_most ls
unfolding each
lines_short [] = omega arith
lines_short (x ∷ ls) = let r = lines_short ls in simp length-append (omega (arith, line_short x))

pub lines_append : (l m : List Line) → length (lines_bytes (l ++ m)) ≡ length (lines_bytes l) + length (lines_bytes m)
lines_append l m = rw (each_append line_bytes l m) (length-append (lines_bytes l) (lines_bytes m))

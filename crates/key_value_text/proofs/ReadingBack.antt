-- What was spelled is read back.
use Prim.Native.Nat.{ℕ, zero, suc, ◌+◌, ◌-◌, ◌*◌, ◌/◌, ◌%◌, ◌^◌, ◌≤◌, ◌<◌}
use Prim.Native.Char.{code}
use mathlib.Core.Path.{◌≡◌, refl, ap, ◌∙◌}
use mathlib.Core.Bool.{Bool, true, false, ◌||◌}
use mathlib.Core.List.{List, [], ◌∷◌, ◌++◌, append_assoc, append-nil}
use native.Mathlib.Omega.{arith}
use native.Mathlib.Nat.{div-lt_iff_lt-mul, pow-suc}
use lib.Dec.{leb, ltb, eqb}
use borrow.Author.Tests.{ltb-true, ltb-false, lt-ltb, le-ltb, leb-false, eq-eqb, ne_eqb}
use Rattle.key_value_text.specs.Lines.{Value, Value.numbers, Value.text, Value.hex, Value.absent, Line, line, value_bytes, line_bytes}
use Rattle.text_output.specs.Spelling.{ascii, each, digits, decimal, after, joined, hex_digit, hex_pair, is_escaped, spelled}
use Rattle.key_value_text.specs.ReadingBack.{shifted, number_from, number_in, numbers_from, numbers_in, hex_value, bytes_in, text_from, text_in, before, cut, All, Short, Byte, Differs, Separated, ReadsBack, largest, EndsAtNewline, ReadsBackWidest}
use Rattle.text_output.proofs.Digits.{one_digit, more_digits, escaped_byte, plain_byte}

-- ---- lists of which all elements meet a condition
all_append : (P : ℕ → Type 0) (l m : List ℕ) → All P l → All P m → All P (l ++ m)
unfolding All
all_append P [] m h k = k
all_append P (x ∷ l) m h k = (h.0, all_append P l m h.1 k)

all_each : (P : ℕ → Type 0) (f : ℕ → List ℕ) → ((x : ℕ) → All P (f x)) → (l : List ℕ) → All P (each f l)
unfolding All each
all_each P f h [] = tt
all_each P f h (x ∷ l) = all_append P (f x) (each f l) (h x) (all_each P f h l)

all_weaker : (P Q : ℕ → Type 0) → ((x : ℕ) → P x → Q x) → (l : List ℕ) → All P l → All Q l
unfolding All
all_weaker P Q f [] h = tt
all_weaker P Q f (x ∷ l) h = (f x h.0, all_weaker P Q f l h.1)

-- ---- decimal digits
Digit : ℕ → Type 0
Digit d = (48 ≤ d) × (d < 58)

by_size : (k n : ℕ) (t : Bool) → ltb n 10 ≡ t → All Digit (digits k (n / 10)) → All Digit (digits (suc k) n)
unfolding All Digit
by_size k n true e h = rw (one_digit k n (ltb-true n 10 e)) ((omega arith, omega (arith, ltb-true n 10 e)), tt)
by_size k n false e h = rw (more_digits k n (ltb-false n 10 e)) (all_append Digit (digits k (n / 10)) ((48 + n % 10) ∷ []) h ((omega arith, omega arith), tt))

all_digits : (k n : ℕ) → All Digit (digits k n)
unfolding All digits
all_digits zero n = tt
all_digits (suc k) n = by_size k n (ltb n 10) refl (all_digits k (n / 10))

from_append : (n d : ℕ) (l : List ℕ) → number_from n (l ++ (d ∷ [])) ≡ shifted (number_from n l) d
unfolding number_from
from_append n d [] = refl
from_append n d (x ∷ l) = from_append (shifted n x) d l

number_by : (k n : ℕ) (t : Bool) → ltb n 10 ≡ t → n < 10 ^ suc k → (n / 10 < 10 ^ k → number_in (digits k (n / 10)) ≡ n / 10) → number_in (digits (suc k) n) ≡ n
unfolding number_from
number_by k n true e h f = rw (one_digit k n (ltb-true n 10 e)) (omega arith)
number_by k n false e h f =
    let i : n / 10 < 10 ^ k = (div-lt_iff_lt-mul {k = 10} {x = n} {y = 10 ^ k} (omega arith)).1 (rw (pow-suc 10 k) at h) in
    rw (more_digits k n (ltb-false n 10 e), from_append 0 (48 + n % 10) (digits k (n / 10)), f i) (omega arith)

number_back : (k n : ℕ) → n < 10 ^ k → number_in (digits k n) ≡ n
unfolding number_from digits
number_back zero n h = omega arith
number_back (suc k) n h = number_by k n (ltb n 10) refl h (number_back k (n / 10))

-- ---- numbers between separators
digits_pass : (c n : ℕ) (ds l : List ℕ) → c < 48 → All Digit ds → numbers_from c n (ds ++ l) ≡ numbers_from c (number_from n ds) l
unfolding All numbers_from number_from Digit
digits_pass c n [] l h a = refl
digits_pass c n (d ∷ ds) l h a = rw (ne_eqb d c (λ e. omega (arith, a.0))) (digits_pass c (shifted n d) ds l h a.1)

number_pass : (c n : ℕ) (l : List ℕ) → c < 48 → Short n → numbers_from c 0 (decimal n ++ l) ≡ numbers_from c n l
number_pass c n l h s = digits_pass c 0 (decimal n) l h (all_digits 20 n) ∙ ap (λ (m : ℕ). numbers_from c m l) (number_back 20 n s)

numbers_pass : (c n : ℕ) (ns : List ℕ) → c < 48 → All Short ns → numbers_from c n (each (after c) ns) ≡ n ∷ ns
unfolding All numbers_from each
numbers_pass c n [] h a = refl
numbers_pass c n (m ∷ ns) h a =
    rw (eq-eqb c c refl) (ap (λ (l : List ℕ). n ∷ l) (number_pass c m (each (after c) ns) h a.0 ∙ numbers_pass c m ns h a.1))

numbers_back : (c n : ℕ) (ns : List ℕ) → c < 48 → Short n → All Short ns → numbers_in c (joined c (n ∷ ns)) ≡ n ∷ ns
numbers_back c n ns h s a = number_pass c n (each (after c) ns) h s ∙ numbers_pass c n ns h a

-- ---- hexadecimal digits
hex_by : (d : ℕ) (t : Bool) → ltb d 10 ≡ t → d < 16 → hex_value (hex_digit d) ≡ d
unfolding hex_value hex_digit
hex_by d true e h = rw (e, lt-ltb (48 + d) 65 (omega (arith, ltb-true d 10 e))) (omega arith)
hex_by d false e h = rw (e, le-ltb (65 + (d - 10)) 65 (omega arith)) (omega (arith, ltb-false d 10 e))

hex_back : (d : ℕ) → d < 16 → hex_value (hex_digit d) ≡ d
hex_back d h = hex_by d (ltb d 10) refl h

pair_back : (b : ℕ) → Byte b → 16 * hex_value (hex_digit (b / 16)) + hex_value (hex_digit (b % 16)) ≡ b
pair_back b h = rw (hex_back (b / 16) (omega arith), hex_back (b % 16) (omega arith)) (omega arith)

bytes_back : (l : List ℕ) → All Byte l → bytes_in (each hex_pair l) ≡ l
unfolding All bytes_in each
bytes_back [] h = refl
bytes_back (b ∷ l) h = rw (pair_back b h.0, bytes_back l h.1)

-- ---- texts
neither : (x y z : Bool) → (x || y || z) ≡ false → (x ≡ false) × (y ≡ false)
neither true true z h = (h, h)
neither true false z h = (h, refl)
neither false true z h = (refl, h)
neither false false z h = (refl, refl)

not_escaped : (b : ℕ) → is_escaped b ≡ false → (leb b 31 ≡ false) × (eqb b 37 ≡ false)
unfolding is_escaped
not_escaped b e = neither (leb b 31) (eqb b 37) (leb 127 b) e

byte_back : (b : ℕ) (l : List ℕ) (t : Bool) → is_escaped b ≡ t → Byte b → text_in (spelled b ++ l) ≡ b ∷ text_in l
unfolding text_from
byte_back b l true e h = rw (escaped_byte b e) (ap (λ (n : ℕ). n ∷ text_in l) (pair_back b h))
byte_back b l false e h = rw (plain_byte b e, (not_escaped b e).1)

text_back : (t : List ℕ) → All Byte t → text_in (each spelled t) ≡ t
unfolding All each text_from
text_back [] h = refl
text_back (b ∷ t) h = byte_back b (each spelled t) (is_escaped b) refl h.0 ∙ ap (λ (l : List ℕ). b ∷ l) (text_back t h.1)

-- ---- lines
cut_back : (c : ℕ) (l rest : List ℕ) → All (Differs c) l → cut c (l ++ (c ∷ rest)) ≡ (l, rest)
unfolding All cut
cut_back c [] rest h = rw (eq-eqb c c refl)
cut_back c (x ∷ l) rest h = rw (ne_eqb x c h.0) (ap (before x) (cut_back c l rest h.1))

-- no value has a newline
hex_least : (d : ℕ) (t : Bool) → ltb d 10 ≡ t → 48 ≤ hex_digit d
unfolding hex_digit
hex_least d true e = rw e (omega arith)
hex_least d false e = rw e (omega arith)

pair_clean : (b : ℕ) → All (Differs 10) (hex_pair b)
unfolding All
pair_clean b = (λ e. omega (arith, hex_least (b / 16) (ltb (b / 16) 10) refl), (λ e. omega (arith, hex_least (b % 16) (ltb (b % 16) 10) refl), tt))

byte_clean : (b : ℕ) (t : Bool) → is_escaped b ≡ t → All (Differs 10) (spelled b)
unfolding All
byte_clean b true e = rw (escaped_byte b e) ((λ f. omega arith), pair_clean b)
byte_clean b false e = rw (plain_byte b e) ((λ f. omega (arith, leb-false b 31 (not_escaped b e).0)), tt)

digits_clean : (n : ℕ) → All (Differs 10) (decimal n)
unfolding Digit
digits_clean n = all_weaker Digit (Differs 10) (λ d h e. omega arith) (decimal n) (all_digits 20 n)

joined_clean : (c : ℕ) (ns : List ℕ) → Differs 10 c → All (Differs 10) (joined c ns)
unfolding All
joined_clean c [] h = tt
joined_clean c (n ∷ ns) h =
    all_append (Differs 10) (decimal n) (each (after c) ns) (digits_clean n) (all_each (Differs 10) (after c) (λ m. (h, digits_clean m)) ns)

value_clean : (v : Value) → Separated v → All (Differs 10) (value_bytes v)
unfolding All value_bytes
value_clean (numbers c ns) s = joined_clean c ns s.1
value_clean (text t) s = all_each (Differs 10) spelled (λ b. byte_clean b (is_escaped b) refl) t
value_clean (hex l) s = all_each (Differs 10) hex_pair pair_clean l
value_clean absent s = ((λ e. omega arith), tt)

key_back : (x : Line) (rest : List ℕ) → All (Differs 61) x.key → cut 61 (line_bytes x ++ rest) ≡ (x.key, value_bytes x.value ++ (10 ∷ rest))
unfolding line_bytes
key_back x rest h = simp append_assoc (cut_back 61 x.key (value_bytes x.value ++ (10 ∷ rest)) h)

pub reads_back_law : ReadsBack
reads_back_law =
    record {
      number = number_back 20;
      numbers = numbers_back;
      hex = bytes_back;
      text = text_back;
      key = key_back;
      value = λ v rest s. cut_back 10 (value_bytes v) rest (value_clean v s);
    }

pub reads_back_widest : ReadsBackWidest
unfolding All
reads_back_widest =
    record {
      number = reads_back_law.number largest (omega arith);
      commas = reads_back_law.numbers (code ",") largest (0 ∷ largest ∷ []) (omega arith) (omega arith) (omega arith, (omega arith, tt));
      dots = reads_back_law.numbers (code ".") 255 (255 ∷ []) (omega arith) (omega arith) (omega arith, tt);
      hex = reads_back_law.hex (0 ∷ 255 ∷ []) (omega arith, (omega arith, tt));
      text = reads_back_law.text (0 ∷ 37 ∷ 61 ∷ 127 ∷ 255 ∷ []) (omega arith, (omega arith, (omega arith, (omega arith, (omega arith, tt)))));
      key = λ v. rw append-nil at (reads_back_law.key (line (ascii "half") v) [] (four_letters));
      values = λ t l n m. (ends absent tt, ends (text t) tt, ends (hex l) tt, ends (numbers (code ",") (n ∷ m ∷ [])) (omega arith, λ e. omega arith), ends (numbers (code ".") (n ∷ m ∷ [])) (omega arith, λ e. omega arith));
    }
  where
    ends : (v : Value) → Separated v → EndsAtNewline v
    ends v s = reads_back_law.value v [] s

    four_letters : All (Differs (code "=")) (ascii "half")
    four_letters = (λ e. omega arith, (λ e. omega arith, (λ e. omega arith, (λ e. omega arith, tt))))

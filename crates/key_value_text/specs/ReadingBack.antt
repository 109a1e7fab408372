-- What spelled bytes say, and the statement that it is what was spelled: where its form and separator are known, a spelling stands for one
-- value, and the first line of a text has one key and one spelled value. Proved in proofs/ReadingBack.antt: `reads_back_law`.
-- A reader has to believe this file.
use Rattle.std.specs.Prelude.{ℕ, ◌+◌, ◌-◌, ◌*◌, ◌^◌, ◌<◌, ◌≡◌, List, [], ◌∷◌, ◌++◌, ltb, eqb}
use Prim.Native.Char.{code}
use Rattle.text_output.specs.Spelling.{ascii, pick, each, decimal, joined, hex_pair, spelled}
use Rattle.key_value_text.specs.Lines.{Value, Value.numbers, Value.text, Value.hex, Value.absent, Line, line, value_bytes, line_bytes}

-- ---- what bytes say
-- n with one digit more after it
abbrev pub shifted : ℕ → ℕ → ℕ
shifted n d = 10 * n + (d - code "0")

unfoldable pub number_from : ℕ → List ℕ → ℕ
number_from n [] = n
number_from n (d ∷ ds) = number_from (shifted n d) ds

abbrev pub number_in : List ℕ → ℕ
number_in ds = number_from 0 ds

-- the numbers between separators; n is what the digits before have said
unfoldable pub numbers_from : ℕ → ℕ → List ℕ → List ℕ
numbers_from c n [] = n ∷ []
numbers_from c n (x ∷ l) = pick (eqb x c) (n ∷ numbers_from c 0 l) (numbers_from c (shifted n x) l)

abbrev pub numbers_in : ℕ → List ℕ → List ℕ
numbers_in c l = numbers_from c 0 l

unfoldable pub hex_value : ℕ → ℕ
hex_value d = pick (ltb d (code "A")) (d - code "0") (d - code "A" + 10)

unfoldable pub bytes_in : List ℕ → List ℕ
bytes_in [] = []
bytes_in (x ∷ []) = []
bytes_in (x ∷ y ∷ l) = (16 * hex_value x + hex_value y) ∷ bytes_in l

-- where a text is read: at a byte, after a `%`, or after the first digit of an escape, which said v
pub data Place : Type 0 where
  at_byte : Place
  at_first : Place
  at_second : ℕ → Place

unfoldable pub text_from : Place → List ℕ → List ℕ
text_from p [] = []
text_from at_byte (x ∷ l) = pick (eqb x (code "%")) (text_from at_first l) (x ∷ text_from at_byte l)
text_from at_first (x ∷ l) = text_from (at_second (hex_value x)) l
text_from (at_second v) (x ∷ l) = (16 * v + hex_value x) ∷ text_from at_byte l

abbrev pub text_in : List ℕ → List ℕ
text_in l = text_from at_byte l

abbrev pub before : ℕ → List ℕ × List ℕ → List ℕ × List ℕ
before x p = (x ∷ p.0, p.1)

-- what stands before the first c, and what stands after it
unfoldable pub cut : ℕ → List ℕ → List ℕ × List ℕ
cut c [] = ([], [])
cut c (x ∷ l) = pick (eqb x c) ([], l) (before x (cut c l))

-- ---- the statement
unfoldable pub All : (ℕ → Type 0) → List ℕ → Type 0
All P [] = Unit {0}
All P (x ∷ l) = P x × All P l

-- at most 20 digits
abbrev pub Short : ℕ → Type 0
Short n = n < 10 ^ 20

abbrev pub Byte : ℕ → Type 0
Byte b = b < 256

abbrev pub Differs : ℕ → ℕ → Type 0
Differs c x = x ≡ c → ⊥

-- a separator is neither a digit nor a newline
abbrev pub Separated : Value → Type 0
Separated (numbers c ns) = (c < code "0") × Differs (code "\n") c
Separated (text t) = Unit {0}
Separated (hex l) = Unit {0}
Separated absent = Unit {0}

pub record ReadsBack : Type 0 where
  pub number : (n : ℕ) → Short n → number_in (decimal n) ≡ n
  pub numbers : (c n : ℕ) (ns : List ℕ) → c < code "0" → Short n → All Short ns → numbers_in c (joined c (n ∷ ns)) ≡ n ∷ ns
  pub hex : (l : List ℕ) → All Byte l → bytes_in (each hex_pair l) ≡ l
  pub text : (t : List ℕ) → All Byte t → text_in (each spelled t) ≡ t
  -- a line's key ends with its first `=`, and its value with the first newline after that
  pub key : (x : Line) (rest : List ℕ) → All (Differs (code "=")) x.key
      → cut (code "=") (line_bytes x ++ rest) ≡ (x.key, value_bytes x.value ++ (code "\n" ∷ rest))
  pub value : (v : Value) (rest : List ℕ) → Separated v → cut (code "\n") (value_bytes v ++ (code "\n" ∷ rest)) ≡ (value_bytes v, rest)

-- its premises leave nothing out that a listing has: the largest number of 64 bits, every byte, and both separators. Proved from the
-- statement itself.
abbrev pub largest : ℕ
largest = 18446744073709551615

-- a value ends with the first newline
abbrev pub EndsAtNewline : Value → Type 0
EndsAtNewline v = cut (code "\n") (value_bytes v ++ (code "\n" ∷ [])) ≡ (value_bytes v, [])

-- of each form, and numbers with either separator
abbrev pub EveryFormEnds : Type 0
EveryFormEnds =
    (t l : List ℕ) (n m : ℕ)
    → EndsAtNewline absent × EndsAtNewline (text t) × EndsAtNewline (hex l) × EndsAtNewline (numbers (code ",") (n ∷ m ∷ [])) × EndsAtNewline (numbers (code ".") (n ∷ m ∷ []))

pub record ReadsBackWidest : Type 0 where
  pub number : number_in (decimal largest) ≡ largest
  pub commas : numbers_in (code ",") (joined (code ",") (largest ∷ 0 ∷ largest ∷ [])) ≡ largest ∷ 0 ∷ largest ∷ []
  pub dots : numbers_in (code ".") (joined (code ".") (255 ∷ 255 ∷ [])) ≡ 255 ∷ 255 ∷ []
  pub hex : bytes_in (each hex_pair (0 ∷ 255 ∷ [])) ≡ 0 ∷ 255 ∷ []
  pub text : text_in (each spelled (0 ∷ 37 ∷ 61 ∷ 127 ∷ 255 ∷ [])) ≡ 0 ∷ 37 ∷ 61 ∷ 127 ∷ 255 ∷ []
  pub key : (v : Value) → cut (code "=") (line_bytes (line (ascii "half") v)) ≡ (ascii "half", value_bytes v ++ (code "\n" ∷ []))
  pub values : EveryFormEnds

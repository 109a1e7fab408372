-- How numbers, texts and raw bytes are spelled in a key=value line.
-- A reader has to believe this file.
use Rattle.std.specs.Prelude.{ℕ, zero, suc, ◌+◌, ◌-◌, ◌/◌, ◌%◌, Bool, true, false, ◌||◌, List, [], ◌∷◌, ◌++◌, leb, ltb, eqb}
use Prim.Native.String.{String, char_at, len}
use Prim.Native.Char.{code}

abbrev pub pick : {X : Type 0} → Bool → X → X → X
pick true x y = x
pick false x y = y

-- the bytes of a quoted text, which is ASCII: n of them from byte i on, and all of them
abbrev pub codes : String → ℕ → ℕ → List ℕ
codes s i zero = []
codes s i (suc n) = code (char_at s i) ∷ codes s (suc i) n

abbrev pub ascii : String → List ℕ
ascii s = codes s 0 (len s)

-- what each element of a list is spelled as, one after the other
unfoldable pub each : {X : Type 0} → (X → List ℕ) → List X → List ℕ
each f [] = []
each f (x ∷ l) = f x ++ each f l

-- ---- numbers: "Numbers are decimal"
-- n without zeros in front, where it has at most k digits
unfoldable pub digits : ℕ → ℕ → List ℕ
digits zero n = []
digits (suc k) n = pick (ltb n 10) ((code "0" + n) ∷ []) (digits k (n / 10) ++ ((code "0" + n % 10) ∷ []))

-- 64 bits take at most 20 digits
abbrev pub decimal : ℕ → List ℕ
decimal n = digits 20 n

-- a number with the separator in front, as every one but the first has
abbrev pub after : ℕ → ℕ → List ℕ
after separator n = separator ∷ decimal n

-- numbers with a separator between them
abbrev pub joined : ℕ → List ℕ → List ℕ
joined separator [] = []
joined separator (n ∷ ns) = decimal n ++ each (after separator) ns

-- ---- raw bytes: two digits a byte, "64 capital hex digits" for two GUIDs
-- a digit below 16: `0` to `9`, then `A` to `F`
unfoldable pub hex_digit : ℕ → ℕ
hex_digit d = pick (ltb d 10) (code "0" + d) (code "A" + (d - 10))

abbrev pub hex_pair : ℕ → List ℕ
hex_pair b = hex_digit (b / 16) ∷ hex_digit (b % 16) ∷ []

-- ---- texts
-- "Text bytes 1 to 31, 37, and 127 to 255 print as `%` and two capital hex digits." (A text has no byte 0.)
unfoldable pub is_escaped : ℕ → Bool
is_escaped b = leb b 31 || eqb b 37 || leb 127 b

unfoldable pub spelled : ℕ → List ℕ
spelled b = pick (is_escaped b) (code "%" ∷ hex_pair b) (b ∷ [])

-- What stands in a buffer at a field's place: raw bytes and texts. (Numbers: numberAt, of crate words.)
-- A reader has to believe this file.
use Rattle.std.specs.Prelude.{ℕ, zero, suc, ◌+◌, ◌<◌, List, [], ◌∷◌, ◌++◌, length, get_or, drop}

-- every element is a byte
abbrev pub Bytes : List ℕ → Type 0
Bytes b = (i : ℕ) → get_or b i 0 < 256

-- the k bytes of `b` from `o` on
unfoldable pub bytes_at : List ℕ → ℕ → ℕ → List ℕ
bytes_at b o zero = []
bytes_at b o (suc k) = get_or b o 0 ∷ bytes_at b (o + 1) k

-- a byte and what follows it, up to a zero
abbrev pub up_to_zero : ℕ → List ℕ → List ℕ
up_to_zero zero l = []
up_to_zero (suc x) l = suc x ∷ l

-- the text in the k bytes of `b` from `o` on: those before the first zero, or all k where there is none
unfoldable pub text_at : List ℕ → ℕ → ℕ → List ℕ
text_at b o zero = []
text_at b o (suc k) = up_to_zero (get_or b o 0) (text_at b (o + 1) k)

-- l over the front of `out`; what is after it stays
abbrev pub over : List ℕ → List ℕ → List ℕ
over l out = l ++ drop (length l) out

-- a text with its closing zero
abbrev pub closed : List ℕ → List ℕ
closed l = l ++ (0 ∷ [])

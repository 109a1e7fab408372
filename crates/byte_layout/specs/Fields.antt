-- A byte layout as data: fields in a row, each with its value. What the bytes of a layout are, which of them are silent, what a
-- writer writes, how wide it is and whether the values fit are each one function of a field. No format in particular is here.
-- A reader has to believe this file.
use Rattle.std.specs.Prelude.{ℕ, zero, suc, ◌+◌, ◌^◌, ◌≤◌, ◌<◌, ◌≡◌, List, [], ◌∷◌, ◌++◌, length, get_or}
use Rattle.words.specs.Words.{little_endian}

-- one byte of a layout: a byte that has to be there, or one that says nothing. "Silent" is document 01's term.
pub data Cell : Type 0 where
  byte : ℕ → Cell
  silent : Cell

-- `number k n`: n as a little-endian number of k bytes
-- `raw k l`: the k bytes l
-- `text k l`: the text l in a field of k bytes: its bytes, a closing zero, and silent bytes
-- `padding k`: k silent bytes
pub data Field : Type 0 where
  number : ℕ → ℕ → Field
  raw : ℕ → List ℕ → Field
  text : ℕ → List ℕ → Field
  padding : ℕ → Field

abbrev pub bytes : List ℕ → List Cell
bytes [] = []
bytes (x ∷ l) = byte x ∷ bytes l

abbrev pub silence : ℕ → List Cell
silence zero = []
silence (suc k) = silent ∷ silence k

-- the first k of l and, where l is shorter, zeros after it
abbrev pub padded : ℕ → List ℕ → List ℕ
padded zero l = []
padded (suc k) [] = 0 ∷ padded k []
padded (suc k) (x ∷ l) = x ∷ padded k l

abbrev pub text_cells : ℕ → List ℕ → List Cell
text_cells zero l = []
text_cells (suc k) [] = byte 0 ∷ silence k
text_cells (suc k) (x ∷ l) = byte x ∷ text_cells k l

-- ---- one field
abbrev pub field_cells : Field → List Cell
field_cells (number k n) = bytes (little_endian k n)
field_cells (raw k l) = bytes (padded k l)
field_cells (text k l) = text_cells k l
field_cells (padding k) = silence k

abbrev pub field_width : Field → ℕ
field_width (number k n) = k
field_width (raw k l) = k
field_width (text k l) = k
field_width (padding k) = k

-- the value fits the field: a number has k bytes; raw bytes are k bytes; a text is at most k bytes, none of them zero
abbrev pub FieldFits : Field → Type 0
FieldFits (number k n) = n < 256 ^ k
FieldFits (raw k l) = (length l ≡ k) × ((i : ℕ) → i < k → get_or l i 0 < 256)
FieldFits (text k l) = (length l ≤ k) × ((i : ℕ) → i < length l → (0 < get_or l i 0) × (get_or l i 0 < 256))
FieldFits (padding k) = Unit {0}

-- ---- fields in a row
unfoldable pub cells : List Field → List Cell
cells [] = []
cells (f ∷ fs) = field_cells f ++ cells fs

unfoldable pub width : List Field → ℕ
width [] = 0
width (f ∷ fs) = field_width f + width fs

unfoldable pub Fits : List Field → Type 0
Fits [] = Unit {0}
Fits (f ∷ fs) = FieldFits f × Fits fs

-- what a writer writes: silent bytes as zero
unfoldable pub filled : List Cell → List ℕ
filled [] = []
filled (byte n ∷ cs) = n ∷ filled cs
filled (silent ∷ cs) = 0 ∷ filled cs

-- cells open a buffer: they lie within it, and every byte that is not silent is there as the cell says
abbrev pub Opens : List ℕ → List Cell → Type 0
Opens b cs = (length cs ≤ length b) × ((i n : ℕ) → i < length cs → get_or cs i silent ≡ byte n → get_or b i 0 ≡ n)

-- the cell at `i` is silent; so is everything past the cells
abbrev pub SilentAt : List Cell → ℕ → Type 0
SilentAt cs i = get_or cs i silent ≡ silent

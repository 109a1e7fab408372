-- Document 01, "Cases on both sides": the cases marked *, as one list, and the other side of their limits. The theorems are `starred` and
-- `other_sides_law`, proofs/Starred.antt.
-- A reader has to believe this file.
use Rattle.std.specs.Prelude.{ℕ, ◌≡◌, List, [], ◌∷◌, ◌++◌, length, replicate}
use Rattle.refusals.specs.Refusals.{SHORT, VERSION, COUNT, MISSING, HEADER, SIZE, OVERRUN, TYPE, PLACE, FORM}
use Rattle.ultra_format.specs.Contexts.{Body.command_line}
use Rattle.ultra_format.specs.Plain.{written_size}
use Rattle.ultra_reading.specs.Reading.{reading_of, reading_number, reading_value}

-- a buffer that reading refuses, with its number and offset; the same of any seven bytes; and a command line of k bytes, whatever
-- they are, with the size that it is written in
pub data Case : Type 0 where
  refuses : List ℕ → ℕ → ℕ → Case
  refuses_seven : ℕ → ℕ → Case
  writes : ℕ → ℕ → Case

-- 01's number and value of what reading answers
abbrev pub Answers : List ℕ → ℕ → ℕ → Type 0
Answers b n v = (reading_number (reading_of b) ≡ n) × (reading_value (reading_of b) ≡ v)

abbrev pub Holds : Case → Type 0
Holds (refuses b n o) = Answers b n o
Holds (refuses_seven n o) = (p q r s t u v : ℕ) → Answers (p ∷ q ∷ r ∷ s ∷ t ∷ u ∷ v ∷ []) n o
Holds (writes k s) = (t : List ℕ) → length t ≡ k → written_size (command_line t) ≡ s

abbrev pub AllHold : List Case → Type 0
AllHold [] = Unit {0}
AllHold (c ∷ cs) = Holds c × AllHold cs

-- "Head H = 01 00 00 00 02 00 00 00"
abbrev pub head : List ℕ
head = 1 ∷ 0 ∷ 0 ∷ 0 ∷ 2 ∷ 0 ∷ 0 ∷ 0 ∷ []

-- "H with eight bytes": a type and a size below 256
abbrev pub head_with : ℕ → ℕ → List ℕ
head_with t s = head ++ (t ∷ 0 ∷ 0 ∷ 0 ∷ s ∷ 0 ∷ 0 ∷ 0 ∷ [])

abbrev pub cases : List Case
cases =
    -- "7 bytes: SHORT"
    refuses_seven SHORT 0
    -- "Eight zeros: VERSION"
    ∷ refuses (replicate 8 0) VERSION 0
    -- "01 then seven zeros: MISSING"
    ∷ refuses (1 ∷ replicate 7 0) MISSING 0
    -- "01 00 00 00 01 04 00 00: COUNT (1,025)"
    ∷ refuses (1 ∷ 0 ∷ 0 ∷ 0 ∷ 1 ∷ 4 ∷ 0 ∷ 0 ∷ []) COUNT 0
    -- "H alone: HEADER at 8"
    ∷ refuses head HEADER 8
    -- type 1 size 12, SIZE; type 1 size 16, OVERRUN; type 0 size 8, TYPE; type 2 size 8, PLACE; type 1 size 8, FORM; "all at 8"
    ∷ refuses (head_with 1 12) SIZE 8
    ∷ refuses (head_with 1 16) OVERRUN 8
    ∷ refuses (head_with 0 8) TYPE 8
    ∷ refuses (head_with 2 8) PLACE 8
    ∷ refuses (head_with 1 8) FORM 8
    -- "Command line of 0 or 7 bytes: 16 written; of 8: 24."
    ∷ writes 0 16
    ∷ writes 7 16
    ∷ writes 8 24
    ∷ []

-- ---- the other side of those limits, not marked *, with their numbers in digits
abbrev pub other_sides : List Case
other_sides =
    -- one attribute is too few; 1,024 are not too many, and major 255 is a version, so that the first header is missed
    refuses (1 ∷ 0 ∷ 0 ∷ 0 ∷ 1 ∷ 0 ∷ 0 ∷ 0 ∷ []) 4 0
    ∷ refuses (1 ∷ 0 ∷ 0 ∷ 0 ∷ 0 ∷ 4 ∷ 0 ∷ 0 ∷ []) 5 8
    ∷ refuses (255 ∷ 0 ∷ 0 ∷ 0 ∷ 2 ∷ 0 ∷ 0 ∷ 0 ∷ []) 5 8
    -- seven bytes of room for a header; sizes 0 and 4; an end just past the room, and one at the room, so that the type is asked
    ∷ refuses (head ++ replicate 7 7) 5 8
    ∷ refuses (head_with 7 0) 6 8
    ∷ refuses (head_with 7 4) 6 8
    ∷ refuses (head_with 7 16) 7 8
    ∷ refuses (head_with 7 8) 9 8
    ∷ []

-- The refusals of reading in digits, and the least payload: for each number a buffer that is refused by it although a later condition is met
-- too, and both sides of each limit.
-- Proved in proofs/Witness.antt: `witnessed`.
-- A reader has to believe this file.
use Rattle.std.specs.Prelude.{ℕ, ◌≡◌, List, [], ◌∷◌, ◌++◌, replicate, set, Ok}
use Rattle.refusals.specs.Answers.{refused}
use Rattle.handover_reading.specs.PayloadReading.{reading_of}

-- magic, agent, size, and a count of two bytes
abbrev pub head : ℕ → ℕ → ℕ → ℕ → List ℕ
head agent size low high = 1 ∷ 176 ∷ 1 ∷ 192 ∷ agent ∷ 0 ∷ 0 ∷ 0 ∷ size ∷ 0 ∷ 0 ∷ 0 ∷ low ∷ high ∷ 0 ∷ 0 ∷ []

-- a tag of four equal bytes, start 2^64 - 1, a size, and zeros
abbrev pub row : ℕ → ℕ → List ℕ
row t size =
    (t ∷ t ∷ t ∷ t ∷ 0 ∷ 0 ∷ 0 ∷ 0 ∷ 255 ∷ 255 ∷ 255 ∷ 255 ∷ 255 ∷ 255 ∷ 255 ∷ 255 ∷ [])
    ++ (size ∷ 0 ∷ 0 ∷ 0 ∷ 0 ∷ 0 ∷ 0 ∷ 0 ∷ 0 ∷ 0 ∷ 0 ∷ 0 ∷ 0 ∷ 0 ∷ 0 ∷ 0 ∷ [])

-- HANDOVER_FILE, zeros, name 0 and meta 1
abbrev pub file : List ℕ
file = (59 ∷ 109 ∷ 195 ∷ 203 ∷ []) ++ replicate 24 0 ++ (1 ∷ 0 ∷ 0 ∷ 0 ∷ [])

pub record Witnessed : Type 0 where
  -- "1 for room below 16; 20 for the magic"
  pub short : reading_of (replicate 15 0) ≡ refused 1 0
  pub magic : reading_of (replicate 16 0) ≡ refused 20 0
  -- "3 for a count of 0 or above 1,024"
  pub none : reading_of (head 0 0 0 0) ≡ refused 3 0
  -- 1,025 records; 1,024 are 21 in this room
  pub many : reading_of (head 0 0 1 4) ≡ refused 3 0
  pub most : reading_of (head 0 0 0 4) ≡ refused 21 0
  -- "21 if size is below 16 + 32 × count or above the room"
  pub less : reading_of (head 0 47 1 0 ++ row 0 2) ≡ refused 21 0
  pub more : reading_of (head 0 49 1 0 ++ row 0 2) ≡ refused 21 0
  -- "per record 23 for a misplaced or missing end, 15": where both are broken, 23
  pub missing : reading_of (head 0 48 1 0 ++ row 0 2) ≡ refused 23 16
  pub misplaced : reading_of (head 0 80 2 0 ++ row 255 2 ++ row 255 2) ≡ refused 23 16
  -- 15 of the first record before 23 of the second
  pub row_by_row : reading_of (head 0 80 2 0 ++ row 0 2 ++ row 0 1) ≡ refused 15 16
  pub range : reading_of (head 0 80 2 0 ++ row 0 1 ++ row 255 2) ≡ refused 15 48
  -- a range that ends at 2^64 passes; no table, so no string
  pub agent : reading_of (head 0 48 1 0 ++ row 255 1) ≡ refused 22 0
  -- a zero past the size closes nothing
  pub unclosed : reading_of (head 0 49 1 0 ++ row 255 1 ++ (97 ∷ 0 ∷ [])) ≡ refused 22 0
  pub string : reading_of (head 0 113 3 0 ++ row 0 1 ++ file ++ row 255 1 ++ (0 ∷ [])) ≡ refused 22 48
  pub least : reading_of (head 0 49 1 0 ++ row 255 1 ++ (0 ∷ [])) ≡ Ok 49
  -- by `UnreadBytes`: byte 16 where the size is 16, and whatever follows 65,536 bytes
  pub unread_byte : (x : ℕ) → reading_of (set (head 0 16 1 0 ++ (5 ∷ [])) 16 x) ≡ refused 21 0
  pub unread_rest : (rest : List ℕ) → reading_of (replicate 65536 0 ++ rest) ≡ reading_of (replicate 65536 0)

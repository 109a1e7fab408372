-- How much of a lent buffer counts, in every format.
-- A reader has to believe this file.
use Rattle.std.specs.Prelude.{ℕ, min, List, length}

-- "**Room** is the smaller of the buffer's length and 65,536." 01's term; R-2: "Read and write it in the same room."
abbrev pub room_of : List ℕ → ℕ
room_of b = min (length b) 65536

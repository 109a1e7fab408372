-- One more attribute at the end of a context: what refuses it, the offset where it goes, and the buffer with it counted.
-- A reader has to believe this file.
use Rattle.std.specs.Prelude.{ℕ, ◌+◌, List, length, leb, ltb, Ok, Err}
use Rattle.words.specs.Words.{little_endian, replaced}
use Rattle.refusals.specs.Refusals.{unless, first_of, FULL, ROOM}
use Rattle.refusals.specs.Answers.{Answer, or_refused}
use Rattle.lent_buffers.specs.Room.{room_of}
use Rattle.ultra_format.specs.Places.{place_check}
use Rattle.ultra_format.specs.Decoding.{stored_count, types_before}
use Rattle.ultra_reading.specs.Reading.{used_length}

-- "Then, with the used length as offset: 17, 9, 10, 11, 12, 13, 14, 15, 16, 18, tried on the record given": the first of them, or 0, for
-- an attribute of type `t`, of which `number` is the first of 12 to 16 that it breaks, or 0, and of `size` bytes, after attributes of the
-- types `before` (the nearest first) that end at `used`
unfoldable pub append_check : List ℕ → ℕ → ℕ → ℕ → ℕ → ℕ → ℕ
append_check before room used t number size =
    unless (ltb (length before) 1024) FULL
    (first_of (place_check before t)
    (first_of number
    (unless (leb (used + size) room) ROOM
    0)))

-- the offset where the attribute goes in a buffer that has been read, its used length, or the refusal
abbrev pub append_offset_in : List ℕ → ℕ → ℕ → ℕ → Answer → Answer
append_offset_in b t number size (Err r) = Err r
append_offset_in b t number size (Ok n) =
    or_refused (append_check (types_before b (stored_count b)) (room_of b) n t number size) n (Ok n)

-- "Adding first reads the buffer by all rules but the lower limit of the count, and gives that refusal."
unfoldable pub append_offset : List ℕ → ℕ → ℕ → ℕ → Answer
append_offset b t number size = append_offset_in b t number size (used_length 0 b)

-- "raises the head's count by one"
unfoldable pub counted : List ℕ → List ℕ
counted b = replaced b 4 4 (little_endian 4 (stored_count b + 1))

-- the offset or the refusal, and the buffer afterwards: a refused attribute is not counted
abbrev pub count_raised_at : List ℕ → Answer → Answer × List ℕ
count_raised_at b (Ok n) = (Ok n, counted b)
count_raised_at b (Err r) = (Err r, b)

unfoldable pub count_raised : List ℕ → ℕ → ℕ → ℕ → Answer × List ℕ
count_raised b t number size = count_raised_at b (append_offset b t number size)

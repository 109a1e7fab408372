-- The checks of the head and of an attribute's header: refusals 1 to 8 of document 01's table, in its order.
-- A reader has to believe this file.
use Rattle.std.specs.Prelude.{ℕ, ◌+◌, ◌%◌, not, List, get_or, leb, eqb}
use Rattle.words.specs.Words.{u32_at}
use Rattle.refusals.specs.Refusals.{unless, SHORT, VERSION, COUNT, MISSING, HEADER, SIZE, OVERRUN, TYPE}
use Rattle.lent_buffers.specs.Room.{room_of}
use Rattle.ultra_format.specs.Decoding.{stored_count}

-- the head: the first of 1 to 4 that it breaks, or 0, with `fewest` as the lower limit of the count
unfoldable pub head_check : ℕ → List ℕ → ℕ
head_check fewest b =
    unless (leb 8 (room_of b)) SHORT
    (unless (not (eqb (get_or b 0 0) 0)) VERSION
    (unless (leb (stored_count b) 1024) COUNT
    (unless (leb fewest (stored_count b)) MISSING
    0)))

-- the first of 5 to 8 that the attribute at `o` breaks, or 0
unfoldable pub bounds_check : List ℕ → ℕ → ℕ → ℕ
bounds_check b room o =
    unless (leb (o + 8) room) HEADER
    (unless (leb 8 (u32_at b (o + 4))) SIZE
    (unless (eqb (u32_at b (o + 4) % 8) 0) SIZE
    (unless (leb (o + u32_at b (o + 4)) room) OVERRUN
    (unless (not (eqb (u32_at b o) 0)) TYPE
    0))))

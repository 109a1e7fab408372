-- What a step answers. Document 01: "A step does 1 to 4; answers the end if the index is at or past the count; gives 5 also if the
-- offset is below 8 or no multiple of 8; then 6, 7, 8; else hands back the attribute's type, start and size together with the next
-- cursor. Refusals 1 to 4 of a step have offset 0, the others the cursor's offset."
-- A reader has to believe this file.
use Rattle.std.specs.Prelude.{ℕ, zero, suc, ◌+◌, ◌%◌, ◌&&◌, List, leb, eqb, Err, Option, Some, None, Result, Ok}
use Rattle.words.specs.Words.{u32_at}
use Rattle.refusals.specs.Refusals.{unless, HEADER}
use Rattle.refusals.specs.declared.Refusal.{Refusal}
use Rattle.refusals.specs.Answers.{refusal, refusal_at}
use Rattle.lent_buffers.specs.Room.{room_of}
use Rattle.ultra_format.specs.Decoding.{pick, stored_count}
use Rattle.ultra_stepping.specs.Checks.{head_check, bounds_check}
use Rattle.ultra_stepping.specs.declared.cursor.Header.{Header}
use Rattle.ultra_stepping.specs.declared.cursor.Cursor.{Cursor}

-- an attribute with the cursor of the next, the end, or a refusal: `Result<Option<(Header, Cursor)>, Refusal>`
abbrev pub Step : Type 0
Step = Result (Option (Header × Cursor)) Refusal

abbrev pub steps_to : Header → Cursor → Step
steps_to h next = Ok (Some (h, next))

abbrev pub at_end : Step
at_end = Ok None

-- the first of 5 to 8 that a cursor's offset breaks, or 0
unfoldable pub cursor_check : List ℕ → ℕ → ℕ
cursor_check b o = unless (leb 8 o && eqb (o % 8) 0) HEADER (bounds_check b (room_of b) o)

-- the refusal, where its number is not 0; else what the rest answers
abbrev pub step_unless : ℕ → Refusal → Step → Step
step_unless zero r rest = rest
step_unless (suc n) r rest = Err r

-- of the whole, and of the attribute at the cursor's index
abbrev pub step_refused : ℕ → ℕ → Step → Step
step_refused n o rest = step_unless n (refusal n o) rest

abbrev pub step_refused_at : ℕ → ℕ → ℕ → Step → Step
step_refused_at n i o rest = step_unless n (refusal_at n i o) rest

abbrev pub cursor_at : ℕ → ℕ → Cursor
cursor_at i o = record { index = i; offset = o }

abbrev pub header_at : List ℕ → ℕ → Header
header_at b o = record { kind = u32_at b o; start = o; size = u32_at b (o + 4) }

unfoldable pub step_of : List ℕ → Cursor → Step
step_of b c =
    step_refused (head_check 2 b) 0
    (pick (leb (stored_count b) c.index) at_end
    (step_refused_at (cursor_check b c.offset) c.index c.offset
    (steps_to (header_at b c.offset) (cursor_at (c.index + 1) (c.offset + u32_at b (c.offset + 4))))))

-- 01's number and value of a step: "A step's value is the next cursor's offset, or 0 at the end."
abbrev pub step_number : Step → ℕ
step_number (Ok s) = 0
step_number (Err r) = r.number

abbrev pub step_value : Step → ℕ
step_value (Ok (Some s)) = s.1.offset
step_value (Ok None) = 0
step_value (Err r) = r.offset

-- What reading a buffer answers: the tests of document 01's table, in its order. "In reading and adding, 1 to 4 (3 for the count)
-- have offset 0 and come first. Then attribute by attribute, 5 to 16 in that order, each with that attribute's start".
-- A reader has to believe this file.
use Rattle.std.specs.Prelude.{ℕ, zero, suc, ◌+◌, ◌<◌, max, ◌≡◌, List, [], ◌∷◌, get_or, Ok, Err, Result}
use Rattle.words.specs.Words.{u32_at}
use Rattle.refusals.specs.Refusals.{first_of}
use Rattle.refusals.specs.Answers.{Answer, or_refused, or_refused_at}
use Rattle.lent_buffers.specs.Room.{room_of}
use Rattle.ultra_format.specs.Members.{body_check}
use Rattle.ultra_format.specs.Places.{place_check}
use Rattle.ultra_format.specs.Decoding.{decoded, start, stored_count, types_before}
use Rattle.ultra_stepping.specs.Checks.{head_check, bounds_check}
use Rattle.ultra_reading.specs.declared.Version.{Version}
use Rattle.ultra_reading.specs.declared.Accepted.{Accepted}
use Rattle.refusals.specs.declared.Refusal.{Refusal}

-- the first of 5 to 16 that the attribute at `o` breaks, after those of the types `before`, or 0
unfoldable pub attribute_check : List ℕ → ℕ → List ℕ → ℕ → ℕ
attribute_check b room before o =
    first_of (bounds_check b room o)
    (first_of (place_check before (u32_at b o))
    (body_check (u32_at b (o + 4)) (decoded b o (u32_at b (o + 4)) (u32_at b o))))

-- the same of attribute i
abbrev pub check_of : List ℕ → ℕ → ℕ → ℕ
check_of b room i = attribute_check b room (types_before b i) (start b i)

-- the attributes before i break no rule
abbrev pub Clear : List ℕ → ℕ → ℕ → Type 0
Clear b room i = (j : ℕ) → j < i → check_of b room j ≡ 0

-- the highest of some types, 0 where there is none
unfoldable pub highest_of : List ℕ → ℕ
highest_of [] = 0
highest_of (u ∷ us) = max (highest_of us) u

-- n attributes from attribute i on: the first refusal, or where they end
unfoldable pub attributes_answer : List ℕ → ℕ → ℕ → ℕ → Answer
attributes_answer b room i zero = Ok (start b i)
attributes_answer b room i (suc n) = or_refused_at (check_of b room i) i (start b i) (attributes_answer b room (suc i) n)

-- the used length, or the refusal
unfoldable pub used_length : ℕ → List ℕ → Answer
used_length fewest b = or_refused (head_check fewest b) 0 (attributes_answer b (room_of b) 0 (stored_count b))

-- "The version and the used length that reading answers"
abbrev pub version_of : List ℕ → Version
version_of b = record { major = get_or b 0 0; minor = get_or b 1 0 }

-- what reading answers: `Result<Accepted, Refusal>`
abbrev pub Reading : Type 0
Reading = Result Accepted Refusal

abbrev pub read_as : Version → ℕ → Reading
read_as v n = Ok (record { version = v; used = n })

abbrev pub with_version : Version → Answer → Reading
with_version v (Ok n) = read_as v n
with_version v (Err r) = Err r

-- reading a context: 2 is the lower limit of its count
unfoldable pub reading_of : List ℕ → Reading
reading_of b = with_version (version_of b) (used_length 2 b)

-- 01's number and value of a reading
abbrev pub reading_number : Reading → ℕ
reading_number (Ok a) = 0
reading_number (Err r) = r.number

abbrev pub reading_value : Reading → ℕ
reading_value (Ok a) = a.used
reading_value (Err r) = r.offset

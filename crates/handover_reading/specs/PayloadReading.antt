-- What reading a buffer answers: R-2's tests in their order. "Refusals, in order: 1 for room below 16; 20 for the magic; 3 for a count of 0 or
-- above 1,024; 21 if size is below 16 + 32 × count or above the room; then per record 23 for a misplaced or missing end, 15; last 22 for a
-- string, agent first, then in record order. Offsets are the record's start, else 0."
-- A reader has to believe this file.
use Rattle.std.specs.Prelude.{ℕ, zero, suc, ◌+◌, ◌-◌, Bool, List, length, leb, ltb, eqb, Ok}
use Rattle.words.specs.Words.{u32_at}
use Rattle.lent_buffers.specs.Room.{room_of}
use Rattle.refusals.specs.Refusals.{unless, SHORT, COUNT, RANGE, MAGIC, PAYLOAD, STRING, END}
use Rattle.refusals.specs.Answers.{Answer, or_refused, or_refused_at, and_then}
use Rattle.address_ranges.specs.Ranges.{range_fits}
use Rattle.handover_format.specs.Payloads.{names_name, names_meta, record_start}
use Rattle.handover_format.specs.PayloadLayouts.{magic}
use Rattle.handover_format.specs.PayloadDecoding.{stored_agent, stored_size, stored_count, stored_record, stored_table, string_at}
use Rattle.handover_format.specs.RecordTests.{end_suits, if_named}
use Rattle.handover_format.specs.declared.records.Record.{Record}

-- ---- the head: the first of 1, 20, 3 and 21 that it breaks, or 0
unfoldable pub head_check : List ℕ → ℕ
head_check b =
    unless (leb 16 (room_of b)) SHORT
    (unless (eqb (u32_at b 0) magic) MAGIC
    (unless (leb 1 (stored_count b)) COUNT
    (unless (leb (stored_count b) 1024) COUNT
    (unless (leb (stored_table b) (stored_size b)) PAYLOAD
    (unless (leb (stored_size b) (room_of b)) PAYLOAD
    0)))))

-- ---- a record, the last or not: the first of 23 and 15 that its words break, or 0
unfoldable pub words_check : Bool → Record → ℕ
words_check last r = unless (end_suits last r.tag) END (unless (range_fits r.start r.size) RANGE 0)

-- record i of n
abbrev pub record_check : List ℕ → ℕ → ℕ → ℕ
record_check b n i = words_check (eqb (i + 1) n) (stored_record b i)

-- ---- strings, in a table of n bytes from t on: 22 or 0
-- "must start inside the table and close there": the string ends before the table does
unfoldable pub closes : List ℕ → ℕ → ℕ → ℕ → Bool
closes b t n o = ltb (length (string_at b t n o)) (n - o)

-- those that a record names
unfoldable pub strings_check : List ℕ → ℕ → ℕ → Record → ℕ
strings_check b t n r =
    unless (if_named (names_name r.tag) (closes b t n r.name)) STRING
    (unless (if_named (names_meta r.tag) (closes b t n r.meta)) STRING
    0)

-- record i
abbrev pub named_check : List ℕ → ℕ → ℕ → ℕ → ℕ
named_check b t n i = strings_check b t n (stored_record b i)

-- ---- all of them
-- n records from record i on: the first number that is not 0, at its record's start, or `v`
unfoldable pub each_of : (ℕ → ℕ) → ℕ → ℕ → ℕ → Answer
each_of check v i zero = Ok v
each_of check v i (suc n) = or_refused_at (check i) i (record_start i) (each_of check v (suc i) n)

-- after the head, with n records and the size s
unfoldable pub body_answer : List ℕ → ℕ → ℕ → Answer
body_answer b n s =
    and_then (each_of (record_check b n) s 0 n)
    (or_refused (unless (closes b (record_start n) (s - record_start n) (stored_agent b)) STRING 0) 0
    (each_of (named_check b (record_start n) (s - record_start n)) s 0 n))

-- "Reading answers the used length", which is the payload's size
unfoldable pub reading_of : List ℕ → Answer
reading_of b = or_refused (head_check b) 0 (body_answer b (stored_count b) (stored_size b))

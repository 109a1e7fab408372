-- "Writing tries 3, 23, 15, then 22 for a string that holds a zero byte or passes the run, then 18, each over all records before the next,
-- all at offset 0."
-- A reader has to believe this file.
use Rattle.std.specs.Prelude.{ℕ, zero, suc, ◌+◌, Bool, true, ◌&&◌, List, length, leb, eqb}
use Rattle.byte_layout.specs.Stored.{text_at}
use Rattle.refusals.specs.Refusals.{unless, COUNT, RANGE, ROOM, STRING, END}
use Rattle.address_ranges.specs.Ranges.{range_fits}
use Rattle.handover_format.specs.Payloads.{names_name, names_meta}
use Rattle.handover_format.specs.RecordTests.{end_suits, if_named}
use Rattle.handover_format.specs.WrittenForm.{payload_size}
use Rattle.handover_arguments.specs.PayloadGiven.{count_given, record_given, agent_part, name_part, meta_part, start_given, length_given, agent_given, entries_given}

-- a test holds of every index below n
unfoldable pub every : (ℕ → Bool) → ℕ → Bool
every f zero = true
every f (suc n) = every f n && f n

-- record i of n has the end tag just where it must
abbrev pub end_good : List ℕ → ℕ → ℕ → Bool
end_good rs n i = end_suits (eqb (i + 1) n) (record_given rs i).tag

abbrev pub range_good : List ℕ → ℕ → Bool
range_good rs i = range_fits (record_given rs i).start (record_given rs i).size

-- the n bytes from s on lie within the run, and none of them is zero
unfoldable pub run_has : List ℕ → ℕ → ℕ → Bool
run_has run s n = leb (s + n) (length run) && eqb (length (text_at run s n)) n

-- a string whose start and length are lent, and which the run has
unfoldable pub string_good : List ℕ → List ℕ → ℕ → Bool
string_good ps run k = leb (k + 2) (length ps) && run_has run (start_given ps k) (length_given ps k)

-- the strings that record i names
unfoldable pub strings_good : List ℕ → List ℕ → List ℕ → ℕ → Bool
strings_good rs ps run i =
    if_named (names_name (record_given rs i).tag) (string_good ps run (name_part i)) && if_named (names_meta (record_given rs i).tag) (string_good ps run (meta_part i))

-- the first of 3, 23, 15, 22 and 18 that what is given breaks in a room, or 0
unfoldable pub write_check : List ℕ → List ℕ → List ℕ → ℕ → ℕ
write_check rs ps run room =
    unless (leb 1 (count_given rs)) COUNT
    (unless (leb (count_given rs) 1024) COUNT
    (unless (every (end_good rs (count_given rs)) (count_given rs)) END
    (unless (every (range_good rs) (count_given rs)) RANGE
    (unless (string_good ps run agent_part) STRING
    (unless (every (strings_good rs ps run) (count_given rs)) STRING
    (unless (leb (payload_size (agent_given ps run) (entries_given rs ps run)) room) ROOM
    0))))))

-- Which refusal writing gives, exactly, and what it then leaves. Each condition is asked by itself, whatever else is broken; which of several
-- is given is said after them. Proved in proofs/WritingRefusals.antt: `writing_refuses`, `refused_keeps`, `writing_succeeds`.
-- A reader has to believe this file.
use Rattle.std.specs.Prelude.{ℕ, ◌+◌, ◌<◌, ◌≡◌, ◌↔◌, true, List, [], ◌∷◌, length, get_or, Ok, Err}
use Rattle.lent_buffers.specs.Room.{room_of}
use Rattle.refusals.specs.Refusals.{COUNT, RANGE, ROOM, STRING, END}
use Rattle.refusals.specs.Answers.{number_of, value_of}
use Rattle.refusals.specs.Order.{First, NoneBreaks}
use Rattle.refusals.specs.declared.Refusal.{Refusal}
use Rattle.handover_format.specs.Payloads.{handover_end, names_name, names_meta}
use Rattle.handover_format.specs.WrittenForm.{payload_size}
use Rattle.handover_arguments.specs.PayloadGiven.{count_given, record_given, agent_part, name_part, meta_part, start_given, length_given, agent_given, entries_given}
use Rattle.handover_writing.specs.Writing.{payload_written}

-- ---- the conditions
-- of a string, whose start is the number at k and whose length is the one after it
pub data StringBreaks (ps run : List ℕ) (k : ℕ) : Type 0 where
  -- one of the two is not lent; that this is refused as 22 is a decision
  unlent : length ps < k + 2 → StringBreaks ps run k
  -- "22 for a string that holds a zero byte or passes the run"
  passes : length run < start_given ps k + length_given ps k → StringBreaks ps run k
  zero_byte : (j : ℕ) → j < length_given ps k → get_or run (start_given ps k + j) 0 ≡ 0 → StringBreaks ps run k

-- of what is lent to be written in a room, by number
pub data WritingBreaks (rs ps run : List ℕ) (room : ℕ) : ℕ → Type 0 where
  -- "3 for a count of 0 or above 1,024"
  none : count_given rs < 1 → WritingBreaks rs ps run room COUNT
  many : 1024 < count_given rs → WritingBreaks rs ps run room COUNT
  -- "23 for a misplaced or missing end"
  misplaced : (i : ℕ) → i < count_given rs → (record_given rs i).tag ≡ handover_end → (i + 1 ≡ count_given rs → ⊥) → WritingBreaks rs ps run room END
  missing : (i : ℕ) → i < count_given rs → ((record_given rs i).tag ≡ handover_end → ⊥) → i + 1 ≡ count_given rs → WritingBreaks rs ps run room END
  -- "no record's range passes 2^64"
  range : (i : ℕ) → i < count_given rs → 18446744073709551616 < (record_given rs i).start + (record_given rs i).size → WritingBreaks rs ps run room RANGE
  -- "Strings named by the agent, by a file's name and meta and by a command line's meta"
  agent : StringBreaks ps run agent_part → WritingBreaks rs ps run room STRING
  name : (i : ℕ) → i < count_given rs → names_name (record_given rs i).tag ≡ true → StringBreaks ps run (name_part i) → WritingBreaks rs ps run room STRING
  meta : (i : ℕ) → i < count_given rs → names_meta (record_given rs i).tag ≡ true → StringBreaks ps run (meta_part i) → WritingBreaks rs ps run room STRING
  -- the payload would end past the room
  past : room < payload_size (agent_given ps run) (entries_given rs ps run) → WritingBreaks rs ps run room ROOM

-- ---- which is given
-- "Writing tries 3, 23, 15, then 22 for a string that holds a zero byte or passes the run, then 18, each over all records before the next, all
-- at offset 0."
abbrev pub writing_order : List ℕ
writing_order = COUNT ∷ END ∷ RANGE ∷ STRING ∷ ROOM ∷ []

-- a refusal has the first number in that order whose condition is met, and offset 0
abbrev pub WritingRefuses : Type 0
WritingRefuses =
    (b rs ps run : List ℕ) (r : Refusal)
    → ((payload_written b rs ps run).0 ≡ Err r) ↔ (First writing_order (WritingBreaks rs ps run (room_of b)) (number_of (Err r)) × (value_of (Err r) ≡ 0))

-- where writing is refused, the buffer stays
abbrev pub RefusedKeeps : Type 0
RefusedKeeps = (b rs ps run : List ℕ) (r : Refusal) → (payload_written b rs ps run).0 ≡ Err r → (payload_written b rs ps run).1 ≡ b

-- where no condition is met, and nowhere else, the payload's size is answered
abbrev pub WritingSucceeds : Type 0
WritingSucceeds =
    (b rs ps run : List ℕ) (n : ℕ)
    → ((payload_written b rs ps run).0 ≡ Ok n) ↔ (NoneBreaks (WritingBreaks rs ps run (room_of b)) × (n ≡ payload_size (agent_given ps run) (entries_given rs ps run)))

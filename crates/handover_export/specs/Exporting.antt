-- What exporting answers, and every byte that the output then has.
-- A reader has to believe this file.
use Rattle.std.specs.Prelude.{ℕ, List, length, leb}
use Rattle.lent_buffers.specs.Room.{room_of}
use Rattle.refusals.specs.Refusals.{COUNT, RANGE, ROOM, unless}
use Rattle.refusals.specs.Answers.{Answer}
use Rattle.address_ranges.specs.Ranges.{range_fits}
use Rattle.ultra_format.specs.Contexts.{Context}
use Rattle.ultra_format.specs.Decoding.{context_of}
use Rattle.ultra_reading.specs.Reading.{used_length}
use Rattle.ultra_locating.specs.Passing.{if_accepted}
use Rattle.handover_writing.specs.Writing.{or_written}
use Rattle.export_list.specs.ExportList.{entries_of, platform_in, agent_of, export_size, export_entries}

-- "3 for more than 1,024 records; 15 if load address plus payload size, or a nonzero RSDP address plus 20, passes 2^64; 18": of the number of
-- records, the payload's size, the two addresses and a room. An RSDP address of 0 plus 20 passes nothing, so it needs no case.
unfoldable pub tests_of : ℕ → ℕ → ℕ → ℕ → ℕ → ℕ
tests_of count size load rsdp room =
    unless (leb count 1024) COUNT
    (unless (range_fits load size) RANGE
    (unless (range_fits rsdp 20) RANGE
    (unless (leb size room) ROOM
    0)))

-- of a context
abbrev pub export_check : Context → ℕ → ℕ → ℕ
export_check c load room = tests_of (length (entries_of 0 0 c.attributes)) (export_size c) load (platform_in c).rsdp room

abbrev pub context_exported : Context → ℕ → List ℕ → Answer × List ℕ
context_exported c load out = or_written (export_check c load (room_of out)) (agent_of c) (export_entries c load) out

-- of a buffer: "the Ultra reader's at its offset; then with offset 0, .."
unfoldable pub exported : List ℕ → ℕ → List ℕ → Answer × List ℕ
exported b load out = if_accepted (λ r. (r, out)) (context_exported (context_of b) load out) (used_length 2 b)

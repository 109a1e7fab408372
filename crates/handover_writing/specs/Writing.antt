-- What writing answers, and every byte that the buffer then has.
-- A reader has to believe this file.
use Rattle.std.specs.Prelude.{ℕ, zero, suc, List, Ok}
use Rattle.byte_layout.specs.Stored.{over}
use Rattle.lent_buffers.specs.Room.{room_of}
use Rattle.refusals.specs.Answers.{Answer, refused}
use Rattle.handover_format.specs.Payloads.{Entry}
use Rattle.handover_format.specs.WrittenForm.{payload_size, payload_bytes}
use Rattle.handover_arguments.specs.PayloadGiven.{agent_given, entries_given}
use Rattle.handover_arguments.specs.Judging.{write_check}

-- refused with the number, where it is not 0, and nothing is written; else the payload's size, its bytes over the front, and "bytes past the
-- size stay"
abbrev pub or_written : ℕ → List ℕ → List Entry → List ℕ → Answer × List ℕ
or_written zero agent es b = (Ok (payload_size agent es), over (payload_bytes agent es) b)
or_written (suc n) agent es b = (refused (suc n) 0, b)

-- "Read and write it in the same room."
unfoldable pub payload_written : List ℕ → List ℕ → List ℕ → List ℕ → Answer × List ℕ
payload_written b rs ps run = or_written (write_check rs ps run (room_of b)) (agent_given ps run) (entries_given rs ps run) b

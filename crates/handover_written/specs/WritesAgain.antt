-- What is read of a payload, written again. Proved in proofs/WritesAgain.antt: `writes_reading`, `writes_again`.
-- A reader has to believe this file.
use Rattle.std.specs.Prelude.{ℕ, zero, suc, ◌≤◌, ◌≡◌, List, [], ◌∷◌, ◌++◌, take, Ok}
use Rattle.byte_layout.specs.Fields.{cells, filled}
use Rattle.byte_layout.specs.Stored.{Bytes, over}
use Rattle.lent_buffers.specs.Room.{room_of}
use Rattle.handover_format.specs.Payloads.{Payload}
use Rattle.handover_format.specs.PayloadLayouts.{record_fields}
use Rattle.handover_format.specs.PayloadDecoding.{stored_count}
use Rattle.handover_format.specs.WrittenForm.{payload_size, payload_bytes}
use Rattle.handover_questions.specs.Questions.{agent_answer, record_answer}
use Rattle.handover_acceptance.specs.PayloadAcceptance.{HoldsPayload}
use Rattle.handover_writing.specs.Writing.{payload_written}

-- ---- what is read of d, lent to be written, with d itself as the run
-- the records by the words that are answered: of n records, from record i on
unfoldable pub records_from : List ℕ → ℕ → ℕ → List ℕ
records_from d i zero = []
records_from d i (suc n) = filled (cells (record_fields (record_answer d i).words)) ++ records_from d (suc i) n

abbrev pub records_read : List ℕ → List ℕ
records_read d = records_from d 0 (stored_count d)

-- the parts that the question about a record answers, its name's and its meta's: of n records, from record i on
unfoldable pub parts_from : List ℕ → ℕ → ℕ → List ℕ
parts_from d i zero = []
parts_from d i (suc n) =
    let a = record_answer d i in
    a.name.start ∷ a.name.length ∷ a.meta.start ∷ a.meta.length ∷ parts_from d (suc i) n

-- and before them the part that the question about the agent answers
abbrev pub parts_read : List ℕ → List ℕ
parts_read d = let a = agent_answer d in a.name.start ∷ a.name.length ∷ parts_from d 0 (stored_count d)

-- of any payload that d holds, shared strings or not, this writes the written form
abbrev pub WritesReading : Type 0
WritesReading =
    (d : List ℕ) (p : Payload) → HoldsPayload d p → (e : List ℕ) → payload_size p.agent_name p.entries ≤ room_of e
    → payload_written e (records_read d) (parts_read d) d ≡ (Ok (payload_size p.agent_name p.entries), over (payload_bytes p.agent_name p.entries) e)

-- a payload so written, read and written again from its reading, has the same bytes
abbrev pub WritesAgain : Type 0
WritesAgain =
    (b rs ps run : List ℕ) (n : ℕ) → Bytes rs → Bytes run → (payload_written b rs ps run).0 ≡ Ok n → (e : List ℕ) → n ≤ room_of e
    → let d = (payload_written b rs ps run).1 in payload_written e (records_read d) (parts_read d) d ≡ (Ok n, over (take n d) e)

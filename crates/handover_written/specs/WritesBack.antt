-- What is written reads back as it was given. Proved in proofs/WritesBack.antt: `writes_back`.
-- A reader has to believe this file.
use Rattle.std.specs.Prelude.{ℕ, ◌≤◌, ◌≡◌, List, length, get_or, Ok}
use Rattle.byte_layout.specs.Stored.{Bytes}
use Rattle.handover_format.specs.Payloads.{Payload}
use Rattle.handover_format.specs.WrittenForm.{payload}
use Rattle.handover_acceptance.specs.PayloadAcceptance.{HoldsPayload}
use Rattle.handover_demand_3.specs.PayloadDemand3.{ReadingIs}
use Rattle.handover_arguments.specs.PayloadGiven.{agent_given, entries_given}
use Rattle.handover_writing.specs.Writing.{payload_written}

-- the payload of what is lent
abbrev pub payload_given : List ℕ → List ℕ → List ℕ → Payload
payload_given rs ps run = payload (agent_given ps run) (entries_given rs ps run)

-- writing the payload p into b answered n and left d
pub record WrittenBack (b d : List ℕ) (p : Payload) (n : ℕ) : Type 0 where
  -- what is left is accepted, and its reading is that payload
  pub holds : HoldsPayload d p
  pub reads : ReadingIs d p
  pub answered : n ≡ p.size
  -- "bytes past the size stay"
  pub kept : length d ≡ length b
  pub stays : (i : ℕ) → n ≤ i → get_or d i 0 ≡ get_or b i 0

-- where writing succeeds, the buffer holds just the list given, and the value is its size
abbrev pub WritesBack : Type 0
WritesBack =
    (b rs ps run : List ℕ) (n : ℕ) → Bytes rs → Bytes run → (payload_written b rs ps run).0 ≡ Ok n
    → WrittenBack b (payload_written b rs ps run).1 (payload_given rs ps run) n

-- Statements on which demand 3 rests for payloads (it is stated whole in crate handover_demand_3): reading accepts exactly the payloads that meet
-- the rules, and of every buffer of bytes it says one or the other. Proved in proofs/PayloadAcceptance.antt.
-- A reader has to believe this file.
use Rattle.std.specs.Prelude.{ℕ, ◌≡◌, ◌↔◌, ◌⊎◌, List, Ok, Err}
use Rattle.byte_layout.specs.Stored.{Bytes}
use Rattle.lent_buffers.specs.Room.{room_of}
use Rattle.handover_format.specs.Payloads.{Payload}
use Rattle.handover_format.specs.PayloadLayouts.{Opens}
use Rattle.handover_format.specs.PayloadRules.{Meets}
use Rattle.refusals.specs.Answers.{number_of, value_of}
use Rattle.refusals.specs.declared.Refusal.{Refusal}
use Rattle.handover_reading.specs.PayloadReading.{reading_of}
use Rattle.handover_acceptance.specs.PayloadRefusals.{Refuses}

-- a payload that a buffer holds: it "meets the rules" with that buffer's room, "and its bytes open the buffer"
abbrev pub HoldsPayload : List ℕ → Payload → Type 0
HoldsPayload b p = Meets (room_of b) p × Opens b p

-- a used length is answered exactly when "some list meets the rules and its bytes open the buffer", and it is "the payload's size"
abbrev pub AcceptsExactly : Type 0
AcceptsExactly = (b : List ℕ) (n : ℕ) → Bytes b → (reading_of b ≡ Ok n) ↔ ((p : Payload) × HoldsPayload b p × (n ≡ p.size))

-- every buffer of bytes holds a payload, whose size is answered, or is refused as PayloadRefusals says, and never both
abbrev pub EveryReading : Type 0
EveryReading = (b : List ℕ) → Bytes b
    → ((p : Payload) × HoldsPayload b p × (reading_of b ≡ Ok p.size))
    ⊎ ((r : Refusal) × (reading_of b ≡ Err r) × Refuses b (number_of (Err r)) (value_of (Err r)) × ((p : Payload) → HoldsPayload b p → ⊥))

-- Silence in the request's words: "table bytes outside every named string and its closing zero, and all past the size, are silent". That
-- this is what the layout calls silent (`Silent`, PayloadLayouts) is proved in proofs/Silence.antt: `silent_plainly`.
-- A reader has to believe this file.
use Rattle.std.specs.Prelude.{ℕ, ◌+◌, ◌≤◌, ◌<◌, ◌↔◌, ◌⊎◌, List, length}
use Rattle.handover_format.specs.Payloads.{Payload, table, Named}
use Rattle.handover_format.specs.PayloadLayouts.{Silent}
use Rattle.handover_format.specs.PayloadRules.{Meets}

-- byte i is after the records, and before each named string or after its closing zero
abbrev pub Outside : Payload → ℕ → Type 0
Outside p i = (table p ≤ i) × ((o : ℕ) (l : List ℕ) → Named p o l → (i < table p + o) ⊎ (table p + o + length l < i))

-- no named string reaches past the size, so all past it is outside
abbrev pub SilentPlainly : Type 0
SilentPlainly = (room : ℕ) (p : Payload) → Meets room p → (i : ℕ) → (Silent p i ↔ Outside p i) × (p.size ≤ i → Silent p i)

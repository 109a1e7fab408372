-- "agent string first, then each record's strings in order, none shared, no padding", said of a payload's table and not of how it is made. Proved
-- in proofs/InTurn.antt: `in_turn_law`, `no_padding`.
-- A reader has to believe this file.
use Rattle.std.specs.Prelude.{ℕ, ◌+◌, ◌<◌, ◌≡◌, List, [], ◌∷◌, ◌++◌, length}
use Rattle.handover_format.specs.Payloads.{names_name, names_meta, Entry, Payload, table_length}
use Rattle.handover_format.specs.PayloadLayouts.{Silent}
use Rattle.handover_format.specs.PayloadRules.{Meets}
use Rattle.handover_format.specs.PayloadDecoding.{pick}
use Rattle.handover_format.specs.WrittenForm.{payload_size, payload}

-- a string of the table: its offset, and its bytes without the closing zero
pub record Place : Type 0 where
  pub offset : ℕ
  pub string : List ℕ

-- the strings that a record names: its name, then its meta
abbrev pub named_by : Entry → List Place
named_by e =
    pick (names_name e.words.tag) (record { offset = e.words.name; string = e.name } ∷ []) []
    ++ pick (names_meta e.words.tag) (record { offset = e.words.meta; string = e.meta } ∷ []) []

unfoldable pub named_by_each : List Entry → List Place
named_by_each [] = []
named_by_each (e ∷ es) = named_by e ++ named_by_each es

-- those of a payload
abbrev pub named_in_order : Payload → List Place
named_in_order p = record { offset = p.agent; string = p.agent_name } ∷ named_by_each p.entries

-- strings fill a table from the offset o up to n: each starts where the one before it closed, and the last closes at n
unfoldable pub FillInTurn : ℕ → List Place → ℕ → Type 0
FillInTurn o [] n = o ≡ n
FillInTurn o (s ∷ ss) n = (s.offset ≡ o) × FillInTurn (o + length s.string + 1) ss n

-- "agent string first, then each record's strings in order, none shared, no padding"
abbrev pub InTurn : Type 0
InTurn = (agent : List ℕ) (es : List Entry) → FillInTurn 0 (named_in_order (payload agent es)) (table_length (payload agent es))

-- so no byte below the size is silent
abbrev pub NoPadding : Type 0
NoPadding =
    (agent : List ℕ) (es : List Entry) (room : ℕ) → Meets room (payload agent es) → (i : ℕ) → i < payload_size agent es → Silent (payload agent es) i → ⊥

-- Which refusal exporting gives, exactly, and what it then leaves. Each condition is asked by itself, whatever else is broken; which of several
-- is given is said after them. Proved in proofs/ExportRefusals.antt: `export_refuses`, `export_succeeds`, `reading_first`, `export_keeps`.
-- A reader has to believe this file.
use Rattle.std.specs.Prelude.{ℕ, ◌+◌, ◌<◌, ◌≡◌, ◌↔◌, List, [], ◌∷◌, Ok, Err}
use Rattle.lent_buffers.specs.Room.{room_of}
use Rattle.refusals.specs.Refusals.{COUNT, RANGE, ROOM}
use Rattle.refusals.specs.Answers.{number_of, value_of}
use Rattle.refusals.specs.Order.{First, NoneBreaks}
use Rattle.refusals.specs.declared.Refusal.{Refusal}
use Rattle.ultra_format.specs.Contexts.{Platform, Body.platform, Context, body_at}
use Rattle.ultra_reading.specs.Reading.{used_length}
use Rattle.ultra_acceptance.specs.Acceptance.{HoldsContext}
use Rattle.handover_format.specs.Payloads.{count}
use Rattle.export_list.specs.ExportList.{export_list}
use Rattle.handover_export.specs.Exporting.{exported}

-- ---- the conditions, by number: of a context, a load address and a room
pub data ExportBreaks (c : Context) (load room : ℕ) : ℕ → Type 0 where
  -- "3 for more than 1,024 records"
  many : 1024 < count (export_list c load) → ExportBreaks c load room COUNT
  -- "15 if load address plus payload size, or a nonzero RSDP address plus 20, passes 2^64"
  own : 18446744073709551616 < load + (export_list c load).size → ExportBreaks c load room RANGE
  pointer : (p : Platform) → body_at c 0 ≡ platform p → (p.rsdp ≡ 0 → ⊥) → 18446744073709551616 < p.rsdp + 20 → ExportBreaks c load room RANGE
  -- "a lent output is too short" (01)
  past : room < (export_list c load).size → ExportBreaks c load room ROOM

-- ---- which is given
-- "then with offset 0, 3 ..; 15 ..; 18"
abbrev pub export_order : List ℕ
export_order = COUNT ∷ RANGE ∷ ROOM ∷ []

-- of a buffer that holds the context, a refusal has the first number in that order whose condition is met, and offset 0
abbrev pub ExportRefuses : Type 0
ExportRefuses =
    (b : List ℕ) (c : Context) (load : ℕ) (out : List ℕ) (r : Refusal) → HoldsContext 2 b c
    → ((exported b load out).0 ≡ Err r) ↔ (First export_order (ExportBreaks c load (room_of out)) (number_of (Err r)) × (value_of (Err r) ≡ 0))

-- where no condition is met, and nowhere else, the payload's size is answered
abbrev pub ExportSucceeds : Type 0
ExportSucceeds =
    (b : List ℕ) (c : Context) (load : ℕ) (out : List ℕ) (n : ℕ) → HoldsContext 2 b c
    → ((exported b load out).0 ≡ Ok n) ↔ (NoneBreaks (ExportBreaks c load (room_of out)) × (n ≡ (export_list c load).size))

-- "Refusals, in order: the Ultra reader's at its offset"
abbrev pub ReadingFirst : Type 0
ReadingFirst = (b : List ℕ) (load : ℕ) (out : List ℕ) (r : Refusal) → used_length 2 b ≡ Err r → exported b load out ≡ (Err r, out)

-- where exporting is refused, the output stays
abbrev pub ExportKeeps : Type 0
ExportKeeps = (b : List ℕ) (load : ℕ) (out : List ℕ) (r : Refusal) → (exported b load out).0 ≡ Err r → (exported b load out).1 ≡ out

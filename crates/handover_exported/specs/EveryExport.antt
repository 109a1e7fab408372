-- Of every buffer of bytes, load address and output, one of three: the reader's refusal is passed on; a refusal of exporting's own is given under its
-- condition; or the payload is made, and reads as the list of the context. Proved in proofs/EveryExport.antt: `every_export`.
-- A reader has to believe this file.
use Rattle.std.specs.Prelude.{ℕ, ◌≡◌, List, Ok, Err}
use Rattle.byte_layout.specs.Stored.{Bytes}
use Rattle.lent_buffers.specs.Room.{room_of}
use Rattle.refusals.specs.Answers.{number_of, value_of}
use Rattle.refusals.specs.Order.{First}
use Rattle.refusals.specs.declared.Refusal.{Refusal}
use Rattle.ultra_format.specs.Contexts.{Context}
use Rattle.ultra_reading.specs.Reading.{used_length}
use Rattle.ultra_acceptance.specs.Acceptance.{HoldsContext}
use Rattle.handover_written.specs.WritesBack.{WrittenBack}
use Rattle.export_list.specs.ExportList.{export_list}
use Rattle.handover_export.specs.Exporting.{exported}
use Rattle.handover_exported.specs.ExportRefusals.{ExportBreaks, export_order}

pub data Outcome (b : List ℕ) (load : ℕ) (out : List ℕ) : Type 0 where
  unread : (r : Refusal) → used_length 2 b ≡ Err r → exported b load out ≡ (Err r, out) → Outcome b load out
  refused : (c : Context) (r : Refusal) → HoldsContext 2 b c → exported b load out ≡ (Err r, out) → First export_order (ExportBreaks c load (room_of out)) (number_of (Err r))
      → value_of (Err r) ≡ 0 → Outcome b load out
  made : (c : Context) (n : ℕ) (d : List ℕ) → HoldsContext 2 b c → exported b load out ≡ (Ok n, d) → WrittenBack out d (export_list c load) n → Outcome b load out

abbrev pub EveryExport : Type 0
EveryExport = (b : List ℕ) (load : ℕ) (out : List ℕ) → Bytes b → Outcome b load out

-- Every export ends in one of the three ways: by the statements on reading, on refusals and on success.
use Rattle.std.specs.Prelude.{Ok, Err}
use Prim.Native.Nat.{ℕ}
use mathlib.Core.Path.{◌≡◌, refl}
use mathlib.Core.List.{List}
use Rattle.byte_layout.specs.Stored.{Bytes}
use Rattle.refusals.specs.Answers.{Answer}
use Rattle.ultra_format.specs.Contexts.{Context}
use Rattle.ultra_reading.specs.Reading.{used_length}
use Rattle.ultra_acceptance.specs.Acceptance.{HoldsContext}
use Rattle.ultra_acceptance.proofs.Acceptance.{accepts_exactly}
use Rattle.handover_export.specs.Exporting.{exported}
use Rattle.handover_exported.specs.EveryExport.{Outcome, Outcome.unread, Outcome.refused, Outcome.made, EveryExport}
use Rattle.handover_exported.proofs.ExportRefusals.{export_refuses, reading_first, export_keeps}
use Rattle.handover_exported.proofs.Exports.{exports}

module _ (b : List ℕ) (load : ℕ) (out : List ℕ) where
  -- of a context that the buffer holds, by the answer
  held : (c : Context) → HoldsContext 2 b c → (a : Answer) → (exported b load out).0 ≡ a → Outcome b load out
  held c h (Err r) e =
      let f = (export_refuses b c load out r h).0 e in
      let k = export_keeps b load out r e in
      refused c r h (λ j. (e j, k j)) f.0 f.1
  held c h (Ok n) e = made c n (exported b load out).1 h (λ j. (e j, (exported b load out).1)) (exports b c load out n h e)

  by_reading : Bytes b → (a : Answer) → used_length 2 b ≡ a → Outcome b load out
  by_reading y (Err r) e = unread r e (reading_first b load out r e)
  by_reading y (Ok n) e = let s = (accepts_exactly 2 b n y).0 e in held s.0 s.1 (exported b load out).0 refl

pub every_export : EveryExport
every_export b load out y = by_reading b load out y (used_length 2 b) refl

-- What exporting promises: it goes by the context that the buffer holds, and where it succeeds, the payload is that list. Proved in
-- proofs/Exports.antt: `by_list`, `exports`.
-- A reader has to believe this file.
use Rattle.std.specs.Prelude.{ℕ, ◌≡◌, List, Ok}
use Rattle.ultra_format.specs.Contexts.{Context}
use Rattle.ultra_acceptance.specs.Acceptance.{HoldsContext}
use Rattle.handover_written.specs.WritesBack.{WrittenBack}
use Rattle.export_list.specs.ExportList.{export_list}
use Rattle.handover_export.specs.Exporting.{context_exported, exported}

-- the answer and every byte of the output are those of the list alone: no silent byte of the buffer changes them
abbrev pub ByList : Type 0
ByList = (b : List ℕ) (c : Context) (load : ℕ) (out : List ℕ) → HoldsContext 2 b c → exported b load out ≡ context_exported c load out

-- "A payload so made is accepted by R-2's reader and reads as this list; success answers its size." Past its size every byte stays
abbrev pub Exports : Type 0
Exports =
    (b : List ℕ) (c : Context) (load : ℕ) (out : List ℕ) (n : ℕ) → HoldsContext 2 b c → (exported b load out).0 ≡ Ok n
    → WrittenBack out (exported b load out).1 (export_list c load) n

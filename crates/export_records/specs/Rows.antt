-- Records stored one after the other, each at the place that those before it leave.
-- Serves the library's own functions and proofs: no published contract or promise rests on it.
use Rattle.std.specs.Prelude.{ℕ, ◌+◌, ◌≤◌, List, length}
use Rattle.handover_format.specs.Payloads.{Entry, record_start}
use Rattle.handover_format.specs.WrittenForm.{strings, rows_bytes}
use Rattle.handover_writing.specs.Stores.{put}
use Rattle.export_sizes.specs.Extents.{grown}
use Rattle.export_sizes.specs.declared.Extent.{Extent}

-- the output, and how far the records in it and their strings reach
abbrev pub State : Type 0
State = List ℕ × Extent

-- the records es after them
unfoldable pub rows_put : State → List Entry → State
rows_put s es = (put s.0 (record_start s.1.count) (rows_bytes s.1.width es), grown s.1 es)

-- the output has the place for them, and their strings' offsets are of 32 bits
pub record RowsFit (out : List ℕ) (m : Extent) (es : List Entry) : Type 0 where
  pub room : record_start (m.count + length es) ≤ length out
  pub strings : m.width + length (strings es) ≤ 65536

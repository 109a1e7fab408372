-- Laws of what writing leaves and answers: a refusal keeps the bytes; else head, records and table are stored one after the other.
use Rattle.std.specs.Prelude.{Ok}
use Prim.Native.Nat.{ℕ, zero, suc, ◌≤◌}
use mathlib.Core.Path.{◌≡◌, refl, sym, ap, ◌∙◌}
use mathlib.Core.List.{List, ◌++◌}
use native.Mathlib.Omega.{arith}
use lib.ListN.{length, length-append}
use Rattle.words.specs.Words.{replaced}
use Rattle.byte_layout.specs.Fields.{cells, width, filled}
use Rattle.byte_layout.specs.Stored.{over, closed}
use Rattle.byte_layout.proofs.Cells.{length_filled}
use Rattle.byte_layout.proofs.FieldLaws.{length_cells}
use Rattle.byte_layout.proofs.Runs.{front_over}
use Rattle.lent_buffers.specs.Room.{room_of}
use Rattle.refusals.specs.Answers.{refused}
use Rattle.handover_format.specs.Payloads.{Entry, record_start}
use Rattle.handover_format.specs.WrittenForm.{strings, rows_bytes, payload_size, payload_bytes}
use Rattle.handover_format.proofs.WrittenLaws.{length_rows, front_bytes}
use Rattle.handover_arguments.specs.PayloadGiven.{agent_given, entries_given}
use Rattle.handover_arguments.specs.Judging.{write_check}
use Rattle.handover_writing.specs.Stores.{put, head_fields}
use Rattle.handover_writing.specs.Writing.{or_written, payload_written}
use Rattle.handover_writing.proofs.StoreLaws.{stored, put_then}

-- ---- the answer, with the bytes
pub or_kept : (n : ℕ) (agent : List ℕ) (es : List Entry) (b : List ℕ) → (n ≡ 0 → ⊥) → (refused n 0, b) ≡ or_written n agent es b
or_kept zero agent es b h = absurd (h refl)
or_kept (suc n) agent es b h = refl

module _ (b rs ps run : List ℕ) where
  pub write_refused : (n : ℕ) → n ≡ write_check rs ps run (room_of b) → (n ≡ 0 → ⊥) → (refused n 0, b) ≡ payload_written b rs ps run
  unfolding payload_written
  write_refused n e h =
      let agent = agent_given ps run in
      let es = entries_given rs ps run in
      or_kept n agent es b h ∙ ap (λ (k : ℕ). or_written k agent es b) e

  pub write_done : (q : List ℕ) (n size : ℕ) → n ≡ write_check rs ps run (room_of b) → n ≡ 0 → size ≡ payload_size (agent_given ps run) (entries_given rs ps run)
      → q ≡ over (payload_bytes (agent_given ps run) (entries_given rs ps run)) b → (Ok size, q) ≡ payload_written b rs ps run
  unfolding payload_written
  write_done q n size e z f g =
      let agent = agent_given ps run in
      let es = entries_given rs ps run in
      (λ j. (Ok (f j), g j)) ∙ ap (λ (k : ℕ). or_written k agent es b) (sym z ∙ e)

-- ---- the parts, one after the other
length_head : (size count : ℕ) → length (filled (cells (head_fields size count))) ≡ 16
unfolding width
length_head size count = length_filled (cells (head_fields size count)) ∙ length_cells (head_fields size count)

pub assembled : (e q r s agent : List ℕ) (es : List Entry) (n size : ℕ) → n ≡ length es → size ≡ payload_size agent es → payload_size agent es ≤ length e
    → q ≡ replaced e 0 16 (filled (cells (head_fields size n)))
    → r ≡ put q 16 (rows_bytes (length (closed agent)) es)
    → s ≡ put r (record_start n) (closed agent ++ strings es)
    → s ≡ over (payload_bytes agent es) e
unfolding put
assembled e q r s agent es n size p z h a b c =
    let head = filled (cells (head_fields size n)) in
    let rows = rows_bytes (length (closed agent)) es in
    let table = closed agent ++ strings es in
    let k : length (head ++ rows) ≡ record_start n = omega (arith, length-append head rows, length_head size n, length_rows (length (closed agent)) es) in
    let f : q ≡ put e 0 head = stored e q head 0 16 (length_head size n) a in
    let g : r ≡ put e 0 (head ++ rows) = put_then e q r head rows 0 16 (omega (arith, length_head size n)) (omega arith) f b in
    let t : s ≡ put e 0 ((head ++ rows) ++ table) = put_then e r s (head ++ rows) table 0 (record_start n) (omega arith) (omega arith) g c in
    let front = (λ j. filled (cells (head_fields (z j) (p j))) ++ rows) ∙ sym (front_bytes agent es) in
    t ∙ front_over e ((head ++ rows) ++ table) (length ((head ++ rows) ++ table)) refl ∙ ap (λ (l : List ℕ). over (l ++ table) e) front

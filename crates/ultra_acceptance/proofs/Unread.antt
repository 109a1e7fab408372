-- Proofs of the statements in specs/Unread.antt.
use Prim.Native.Nat.{ℕ, ◌+◌, ◌%◌, ◌≤◌, ◌<◌}
use mathlib.Core.Path.{◌≡◌, refl, sym, ap, ◌∙◌}
use mathlib.Core.Bool.{◌&&◌}
use mathlib.Core.List.{List}
use native.Mathlib.Omega.{arith}
use lib.ListN.{take, length-take}
use lib.Seq.{get_or-take}
use lib.Dec.{leb, eqb}
use Rattle.byte_layout.specs.Fields.{cells, width}
use Rattle.byte_layout.proofs.FieldLaws.{length_cells}
use Rattle.lent_buffers.specs.Room.{room_of}
use Rattle.ultra_format.specs.Layouts.{body_fields, attribute_fields}
use Rattle.ultra_format.specs.Decoding.{pick, start, stored_type, stored_size, stored_count, stored_attribute, context_of}
use Rattle.ultra_format.proofs.Attributes.{width_attribute}
use Rattle.refusals.proofs.Chains.{passed}
use Rattle.ultra_reading.specs.Reading.{Clear}
use Rattle.ultra_stepping.specs.Stepping.{cursor_check, step_of}
use Rattle.ultra_stepping.specs.declared.cursor.Cursor.{Cursor}
use Rattle.ultra_stepping.proofs.HeadLaws.{head_holds}
use Rattle.ultra_stepping.proofs.BoundsLaws.{bounds_hold}
use Rattle.ultra_acceptance.specs.Unread.{ReadAlike, PastRoomUnread, SameByte, SameButSilent, SilentUnread, SameButSilentInList, SilentInListUnread}
use Rattle.byte_layout.proofs.SameFields.{same_along}
use Rattle.ultra_acceptance.proofs.SilentCells.{past, silent_body}
use Rattle.ultra_acceptance.proofs.ContextCells.{header_not_silent, head_not_silent, context_cells}
use Rattle.ultra_acceptance.proofs.Alike.{step_alike, kind_alike, size_alike, bounds_alike, SameBody, SameRead, count_alike, head_alike, read_alike}

-- ---- silent bytes, by 01's digits
module _ (b d : List ℕ) (s : SameButSilent b d) where
  same_body : (j : ℕ) → j < stored_count b → Clear b (room_of b) j → SameBody b d (start b j)
  unfolding width
  same_body j l c k q =
      let o = start b j in
      let x = (stored_attribute b j).body in
      let w = width_attribute (stored_size b j) x k.least k.eights q in
      let n = length_cells (body_fields (stored_size b j) x) in
      same_along b d (o + 8) (cells (body_fields (stored_size b j) x)) (λ i g u.
      let p : o + 8 + i ≡ o + (8 + i) = omega arith in
      rw p (s.body j l c (8 + i) (omega arith) (omega arith) (λ y. u (silent_body b o (stored_size b j) (stored_type b j) i (omega arith) y)) (omega arith)))

  same_read : SameRead b d
  same_read = record { room = s.room; head = s.head; header = s.header; body = same_body }

pub silent_unread : SilentUnread
silent_unread b d s = read_alike b d (same_read b d s)

-- ---- silent bytes, by the list
module _ (b d : List ℕ) (s : SameButSilentInList b d) where
  same_header_in : (j : ℕ) → j < stored_count b → Clear b (room_of b) j → (k : ℕ) → k < 8 → SameByte b d (start b j + k)
  unfolding width
  same_header_in j l c k g = s.1 (start b j + k) (λ y. header_not_silent (stored_attribute b j) k g (sym (context_cells b j l c k (omega arith)) ∙ y))

  same_body_in : (j : ℕ) → j < stored_count b → Clear b (room_of b) j → SameBody b d (start b j)
  unfolding width
  same_body_in j l c k q =
      let o = start b j in
      let a = stored_attribute b j in
      let w = width_attribute a.size a.body k.least k.eights q in
      let n = length_cells (body_fields a.size a.body) in
      same_along b d (o + 8) (cells (body_fields a.size a.body)) (λ i g u.
      let p : o + 8 + i ≡ o + (8 + i) = omega arith in
      rw p (s.1 (o + (8 + i)) (λ y. u (sym (context_cells b j l c (8 + i) (omega arith) ∙ past 2 (attribute_fields a) (8 + i) i refl) ∙ y)) (omega arith)))

  same_in_list_law : SameRead b d
  same_in_list_law = record { room = s.0; head = λ i l m n. s.1 i (head_not_silent (context_of b) i l m n); header = same_header_in; body = same_body_in }

pub silent_in_list_unread : SilentInListUnread
silent_in_list_unread b d s = read_alike b d (same_in_list_law b d s)

-- ---- past byte 65,536
module _ (b d : List ℕ) (r : room_of d ≡ room_of b) (h : (i : ℕ) → SameByte b d i) where
  all_alike : SameRead b d
  all_alike = same_read b d (record { room = r; head = λ i l m n. h i; header = λ j l c k g. h (start b j + k); body = λ j l c k g m n. h (start b j + k) })

  cursor_alike : (o : ℕ) → cursor_check d o ≡ cursor_check b o
  unfolding cursor_check
  cursor_alike o = rw (r, bounds_alike b d o (λ k l. h (o + k)))

  steps_alike : (k : Cursor) → step_of d k ≡ step_of b k
  unfolding step_of cursor_check
  steps_alike k =
      let o = k.offset in
      step_alike _ _ 0 _ _ (head_alike b d all_alike 2) (λ z.
      rw (count_alike b d all_alike (head_holds 2 b z).room)
      (ap (pick (leb (stored_count b) k.index) _) (step_alike _ _ o _ _ (cursor_alike o) (λ y.
      let g = (bounds_hold b (room_of b) o (passed (leb 8 o && eqb (o % 8) 0) 4 _ y).1).header in
      rw (kind_alike b d o (λ k l. h (o + k)) g, size_alike b d o (λ k l. h (o + k)) g)))))

-- a buffer cut at n, from the most that a room has on
cut : (n : ℕ) (b : List ℕ) → 65536 ≤ n → ReadAlike b (take n b) × ((k : Cursor) → step_of (take n b) k ≡ step_of b k)
cut n b l =
    let r : room_of (take n b) ≡ room_of b = rw (length-take n b) (omega arith) in
    let h : (i : ℕ) → SameByte b (take n b) i = λ i m. get_or-take n b i 0 (omega arith) in
    (read_alike b (take n b) (all_alike b (take n b) r h), steps_alike b (take n b) r h)

pub past_room_unread : PastRoomUnread
past_room_unread b = cut 65536 b (omega arith)

-- A byte is silent just where it is after the records and outside every named string and its closing zero.
use Prim.Native.Nat.{ℕ, zero, suc, ◌+◌, ◌-◌, ◌≤◌, ◌<◌}
use mathlib.Core.Path.{◌≡◌, refl, sym}
use mathlib.Core.Logic.{◌⊎◌, inl, inr, ⊎_elim}
use mathlib.Core.Bool.{Bool, true, false}
use mathlib.Core.List.{List, [], ◌∷◌, ◌++◌}
use native.Mathlib.Omega.{arith}
use native.Mathlib.Nat.{not-suc-le-zero, le_of_suc-le-suc, zero-add}
use lib.ListN.{length}
use lib.Dec.{leb, ltb}
use borrow.Author.Tests.{leb-true, leb-false, ltb-true, ltb-false}
use Rattle.words.specs.Words.{little_endian}
use Rattle.byte_layout.specs.Fields.{Cell, Field, Field.number, bytes, cells, SilentAt}
use Rattle.byte_layout.proofs.Cells.{not_silent}
use Rattle.byte_layout.proofs.FieldLaws.{length_cells}
use Rattle.byte_layout.proofs.PlacedLaws.{text_said_at, text_silent_at}
use Rattle.handover_format.specs.Payloads.{Entry, Payload, count, table, table_length, Named}
use Rattle.handover_format.specs.PayloadLayouts.{magic, entries_fields, front_fields, RowOf.front, RowOf.string, Silent}
use Rattle.handover_format.specs.PayloadRules.{Meets}
use Rattle.handover_format.specs.Silence.{Outside, SilentPlainly}
use Rattle.handover_format.proofs.PayloadRows.{width_front}

-- ---- cells of which none is silent
abbrev pub Loud : List Cell → Type 0
Loud cs = (i : ℕ) → i < length cs → SilentAt cs i → ⊥

loud_bytes : (l : List ℕ) → Loud (bytes l)
loud_bytes [] i h e = absurd (not-suc-le-zero h)
loud_bytes (x ∷ l) zero h e = not_silent x (sym e)
loud_bytes (x ∷ l) (suc i) h e = loud_bytes l i (le_of_suc-le-suc h) e

loud_append : (xs ys : List Cell) → Loud xs → Loud ys → Loud (xs ++ ys)
loud_append [] ys f g i h e = g i h e
loud_append (x ∷ xs) ys f g zero h e = f 0 (omega arith) e
loud_append (x ∷ xs) ys f g (suc i) h e = loud_append xs ys (λ j l q. f (suc j) (omega arith) q) g i (le_of_suc-le-suc h) e

loud_number : (k n : ℕ) (fs : List Field) → Loud (cells fs) → Loud (cells (number k n ∷ fs))
unfolding cells
loud_number k n fs r = loud_append (bytes (little_endian k n)) (cells fs) (loud_bytes (little_endian k n)) r

loud_none : Loud (cells [])
unfolding cells
loud_none i h e = absurd (not-suc-le-zero h)

loud_entries : (es : List Entry) → Loud (cells (entries_fields es))
unfolding entries_fields
loud_entries [] = loud_none
loud_entries (e ∷ es) =
    let r = e.words in
    loud_number 4 r.tag _ (loud_number 4 r.flags _ (loud_number 8 r.start _ (loud_number 8 r.size _ (loud_number 4 r.name _ (loud_number 4 r.meta _ (loud_entries es))))))

pub loud_front : (p : Payload) → Loud (cells (front_fields p))
loud_front p = loud_number 4 magic _ (loud_number 4 p.agent _ (loud_number 4 p.size _ (loud_number 4 (count p) _ (loud_entries p.entries))))

-- ---- past the cells
past_cells : (cs : List Cell) (i : ℕ) → length cs ≤ i → SilentAt cs i
past_cells [] i h = refl
past_cells (c ∷ cs) zero h = absurd (not-suc-le-zero h)
past_cells (c ∷ cs) (suc i) h = past_cells cs i (le_of_suc-le-suc h)

-- ---- both ways
module _ (room : ℕ) (p : Payload) (m : Meets room p) (i : ℕ) where
  after_records : Silent p i → (t : Bool) → leb (table p) i ≡ t → table p ≤ i
  after_records s true e = leb-true (table p) i e
  after_records s false e =
      absurd (loud_front p i (omega (arith, leb-false (table p) i e, length_cells (front_fields p), width_front p)) (s 0 i (front_fields p) front (sym (zero-add i))))

  beside : Silent p i → (o : ℕ) (l : List ℕ) → Named p o l → (t u : Bool) → ltb i (table p + o) ≡ t → ltb (table p + o + length l) i ≡ u → (i < table p + o) ⊎ (table p + o + length l < i)
  beside s o l h true u e f = inl (ltb-true i (table p + o) e)
  beside s o l h false true e f = inr (ltb-true (table p + o + length l) i f)
  beside s o l h false false e f =
      let g = ltb-false i (table p + o) e in
      let k = ltb-false (table p + o + length l) i f in
      absurd (text_said_at (table_length p - o) l (i - (table p + o)) (omega (arith, (m.strings o l h).closes)) (omega arith) (s (table p + o) (i - (table p + o)) _ (string o l h) (omega arith)))

  outside : Silent p i → Outside p i
  outside s = (after_records s (leb (table p) i) refl, λ o l h. beside s o l h (ltb i (table p + o)) (ltb (table p + o + length l) i) refl refl)

  silent_row : Outside p i → Silent p i
  silent_row out o k fs front e = past_cells (cells fs) k (omega (arith, out.0, length_cells fs, width_front p))
  silent_row out o k fs (string q l h) e = ⊎_elim (λ a. absurd (omega arith)) (λ a. text_silent_at (table_length p - q) l k (omega arith)) (out.1 q l h)

  -- every named string and its closing zero end by the size
  past_size_law : p.size ≤ i → Outside p i
  past_size_law h = (omega (arith, m.least), λ o l g. inr (omega (arith, m.least, (m.strings o l g).closes)))

pub silent_plainly : SilentPlainly
silent_plainly room p m i = ((outside room p m i, silent_row room p m i), λ h. silent_row room p m i (past_size_law room p m i h))

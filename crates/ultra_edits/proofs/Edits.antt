-- A buffer that holds a context holds the edited one after the edit, wherever that meets the rules.
use Prim.Native.Nat.{ℕ, ◌+◌, ◌-◌, ◌%◌, ◌^◌, ◌≤◌, ◌<◌}
use mathlib.Core.Path.{◌≡◌, refl, sym, ap, ap₂, ◌∙◌, subst}
use mathlib.Core.Logic.{◌⊎◌, ◌⊎◌.inl, ◌⊎◌.inr, ⊎_elim}
use mathlib.Core.List.{List, ◌∷◌, ◌++◌, append_assoc}
use native.Mathlib.Omega.{arith}
use lib.ListN.{length, get_or, take, drop, take-append-drop}
use lib.Seq.{drop-drop}
use Rattle.words.specs.Words.{little_endian}
use Rattle.byte_layout.specs.Fields.{Cell, bytes, cells, filled, width, Fits}
use Rattle.byte_layout.proofs.Cells.{At, at_moved, along, opens_at, at_opens, at_front, at_append, filled_opens, length_filled}
use Rattle.byte_layout.proofs.FieldLaws.{length_cells, fits_front, fits_append}
use Rattle.byte_layout.proofs.Written.{filled_append}
use Rattle.ultra_format.specs.Contexts.{Attribute, Context, count, total, start_in, used}
use Rattle.ultra_format.specs.Layouts.{attribute_fields, attributes_fields, layout, Opens, written}
use Rattle.ultra_format.proofs.Attributes.{at, Sized, sized, width_layout}
use Rattle.ultra_format.proofs.Rows.{total_append, fields_append, row_append, length_row}
use Rattle.ultra_edits.specs.Splicing.{spliced, counting}
use Rattle.ultra_edits.specs.Edits.{edited, old_size, row_written, edited_bytes, EditHolds}
use Rattle.ultra_edits.proofs.Splices.{spliced_parts, length_spliced, spliced_before, spliced_new, spliced_after, spliced_past, length_counting, counting_version, counting_count, counting_after}
use Rattle.ultra_edits.proofs.Lists.{All, all_append, all_front, gathered, at_each}

-- ---- the edited list: what is before the old attributes, these, and what is after them
abbrev pub front : Context → ℕ → List Attribute
front c i = take i c.attributes

abbrev old : Context → (i k : ℕ) → List Attribute
old c i k = take k (drop i c.attributes)

abbrev pub rest : Context → (i k : ℕ) → List Attribute
rest c i k = drop (i + k) c.attributes

module _ (c : Context) (i k : ℕ) where
  parts : c.attributes ≡ front c i ++ (old c i k ++ rest c i k)
  parts =
      sym (take-append-drop i c.attributes)
      ∙ ap (λ (m : List Attribute). front c i ++ m)
      (sym (take-append-drop k (drop i c.attributes)) ∙ ap (λ (m : List Attribute). old c i k ++ m) (drop-drop k i c.attributes))

  old_total : total c.attributes ≡ total (front c i) + (old_size c i k + total (rest c i k))
  old_total =
      ap total parts ∙ total_append (front c i) (old c i k ++ rest c i k)
      ∙ ap (λ (n : ℕ). total (front c i) + n) (total_append (old c i k) (rest c i k))

  rest_total : used c - (start_in c.attributes i + old_size c i k) ≡ total (rest c i k)
  rest_total = omega (arith, old_total)

  -- what holds of all holds of the parts
  apart : (P : Attribute → Type 0) → ((j : ℕ) → j < count c → P (at c.attributes j))
      → All P (front c i) × All P (old c i k) × All P (rest c i k)
  apart P h =
      let q = all_front P (front c i) (old c i k ++ rest c i k) (subst (All P) parts (gathered P _ c.attributes h)) in
      let r = all_front P (old c i k) (rest c i k) q.1 in
      (q.0, r.0, r.1)

  module _ (new : List Attribute) where
    new_total : total (edited c i k new).attributes ≡ total (front c i) + (total new + total (rest c i k))
    new_total = total_append (front c i) (new ++ rest c i k) ∙ ap (λ (n : ℕ). total (front c i) + n) (total_append new (rest c i k))

    pub used_edited : used (edited c i k new) + old_size c i k ≡ used c + total new
    used_edited = omega (arith, old_total, new_total)

    -- what holds of all and of all that is new holds of the edited list
    pub kept : (P : Attribute → Type 0) → ((j : ℕ) → j < count c → P (at c.attributes j)) → All P new
        → (j : ℕ) → j < count (edited c i k new) → P (at (edited c i k new).attributes j)
    kept P h n =
        let q = apart P h in
        at_each P _ (front c i ++ (new ++ rest c i k))
        (all_append P (front c i) (new ++ rest c i k) q.0 (all_append P new (rest c i k) n q.2))

    pub fits_edited : Fits (layout c) → Fits (attributes_fields new) → count (edited c i k new) ≤ 1024 → Fits (layout (edited c i k new))
    unfolding Fits
    fits_edited f n m =
        let u = attributes_fields (front c i) in
        let v = attributes_fields (old c i k) in
        let y = attributes_fields (rest c i k) in
        let o : Fits (u ++ (v ++ y)) =
        subst Fits (ap attributes_fields parts ∙ fields_append (front c i) (old c i k ++ rest c i k)
        ∙ ap (λ fs. u ++ fs) (fields_append (old c i k) (rest c i k))) f.1.1.1.1 in
        let g = fits_front u (v ++ y) o in
        let r = fits_front v y g.1 in
        let q : count (edited c i k new) < 256 ^ 4 = omega arith in
        let t : Fits (attributes_fields (front c i ++ (new ++ rest c i k))) =
        rw (fields_append (front c i) (new ++ rest c i k), fields_append new (rest c i k))
        (fits_append u (attributes_fields new ++ y) g.0 (fits_append (attributes_fields new) y n r.1)) in
        (f.0, (f.1.0, (tt, (q, t))))

-- ---- what a writer writes
abbrev head_bytes : ℕ → ℕ → ℕ → List ℕ
head_bytes major minor n = major % 256 ∷ minor % 256 ∷ 0 ∷ 0 ∷ little_endian 4 n

written_by : (c : Context) → written c ≡ head_bytes c.major c.minor (count c) ++ row_written c.attributes
unfolding cells filled
written_by c = refl

rows_written : (u v w : List Attribute) → row_written (u ++ (v ++ w)) ≡ row_written u ++ (row_written v ++ row_written w)
rows_written u v w = two u (v ++ w) ∙ ap (λ (y : List ℕ). row_written u ++ y) (two v w)
  where
    two : (l m : List Attribute) → row_written (l ++ m) ≡ row_written l ++ row_written m
    two l m = ap filled (row_append l m) ∙ filled_append (cells (attributes_fields l)) (cells (attributes_fields m))

-- ---- the edited bytes
abbrev Wide : Attribute → Type 0
Wide a = width (attribute_fields a) ≡ a.size

module _ (b : List ℕ) (c : Context) (i k : ℕ) (new : List Attribute) (z : Sized c.attributes) (w : Sized new)
    (g : used (edited c i k new) ≤ length b) where
  abbrev more : Context
  more = edited c i k new

  abbrev place : ℕ
  place = start_in c.attributes i

  abbrev size : ℕ
  size = old_size c i k

  -- how many bytes follow
  abbrev n : ℕ
  n = used c - (place + size)

  abbrev x : List ℕ
  x = row_written new

  abbrev b₁ : List ℕ
  b₁ = counting (count more) b

  abbrev d : List ℕ
  d = edited_bytes b c i k new

  pub length_new : length x ≡ total new
  length_new = length_filled (cells (attributes_fields new)) ∙ length_row new w

  head : 8 ≤ length b
  head = omega arith

  end : place + (length x + n) ≡ used more
  end = omega (arith, length_new, rest_total c i k, new_total c i k new)

  inside : place + (length x + n) ≤ length b₁
  inside = omega (arith, length_counting b (count more) head, end)

  pub same_length_law : length d ≡ length b
  same_length_law = length_spliced b₁ x place size n inside ∙ length_counting b (count more) head

  pub same_before : (j : ℕ) → (j < 4) ⊎ ((8 ≤ j) × (j < place)) → get_or d j 0 ≡ get_or b j 0
  same_before j q =
      ⊎_elim (λ m. spliced_before b₁ x place size n inside j (omega arith) ∙ counting_version b (count more) head j m)
      (λ m. spliced_before b₁ x place size n inside j m.1 ∙ counting_after b (count more) head j m.0) q

  new_count : (j : ℕ) → j < 4 → get_or d (4 + j) 0 ≡ get_or (little_endian 4 (count more)) j 0
  new_count j h = spliced_before b₁ x place size n inside (4 + j) (omega arith) ∙ counting_count b (count more) head j h

  pub new_bytes_law : (j : ℕ) → j < length x → get_or d (place + j) 0 ≡ get_or x j 0
  new_bytes_law j h = spliced_new b₁ x place size n inside j h

  pub same_after : (j : ℕ) → place + size + j < used c → get_or d (place + total new + j) 0 ≡ get_or b (place + size + j) 0
  same_after j h =
      rw (← length_new) (spliced_after b₁ x place size n inside j (omega arith)
      ∙ counting_after b (count more) head (place + size + j) (omega arith))

  pub same_past : (j : ℕ) → used more ≤ j → get_or d j 0 ≡ get_or b j 0
  same_past j h = spliced_past b₁ x place size n inside j (omega (arith, end)) ∙ counting_after b (count more) head j (omega arith)

  -- ---- the cells of the edited list lie there
  part_sized : Sized (front c i) × Sized (old c i k) × Sized (rest c i k)
  part_sized =
      let q = apart c i k Wide z in
      (at_each Wide _ (front c i) q.0, at_each Wide _ (old c i k) q.1, at_each Wide _ (rest c i k) q.2)

  pub sized_edited : Sized more.attributes
  sized_edited = kept c i k new Wide z (gathered Wide _ new w)

  module _ (o : Opens b c) where
    row_at : At b 8 (cells (attributes_fields c.attributes))
    unfolding cells
    row_at = (opens_at b (cells (layout c)) o).1.1.1.1.1.1

    abbrev cells_of : List Attribute → List Cell
    cells_of m = cells (attributes_fields m)

    old_cells : At b 8 (cells_of (front c i)) × At b (place + size) (cells_of (rest c i k))
    old_cells =
        let q = subst (At b 8) (ap cells_of (parts c i k) ∙ row_append (front c i) (old c i k ++ rest c i k)) row_at in
        let f = at_front b 8 place (cells_of (front c i)) (cells_of (old c i k ++ rest c i k))
        (omega (arith, length_row (front c i) part_sized.0)) q in
        let y = subst (At b place) (row_append (old c i k) (rest c i k)) f.1 in (
          f.0,
          (at_front b place (place + size) (cells_of (old c i k)) (cells_of (rest c i k))
              (omega (arith, length_row (old c i k) part_sized.1)) y).1,
        )

    new_cells : At d 8 (cells_of more.attributes)
    new_cells =
        let f : At d 8 (cells_of (front c i)) =
        at_moved b d 8 8 (cells_of (front c i))
        (λ j m. same_before (8 + j) (inr (omega arith, omega (arith, length_row (front c i) part_sized.0)))) old_cells.0 in
        let y : At d place (cells_of new) =
        along d place (cells_of new)
        (λ j v m q. new_bytes_law j (omega (arith, length_filled (cells_of new))) ∙ (filled_opens (cells_of new)).1 j v m q) in
        let t : At d (place + total new) (cells_of (rest c i k)) =
        at_moved b d (place + size) (place + total new) (cells_of (rest c i k))
        (λ j m. same_after j (omega (arith, length_row (rest c i k) part_sized.2, rest_total c i k, old_total c i k))) old_cells.1 in
        rw (row_append (front c i) (new ++ rest c i k), row_append new (rest c i k))
        (at_append d 8 place (cells_of (front c i)) (cells_of new ++ cells_of (rest c i k))
        (omega (arith, length_row (front c i) part_sized.0)) f
        (at_append d place (place + total new) (cells_of new) (cells_of (rest c i k)) (omega (arith, length_row new w)) y t))

    pub opens_edited : Opens d more
    unfolding cells
    opens_edited =
        let h = opens_at b (cells (layout c)) o in
        let q : At d 4 (bytes (little_endian 4 (count more))) =
        (new_count 0 (omega arith), (new_count 1 (omega arith), (new_count 2 (omega arith), (new_count 3 (omega arith), tt)))) in
        at_opens d (cells (layout more)) (omega (arith, length_cells (layout more), width_layout more sized_edited, same_length_law)) (
          same_before 0 (inl (omega arith)) ∙ h.0,
          (
            same_before 1 (inl (omega arith)) ∙ h.1.0,
            at_append d 4 8 (bytes (little_endian 4 (count more))) (cells_of more.attributes) refl q new_cells,
          ),
        )

  -- ---- what a writer wrote becomes what a writer writes
  pub rewritten : take (used c) b ≡ written c → take (used more) d ≡ written more
  rewritten e =
      let u = row_written (front c i) in
      let v = row_written (old c i k) in
      let y = row_written (rest c i k) in
      let t = drop (used c) b in
      let f = head_bytes c.major c.minor (count more) ++ u in
      let whole : b ≡ head_bytes c.major c.minor (count c) ++ ((u ++ (v ++ y)) ++ t) =
      sym (take-append-drop (used c) b)
      ∙ ap (λ (l : List ℕ). l ++ t)
      (e ∙ written_by c ∙ ap (λ (l : List ℕ). head_bytes c.major c.minor (count c) ++ l)
      (ap row_written (parts c i k) ∙ rows_written (front c i) (old c i k) (rest c i k))) in
      let side : (u ++ (v ++ y)) ++ t ≡ u ++ (v ++ (y ++ t)) = simp append_assoc in
      let lu : length u ≡ total (front c i) =
      length_filled (cells (attributes_fields (front c i))) ∙ length_row (front c i) part_sized.0 in
      let lv : length v ≡ size = length_filled (cells (attributes_fields (old c i k))) ∙ length_row (old c i k) part_sized.1 in
      let ly : length y ≡ n =
      length_filled (cells (attributes_fields (rest c i k))) ∙ length_row (rest c i k) part_sized.2 ∙ sym (rest_total c i k) in
      let is : d ≡ spliced (f ++ (v ++ (y ++ t))) place (length v) x (length y) =
      (λ j. spliced (counting (count more) ((whole ∙ ap (λ (l : List ℕ). head_bytes c.major c.minor (count c) ++ l) side) j)) place
      (sym lv j) x (sym ly j)) in
      ap₂ take (sym end ∙ ap (λ (m : ℕ). place + (length x + m)) (sym ly)) is
      ∙ spliced_parts f v y t x place (omega arith)
      ∙ sym (written_by more
      ∙ ap (λ (l : List ℕ). head_bytes c.major c.minor (count more) ++ l) (rows_written (front c i) new (rest c i k)))

-- ---- all of it
-- what holds of the edited list holds of what is new in it
fresh_each : (P : Attribute → Type 0) (c : Context) (i k : ℕ) (new : List Attribute)
    → ((j : ℕ) → j < count (edited c i k new) → P (at (edited c i k new).attributes j))
    → (j : ℕ) → j < length new → P (at new j)
fresh_each P c i k new h =
    let q = all_front P (front c i) (new ++ rest c i k) (gathered P _ (front c i ++ (new ++ rest c i k)) h) in
    at_each P _ new (all_front P new (rest c i k) q.1).0

pub edit_holds : EditHolds
edit_holds fewest b c i k new h m =
    let z = sized h.0 in
    let w : Sized new = fresh_each Wide c i k new (sized m) in
    let g : used (edited c i k new) ≤ length b = omega (arith, m.within) in
    record {
      holds = (rw (← (same_length_law b c i k new z w g)) at m, opens_edited b c i k new z w g h.1);
      before = same_before b c i k new z w g;
      fresh = new_bytes_law b c i k new z w g;
      after = same_after b c i k new z w g;
      past = same_past b c i k new z w g;
      same_length = same_length_law b c i k new z w g;
      rewritten = rewritten b c i k new z w g;
    }

-- Attributes in a row: two rows side by side, and a row that lies in a buffer, attribute by attribute.
use Prim.Native.Nat.{ℕ, zero, suc, ◌+◌, ◌<◌}
use mathlib.Core.Path.{◌≡◌, refl, sym, ap, ◌∙◌}
use mathlib.Core.List.{List, [], ◌∷◌, ◌++◌, append_assoc}
use native.Mathlib.Omega.{arith}
use native.Mathlib.Nat.{not-suc-le-zero, le_of_suc-le-suc, add-zero}
use lib.ListN.{length, take}
use Rattle.byte_layout.specs.Fields.{Field, cells, width}
use Rattle.byte_layout.proofs.Cells.{At, at_front, at_append}
use Rattle.byte_layout.proofs.FieldLaws.{length_cells, cells_append}
use Rattle.ultra_format.specs.Contexts.{Attribute, total}
use Rattle.ultra_format.specs.Layouts.{attribute_fields, attributes_fields}
use Rattle.ultra_format.proofs.Attributes.{at, Sized, width_attributes}

-- ---- two rows
pub total_append : (l m : List Attribute) → total (l ++ m) ≡ total l + total m
unfolding total
total_append [] m = omega arith
total_append (a ∷ l) m = let r = total_append l m in omega arith

pub fields_append : (l m : List Attribute) → attributes_fields (l ++ m) ≡ attributes_fields l ++ attributes_fields m
unfolding attributes_fields
fields_append [] m = refl
fields_append (a ∷ l) m =
    ap (λ (k : List Field). attribute_fields a ++ k) (fields_append l m)
    ∙ sym (append_assoc (attribute_fields a) (attributes_fields l) (attributes_fields m))

pub row_append : (l m : List Attribute) → cells (attributes_fields (l ++ m)) ≡ cells (attributes_fields l) ++ cells (attributes_fields m)
row_append l m = ap cells (fields_append l m) ∙ cells_append (attributes_fields l) (attributes_fields m)

-- ---- a row in a buffer
pub length_row : (l : List Attribute) → Sized l → length (cells (attributes_fields l)) ≡ total l
length_row l z = length_cells (attributes_fields l) ∙ width_attributes l z

module _ (b : List ℕ) where
  -- the first attribute, and those after it
  apart : (a : Attribute) (l : List Attribute) (o : ℕ) → width (attribute_fields a) ≡ a.size → At b o (cells (attributes_fields (a ∷ l)))
      → At b o (cells (attribute_fields a)) × At b (o + a.size) (cells (attributes_fields l))
  unfolding attributes_fields
  apart a l o z h =
      let w = length_cells (attribute_fields a) ∙ z in
      at_front b o (o + a.size) (cells (attribute_fields a)) (cells (attributes_fields l)) (omega arith) (rw cells_append at h)

  joined : (a : Attribute) (l : List Attribute) (o : ℕ) → width (attribute_fields a) ≡ a.size → At b o (cells (attribute_fields a))
      → At b (o + a.size) (cells (attributes_fields l)) → At b o (cells (attributes_fields (a ∷ l)))
  unfolding attributes_fields
  joined a l o z g h =
      let w = length_cells (attribute_fields a) ∙ z in
      rw cells_append (at_append b o (o + a.size) (cells (attribute_fields a)) (cells (attributes_fields l)) (omega arith) g h)

  none : (o : ℕ) → At b o (cells (attributes_fields []))
  unfolding attributes_fields cells
  none o = tt

  -- a row lies from `o` on just where each of its attributes does
  pub each_at : (l : List Attribute) (o : ℕ) → Sized l → At b o (cells (attributes_fields l))
      → (i : ℕ) → i < length l → At b (o + total (take i l)) (cells (attribute_fields (at l i)))
  unfolding total
  each_at [] o z h i k = absurd (not-suc-le-zero k)
  each_at (a ∷ l) o z h zero k = rw add-zero (apart a l o (z 0 k) h).0
  each_at (a ∷ l) o z h (suc i) k =
      let q : o + (a.size + total (take i l)) ≡ o + a.size + total (take i l) = omega arith in
      rw q (each_at l (o + a.size) (λ n m. z (suc n) (omega arith)) (apart a l o (z 0 (omega arith)) h).1 i (le_of_suc-le-suc k))

  pub all_at : (l : List Attribute) (o : ℕ) → Sized l
      → ((i : ℕ) → i < length l → At b (o + total (take i l)) (cells (attribute_fields (at l i)))) → At b o (cells (attributes_fields l))
  unfolding total
  all_at [] o z h = none o
  all_at (a ∷ l) o z h =
      joined a l o (z 0 (omega arith)) (rw add-zero at (h 0 (omega arith)))
      (all_at l (o + a.size) (λ n m. z (suc n) (omega arith)) (λ i k.
      let q : o + (a.size + total (take i l)) ≡ o + a.size + total (take i l) = omega arith in
      rw q at (h (suc i) (omega arith))))

-- Proof of the statement in specs/Opening.antt.
use Prim.Native.Nat.{ℕ, ◌+◌}
use mathlib.Core.Path.{◌≡◌, ◌∙◌}
use mathlib.Core.List.{List}
use native.Mathlib.Omega.{arith}
use lib.ListN.{length}
use Rattle.byte_layout.specs.Fields.{Field, cells, width}
use Rattle.byte_layout.specs.Placed.{LiesAt, PlacedOpens}
use Rattle.byte_layout.proofs.Cells.{At, along, index, opens_at, at_opens, at_front, at_append}
use Rattle.byte_layout.proofs.FieldLaws.{length_cells, cells_append}
use Rattle.ultra_format.specs.Contexts.{Context, start_in, used}
use Rattle.ultra_format.specs.Layouts.{attribute_fields, attributes_fields, layout, Opens}
use Rattle.ultra_format.proofs.Attributes.{at, width_layout}
use Rattle.ultra_format.proofs.Rows.{each_at, all_at}
use Rattle.ultra_edits.specs.Opening.{head_fields, RowOf, RowOf.head, RowOf.attribute, EachWide, OpensByAttribute}

head_length : (c : Context) → 8 ≡ 0 + length (cells (head_fields c))
unfolding width
head_length c = omega (arith, length_cells (head_fields c))

module _ (b : List ℕ) (c : Context) (z : EachWide c) where
  size : length (cells (layout c)) ≡ used c
  size = length_cells (layout c) ∙ width_layout c z

  split : Opens b c → At b 0 (cells (head_fields c)) × At b 8 (cells (attributes_fields c.attributes))
  split h =
      at_front b 0 8 (cells (head_fields c)) (cells (attributes_fields c.attributes)) (head_length c)
      (rw (cells_append (head_fields c) (attributes_fields c.attributes)) at (opens_at b (cells (layout c)) h))

  there : Opens b c → PlacedOpens b (used c) (RowOf c)
  there h = record { within = omega (arith, h.0, size); lies = lies }
    where
      lies : (o : ℕ) (fs : List Field) → RowOf c o fs → LiesAt b o (cells fs)
      lies o fs head = index b 0 (cells (head_fields c)) (split h).0
      lies o fs (attribute i k) =
          index b (start_in c.attributes i) (cells (attribute_fields (at c.attributes i)))
          (each_at b c.attributes 8 z (split h).1 i k)

  back : PlacedOpens b (used c) (RowOf c) → Opens b c
  back h =
      let f = along b 0 (cells (head_fields c)) (h.lies _ _ head) in
      let g = all_at b c.attributes 8 z
      (λ i k. along b (start_in c.attributes i) (cells (attribute_fields (at c.attributes i))) (h.lies _ _ (attribute i k))) in
      at_opens b (cells (layout c)) (omega (arith, h.within, size))
      (rw (cells_append (head_fields c) (attributes_fields c.attributes))
      (at_append b 0 8 (cells (head_fields c)) (cells (attributes_fields c.attributes)) (head_length c) f g))

pub opens_by_attribute : OpensByAttribute
opens_by_attribute b c z = (there b c z, back b c z)

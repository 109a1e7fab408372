-- Where the bytes of an attribute lie in the layout of the context that is decoded from a buffer: from its start in the buffer on, if the
-- attributes before it break no rule. And that the head but for its reserved u16, and each attribute's type and size, are not silent.
use Prim.Native.Nat.{ℕ, zero, suc, ◌+◌, ◌<◌}
use mathlib.Core.Path.{◌≡◌, refl, sym, subst, ap, ◌∙◌}
use mathlib.Core.List.{List, [], ◌∷◌, ◌++◌}
use native.Mathlib.Omega.{arith}
use native.Mathlib.Nat.{not-suc-le-zero, le_of_suc-le-suc, zero-add}
use lib.ListN.{length, get_or, take, get_or-append}
use lib.Seq.{get_or-append-add}
use Rattle.words.specs.Words.{little_endian}
use Rattle.byte_layout.specs.Fields.{Cell, bytes, cells, width, SilentAt}
use Rattle.byte_layout.specs.Fields.{Cell.silent}
use Rattle.byte_layout.proofs.Cells.{not_silent}
use Rattle.byte_layout.proofs.FieldLaws.{length_cells, cells_append}
use Rattle.ultra_format.specs.Contexts.{Attribute, Context, type_of, count, total}
use Rattle.lent_buffers.specs.Room.{room_of}
use Rattle.ultra_format.specs.Layouts.{body_fields, attribute_fields, attributes_fields, layout, Silent}
use Rattle.ultra_format.specs.Decoding.{start, stored_size, stored_count, stored_attribute, context_of}
use Rattle.ultra_format.proofs.Attributes.{width_attribute, at}
use Rattle.ultra_format.proofs.Decoded.{count_decoded, at_decoded, start_decoded}
use Rattle.ultra_reading.specs.Reading.{Clear}
use Rattle.ultra_acceptance.proofs.Walked.{passes}
use Rattle.ultra_acceptance.proofs.SilentCells.{past}

-- ---- bytes that are not silent
bytes_not_silent : (l : List ℕ) (cs : List Cell) (i : ℕ) → i < length l → SilentAt (bytes l ++ cs) i → ⊥
bytes_not_silent [] cs i h e = not-suc-le-zero h
bytes_not_silent (x ∷ l) cs zero h e = not_silent x (sym e)
bytes_not_silent (x ∷ l) cs (suc i) h e = bytes_not_silent l cs i (le_of_suc-le-suc h) e

-- an attribute's type and size
pub header_not_silent : (a : Attribute) (k : ℕ) → k < 8 → SilentAt (cells (attribute_fields a)) k → ⊥
unfolding cells
header_not_silent a k h e = bytes_not_silent (little_endian 4 (type_of a.body) ++ little_endian 4 a.size) (cells (body_fields a.size a.body)) k h e

-- the head, but for its reserved bytes
pub head_not_silent : (c : Context) (i : ℕ) → i < 8 → (i ≡ 2 → ⊥) → (i ≡ 3 → ⊥) → Silent c i → ⊥
unfolding cells
head_not_silent c zero h m n e = not_silent _ (sym e)
head_not_silent c (suc zero) h m n e = not_silent _ (sym e)
head_not_silent c (suc (suc zero)) h m n e = m refl
head_not_silent c (suc (suc (suc zero))) h m n e = n refl
head_not_silent c (suc (suc (suc (suc i)))) h m n e = bytes_not_silent (little_endian 4 (count c)) (cells (attributes_fields c.attributes)) i (omega arith) e

-- ---- attributes in a row
in_row : (l : List Attribute) (j k : ℕ) → ((i : ℕ) → i < j → width (attribute_fields (at l i)) ≡ (at l i).size) → j < length l → k < width (attribute_fields (at l j))
    → get_or (cells (attributes_fields l)) (total (take j l) + k) silent ≡ get_or (cells (attribute_fields (at l j))) k silent
unfolding attributes_fields total
in_row [] j k z h g = absurd (not-suc-le-zero h)
in_row (a ∷ l) zero k z h g =
    rw (cells_append (attribute_fields a) (attributes_fields l), zero-add k)
    (get_or-append (cells (attribute_fields a)) (cells (attributes_fields l)) silent k (omega (arith, length_cells (attribute_fields a))))
in_row (a ∷ l) (suc j) k z h g =
    let cs = cells (attribute_fields a) in
    let q : a.size + total (take j l) + k ≡ length cs + (total (take j l) + k) = omega (arith, length_cells (attribute_fields a), z 0 (omega arith)) in
    rw (cells_append (attribute_fields a) (attributes_fields l), q)
    (get_or-append-add cs (cells (attributes_fields l)) (total (take j l) + k) silent ∙ in_row l j k (λ i m. z (suc i) (omega arith)) (le_of_suc-le-suc h) g)

-- ---- the decoded context
module _ (b : List ℕ) (j : ℕ) (h : j < stored_count b) (c : Clear b (room_of b) j) where
  wide : (i : ℕ) → i < j → width (attribute_fields (at (context_of b).attributes i)) ≡ (at (context_of b).attributes i).size
  wide i l =
      let p = passes b (room_of b) i (c i l) in
      rw (at_decoded b i (omega arith)) (width_attribute (stored_size b i) (stored_attribute b i).body p.bounds.least p.bounds.eights p.body.suits)

  pub context_cells : (k : ℕ) → k < width (attribute_fields (stored_attribute b j))
      → get_or (cells (layout (context_of b))) (start b j + k) silent ≡ get_or (cells (attribute_fields (stored_attribute b j))) k silent
  unfolding width
  context_cells k g =
      let l = (context_of b).attributes in
      let e = at_decoded b j h in
      past 4 (layout (context_of b)) (start b j + k) (total (take j l) + k) (omega (arith, start_decoded b j (omega arith)))
      ∙ in_row l j k wide (omega (arith, count_decoded b)) (subst (λ (a : Attribute). k < width (attribute_fields a)) (sym e) g)
      ∙ ap (λ (a : Attribute). get_or (cells (attribute_fields a)) k silent) e

-- Proofs of the statements on edits of one attribute, in specs/Edits.antt.
use Prim.Native.Nat.{ℕ, zero, suc, ◌+◌, ◌-◌, ◌≤◌, ◌<◌}
use mathlib.Core.Path.{◌≡◌, refl, sym, ap, ap₂, ◌∙◌, subst}
use mathlib.Core.Bool.{Bool, true, false}
use mathlib.Core.List.{List, [], ◌∷◌, ◌++◌, append-nil}
use native.Mathlib.Omega.{arith}
use native.Mathlib.Nat.{add-zero}
use native.Mathlib.Numerals.{add-one}
use lib.ListN.{length, get_or, take, drop, length-append, length-drop}
use lib.Seq.{split_at, length-take-le, get_or_at, drop-cons, take-length, drop-length}
use lib.Dec.{eqb}
use borrow.Author.Tests.{eqb-true, eqb-false}
use Rattle.words.specs.Words.{little_endian, replaced}
use Rattle.words.proofs.Stores.{replaced_same}
use Rattle.byte_layout.specs.Fields.{Field, bytes, cells, filled, Fits}
use Rattle.byte_layout.proofs.Cells.{At, opens_at}
use Rattle.ultra_format.specs.Contexts.{type_of, Attribute, Context, count, size_at, type_at, attribute_at, total, start_in, used}
use Rattle.lent_buffers.specs.Room.{room_of}
use Rattle.ultra_format.specs.Layouts.{attribute_fields, attributes_fields, layout, Opens, attribute_written}
use Rattle.ultra_format.specs.Rules.{AttributeMeets, Meets}
use Rattle.ultra_format.proofs.Attributes.{attribute}
use Rattle.ultra_format.specs.Contexts.{Body.other}
use Rattle.ultra_edits.specs.Order.{KeepsOrder}
use Rattle.ultra_edits.specs.Splicing.{spliced, counting}
use Rattle.ultra_edits.specs.Edits.{edited, extended, old_size, row_written, edited_bytes, Edited, ExtendingEdits, Removes, Replaces}
use Rattle.ultra_edits.proofs.Splices.{spliced_last}
use Rattle.ultra_edits.proofs.Lists.{All, skip, skip_rises, skip_near, skip_zero, skip_one, skip_at, other_at}
use Rattle.ultra_edits.proofs.Order.{order_kept}
use Rattle.ultra_edits.proofs.Edits.{front, rest, used_edited, kept, fits_edited, edit_holds}

-- ---- an edit that keeps the order of types
pub meets_edited : {fewest room : ℕ} (least limit : ℕ) (c : Context) (i k : ℕ) (new : List Attribute) (from : ℕ → ℕ) → Meets fewest room c
    → KeepsOrder c (edited c i k new) from → Fits (attributes_fields new) → All (λ (a : Attribute). AttributeMeets a.size a.body) new
    → least ≤ count (edited c i k new) → count (edited c i k new) ≤ 1024 → used (edited c i k new) ≤ limit
    → Meets least limit (edited c i k new)
meets_edited {fewest} {room} least limit c i k new from m t f a few most within =
    order_kept fewest least room limit c (edited c i k new) from m t
    record {
      fits = fits_edited c i k new m.fits f most;
      major = m.major;
      enough = few;
      most = most;
      within = within;
      each = kept c i k new (λ (x : Attribute). AttributeMeets x.size x.body) m.each a;
    }

abbrev blank : Attribute
blank = attribute 0 (other 0)

-- ---- one attribute of a list
module _ (c : Context) (i : ℕ) (h : i < count c) where
  parts : c.attributes ≡ front c i ++ (attribute_at c i ∷ rest c i 1)
  parts = rw (add-one i) (split_at c.attributes i blank h)

  length_front : length (front c i) ≡ i
  length_front = length-take-le i c.attributes (omega arith)

  one_old : old_size c i 1 ≡ size_at c i
  unfolding total
  one_old = rw (drop-cons c.attributes i blank h) (add-zero (size_at c i))

  -- ---- removed
  one_less : count (edited c i 1 []) ≡ count c - 1
  one_less = omega (arith, length-append (front c i) (rest c i 1), length_front, length-drop (i + 1) c.attributes)

  was_at : (j : ℕ) → get_or (front c i ++ rest c i 1) j blank ≡ get_or c.attributes (skip i j) blank
  was_at j =
      skip_at (front c i) (attribute_at c i) (rest c i 1) blank j
      ∙ ap₂ (λ (m : List Attribute) (n : ℕ). get_or m (skip n j) blank) (sym parts) length_front

  removal_order : 2 ≤ i → KeepsOrder c (edited c i 1 []) (skip i)
  removal_order g =
      record {
        rises = skip_rises i;
        first = skip_zero i (omega arith);
        second = skip_one i g;
        below = λ j n. omega (arith, skip_near i j, one_less);
        same = λ j n. ap (λ (a : Attribute). type_of a.body) (was_at j);
      }

  -- ---- replaced by one of its type
  module _ (a : Attribute) (t : type_of a.body ≡ type_at c i) where
    same_count : count (edited c i 1 (a ∷ [])) ≡ count c
    same_count = omega (arith, length-append (front c i) (a ∷ rest c i 1), length_front, length-drop (i + 1) c.attributes)

    type_at_law : (j : ℕ) (e : Bool) → eqb j i ≡ e → type_at (edited c i 1 (a ∷ [])) j ≡ type_at c j
    type_at_law j true e =
        let q = eqb-true j i e in
        rw q (ap (λ (y : Attribute). type_of y.body) (get_or_at (front c i) a (rest c i 1) blank i length_front) ∙ t)
    type_at_law j false e =
        let n = eqb-false j i e in
        ap (λ (y : Attribute). type_of y.body)
        (other_at (front c i) (attribute_at c i) (rest c i 1) blank a j (λ q. n (q ∙ length_front))
        ∙ ap (λ (m : List Attribute). get_or m j blank) (sym parts))

    replacement_order : KeepsOrder c (edited c i 1 (a ∷ [])) (λ j. j)
    replacement_order =
        record {
          rises = λ x y g. g;
          first = refl;
          second = refl;
          below = λ j n. omega (arith, same_count);
          same = λ j n. type_at_law j (eqb j i) refl;
        }

-- ---- one more at the end
pub one_field : (a : Attribute) → attributes_fields (a ∷ []) ≡ attribute_fields a
unfolding attributes_fields
one_field a = append-nil (attribute_fields a)

pub one_written : (a : Attribute) → row_written (a ∷ []) ≡ attribute_written a
one_written a = ap (λ (fs : List Field). filled (cells fs)) (one_field a)

module _ (c : Context) (a : Attribute) where
  abbrev l : List Attribute
  l = c.attributes

  pub as_edit : edited c (count c) 0 (a ∷ []) ≡ extended c a
  as_edit =
      let e : take (count c) l ++ (a ∷ drop (count c + 0) l) ≡ l ++ (a ∷ []) = rw (take-length l, add-zero (count c), drop-length l) in
      ap (λ (m : List Attribute). record { major = c.major; minor = c.minor; attributes = m }) e

  pub end_start : start_in l (count c) ≡ used c
  end_start = ap (λ (m : List Attribute). 8 + total m) (take-length l)

  bytes_as_edit : (b : List ℕ)
      → edited_bytes b c (count c) 0 (a ∷ [])
      ≡ replaced (counting (count c + 1) b) (used c) (length (attribute_written a)) (attribute_written a)
  unfolding total
  bytes_as_edit b =
      let n : count (edited c (count c) 0 (a ∷ [])) ≡ count c + 1 = ap count as_edit ∙ length-append l (a ∷ []) in
      let z : used c - (used c + 0) ≡ 0 = omega arith in
      (λ j. spliced (counting (n j) b) (end_start j) 0 (one_written a j) (used c - (end_start j + 0)))
      ∙ ap (spliced (counting (count c + 1) b) (used c) 0 (attribute_written a)) z
      ∙ spliced_last (counting (count c + 1) b) (attribute_written a) (used c)

pub extending_edits : ExtendingEdits
extending_edits b c a = (as_edit c a, bytes_as_edit c a b)

-- ---- removal
pub removes : Removes
unfolding total attributes_fields cells filled Fits
removes b c i h g k =
    let n = one_less c i k in
    let u = used_edited c i 1 [] in
    let m = meets_edited 2 (room_of b) c i 1 [] (skip i) h.0 (removal_order c i k g) tt tt (omega arith) (omega (arith, h.0.most))
    (omega (arith, h.0.within)) in
    subst (Edited 2 b c i 1 [])
    (λ j. spliced (counting (n j) b) (start_in c.attributes i) (one_old c i k j) []
    (used c - (start_in c.attributes i + one_old c i k j)))
    (edit_holds 2 b c i 1 [] h m)

-- ---- replacement
-- the count is there already
module _ (b : List ℕ) (c : Context) (o : Opens b c) where
  count_cells : At b 4 (bytes (little_endian 4 (count c)))
  unfolding cells
  count_cells = let h = (opens_at b (cells (layout c)) o).1.1 in (h.0, (h.1.0, (h.1.1.0, (h.1.1.1.0, tt))))

  count_at : (j : ℕ) → j < 4 → get_or b (4 + j) 0 ≡ get_or (little_endian 4 (count c)) j 0
  count_at zero n = count_cells.0
  count_at (suc zero) n = count_cells.1.0
  count_at (suc (suc zero)) n = count_cells.1.1.0
  count_at (suc (suc (suc zero))) n = count_cells.1.1.1.0
  count_at (suc (suc (suc (suc j)))) n = absurd (omega arith)

  count_stays : 8 ≤ length b → counting (count c) b ≡ b
  count_stays h = replaced_same b (little_endian 4 (count c)) 4 4 refl h count_at

pub replaces : Replaces
unfolding total
replaces b c i a h k t y f r =
    let n = same_count c i k a t in
    let u = used_edited c i 1 (a ∷ []) in
    let v = one_old c i k in
    let m = meets_edited 2 (room_of b) c i 1 (a ∷ []) (λ j. j) h.0 (replacement_order c i k a t) (rw (one_field a) f) (y, tt)
    (omega (arith, h.0.enough)) (omega (arith, h.0.most)) (omega arith) in
    let s : counting (count (edited c i 1 (a ∷ []))) b ≡ b =
    ap (λ (q : ℕ). counting q b) n ∙ count_stays b c h.1 (omega (arith, h.0.within)) in
    subst (Edited 2 b c i 1 (a ∷ []))
    (λ j. spliced (s j) (start_in c.attributes i) (v j) (one_written a j) (used c - (start_in c.attributes i + v j)))
    (edit_holds 2 b c i 1 (a ∷ []) h m)

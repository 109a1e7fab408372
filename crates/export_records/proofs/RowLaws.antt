-- Laws of records stored one after the other: none, one, and one list after the other.
use Prim.Native.Nat.{ℕ, ◌+◌}
use mathlib.Core.Path.{◌≡◌, refl, sym, ap, ◌∙◌}
use mathlib.Core.List.{List, [], ◌∷◌, ◌++◌}
use native.Mathlib.Omega.{arith}
use lib.ListN.{length, length-append}
use Rattle.words.specs.Words.{replaced}
use Rattle.byte_layout.specs.Fields.{cells, filled}
use Rattle.handover_format.specs.declared.records.Record.{Record}
use Rattle.handover_format.specs.Payloads.{Entry, record_start}
use Rattle.handover_format.specs.PayloadLayouts.{record_fields}
use Rattle.handover_format.specs.WrittenForm.{strings, placed, rows_bytes}
use Rattle.handover_format.proofs.WrittenLaws.{length_strings, rows_none, rows_one, rows_append, length_rows}
use Rattle.handover_writing.specs.Stores.{put}
use Rattle.handover_writing.proofs.StoreLaws.{put_none, stored, put_then}
use Rattle.export_sizes.specs.Extents.{grown}
use Rattle.export_sizes.specs.declared.Extent.{Extent}
use Rattle.export_sizes.proofs.ExtentLaws.{extent_is, grown_count, grown_width, grown_none, grown_then}
use Rattle.export_records.specs.Rows.{State, rows_put, RowsFit}

-- ---- what is said of the output and of the extent
pub rows_out : (e q : List ℕ) (m r : Extent) (es : List Entry) → (q, r) ≡ rows_put (e, m) es → q ≡ put e (record_start m.count) (rows_bytes m.width es)
unfolding rows_put
rows_out e q m r es h = ap (λ (s : State). s.0) h

rows_extent : (e q : List ℕ) (m r : Extent) (es : List Entry) → (q, r) ≡ rows_put (e, m) es → r ≡ grown m es
unfolding rows_put
rows_extent e q m r es h = ap (λ (s : State). s.1) h

-- ---- none
pub rows_put_none : (e : List ℕ) (m : Extent) → (e, m) ≡ rows_put (e, m) []
unfolding rows_put
rows_put_none e m = λ j. ((put_none e (record_start m.count) ∙ ap (put e (record_start m.count)) (sym (rows_none m.width))) j, grown_none m j)

-- ---- one, by the words that are stored of it
pub row_put : (e q : List ℕ) (m : Extent) (x : Entry) (w : Record) (n k : ℕ) → w ≡ (placed m.width x).words → n ≡ m.count + 1 → k ≡ m.width + length (strings (x ∷ []))
    → q ≡ replaced e (record_start m.count) 32 (filled (cells (record_fields w))) → (q, record { count = n; width = k }) ≡ rows_put (e, m) (x ∷ [])
unfolding rows_put
row_put e q m x w n k f g h s =
    let y = rows_bytes m.width (x ∷ []) in
    let b : filled (cells (record_fields w)) ≡ y = ap (λ (v : Record). filled (cells (record_fields v))) f ∙ sym (rows_one m.width x) in
    let p = stored e q y (record_start m.count) 32 (length_rows m.width (x ∷ [])) (s ∙ ap (replaced e (record_start m.count) 32) b) in
    λ j. (p j, extent_is m (x ∷ []) n k g h j)

-- ---- one list, then the other
module _ (e : List ℕ) (m : Extent) (xs ys zs : List Entry) (z : zs ≡ xs ++ ys) (h : RowsFit e m zs) where
  parts : length zs ≡ length xs + length ys
  parts = ap length z ∙ length-append xs ys

  widths : length (strings zs) ≡ length (strings xs) + length (strings ys)
  widths = ap (λ (l : List Entry). length (strings l)) z ∙ length_strings xs ys

  pub rows_front : RowsFit e m xs
  rows_front = record { room = omega (arith, h.room, parts); strings = omega (arith, h.strings, widths) }

  module _ (q : List ℕ) (r : Extent) (s : (q, r) ≡ rows_put (e, m) xs) (k : length q ≡ length e) where
    grows : r ≡ grown m xs
    grows = rows_extent e q m r xs s

    count_is : r.count ≡ m.count + length xs
    count_is = ap (λ (x : Extent). x.count) grows ∙ grown_count m xs

    width_is : r.width ≡ m.width + length (strings xs)
    width_is = ap (λ (x : Extent). x.width) grows ∙ grown_width m xs

    pub rows_rest : RowsFit q r ys
    rows_rest = record { room = omega (arith, h.room, parts, count_is, k); strings = omega (arith, h.strings, widths, width_is) }

    pub rows_step : rows_put (q, r) ys ≡ rows_put (e, m) zs
    unfolding rows_put
    rows_step =
        let x = rows_bytes m.width xs in
        let y = rows_bytes r.width ys in
        let a = record_start m.count in
        let b : record_start r.count ≡ a + length x = omega (arith, count_is, length_rows m.width xs) in
        let o = put_then e q (put q (record_start r.count) y) x y a (record_start r.count) b (omega (arith, h.room, parts, count_is)) (rows_out e q m r xs s) refl in
        let w : x ++ y ≡ rows_bytes m.width zs = ap (λ (i : ℕ). x ++ rows_bytes i ys) width_is ∙ sym (rows_append m.width xs ys) ∙ ap (rows_bytes m.width) (sym z) in
        let g : grown r ys ≡ grown m zs = ap (λ (i : Extent). grown i ys) grows ∙ grown_then m xs ys ∙ ap (grown m) (sym z) in
        λ j. ((o ∙ ap (put e a) w) j, g j)

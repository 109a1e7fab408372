-- Laws of the written form: of entries side by side, how long each part is, and the payload's bytes in the order of storing.
use Prim.Native.Nat.{ℕ, suc, ◌+◌, ◌*◌}
use mathlib.Core.Path.{◌≡◌, refl, sym, ap, ◌∙◌}
use mathlib.Core.Bool.{Bool, true, false}
use mathlib.Core.List.{List, [], ◌∷◌, ◌++◌, append_assoc, append-nil}
use native.Mathlib.Omega.{arith}
use native.Mathlib.Nat.{add-zero}
use lib.ListN.{length, length-append}
use Rattle.byte_layout.specs.Fields.{Field, Field.number, cells, width, filled}
use Rattle.byte_layout.specs.Stored.{closed}
use Rattle.byte_layout.proofs.Cells.{length_filled}
use Rattle.byte_layout.proofs.FieldLaws.{length_cells, cells_append}
use Rattle.byte_layout.proofs.Written.{filled_append}
use Rattle.handover_format.specs.Payloads.{Entry}
use Rattle.handover_format.specs.PayloadLayouts.{magic, record_fields, entries_fields, front_fields}
use Rattle.handover_format.specs.PayloadDecoding.{pick}
use Rattle.handover_format.specs.WrittenForm.{closed_if, strings_of, strings, placed, placed_from, rows_bytes, payload_size, payload}
use Rattle.handover_format.proofs.PayloadRows.{width_front}

-- ---- strings
pub length_closed : (l : List ℕ) → length (closed l) ≡ length l + 1
length_closed l = length-append l (0 ∷ [])

pub length_closed_if : (t : Bool) (l : List ℕ) → length (closed_if t l) ≡ pick t (length l + 1) 0
unfolding closed_if
length_closed_if true l = length_closed l
length_closed_if false l = refl

pub closed_named : (t : Bool) (l : List ℕ) → t ≡ true → closed_if t l ≡ closed l
unfolding closed_if
closed_named t l e = rw e

pub closed_unnamed : (t : Bool) (l : List ℕ) → t ≡ false → closed_if t l ≡ []
unfolding closed_if
closed_unnamed t l e = rw e

-- a string that is given only where it is named
pub closed_picked : (t : Bool) (l : List ℕ) → closed_if t (pick t l []) ≡ closed_if t l
unfolding closed_if
closed_picked true l = refl
closed_picked false l = refl

pub strings_none : strings [] ≡ []
unfolding strings
strings_none = refl

pub strings_one : (e : Entry) → strings (e ∷ []) ≡ strings_of e
unfolding strings
strings_one e = append-nil (strings_of e)

pub strings_append : (xs ys : List Entry) → strings (xs ++ ys) ≡ strings xs ++ strings ys
unfolding strings
strings_append [] ys = refl
strings_append (x ∷ xs) ys =
    ap (λ (l : List ℕ). strings_of x ++ l) (strings_append xs ys)
    ∙ sym (append_assoc (strings_of x) (strings xs) (strings ys))

pub length_strings : (xs ys : List Entry) → length (strings (xs ++ ys)) ≡ length (strings xs) + length (strings ys)
length_strings xs ys = ap length (strings_append xs ys) ∙ length-append (strings xs) (strings ys)

-- ---- records
pub length_placed : (o : ℕ) (es : List Entry) → length (placed_from o es) ≡ length es
unfolding placed_from
length_placed o [] = refl
length_placed o (e ∷ es) = ap suc (length_placed (o + length (strings_of e)) es)

pub placed_append : (o : ℕ) (xs ys : List Entry) → placed_from o (xs ++ ys) ≡ placed_from o xs ++ placed_from (o + length (strings xs)) ys
unfolding strings placed_from
placed_append o [] ys = rw add-zero
placed_append o (x ∷ xs) ys =
    let n = o + length (strings_of x) in
    let q : n + length (strings xs) ≡ o + length (strings_of x ++ strings xs) =
    omega (arith, length-append (strings_of x) (strings xs)) in
    ap (λ (l : List Entry). placed o x ∷ l)
    (placed_append n xs ys ∙ ap (λ (k : ℕ). placed_from n xs ++ placed_from k ys) q)

fields_append : (xs ys : List Entry) → entries_fields (xs ++ ys) ≡ entries_fields xs ++ entries_fields ys
unfolding entries_fields
fields_append [] ys = refl
fields_append (x ∷ xs) ys = rw (fields_append xs ys) refl

pub rows_none : (o : ℕ) → rows_bytes o [] ≡ []
unfolding placed_from entries_fields cells filled
rows_none o = refl

pub rows_one : (o : ℕ) (e : Entry) → rows_bytes o (e ∷ []) ≡ filled (cells (record_fields (placed o e).words))
unfolding placed_from entries_fields
rows_one o e = refl

pub rows_append : (o : ℕ) (xs ys : List Entry) → rows_bytes o (xs ++ ys) ≡ rows_bytes o xs ++ rows_bytes (o + length (strings xs)) ys
rows_append o xs ys =
    let x = placed_from o xs in
    let y = placed_from (o + length (strings xs)) ys in
    ap (λ (l : List Entry). filled (cells (entries_fields l))) (placed_append o xs ys)
    ∙ ap (λ (fs : List Field). filled (cells fs)) (fields_append x y)
    ∙ ap filled (cells_append (entries_fields x) (entries_fields y))
    ∙ filled_append (cells (entries_fields x)) (cells (entries_fields y))

width_entries : (es : List Entry) → width (entries_fields es) ≡ 32 * length es
unfolding width
width_entries es = omega (arith, width_front (record { agent = 0; agent_name = []; entries = es; size = 0 }))

-- "records of 32 bytes"
pub length_rows : (o : ℕ) (es : List Entry) → length (rows_bytes o es) ≡ 32 * length es
length_rows o es =
    let fs = entries_fields (placed_from o es) in
    length_filled (cells fs) ∙ length_cells fs ∙ width_entries (placed_from o es)
    ∙ ap (λ (n : ℕ). 32 * n) (length_placed o es)

-- ---- the front: the head, then the records
pub front_bytes : (agent : List ℕ) (es : List Entry) → filled (cells (front_fields (payload agent es)))
    ≡ filled (cells (number 4 magic ∷ number 4 0 ∷ number 4 (payload_size agent es) ∷ number 4 (length es) ∷ [])) ++ rows_bytes (length (closed agent)) es
front_bytes agent es =
    let n = length_placed (length (closed agent)) es in
    let rows = entries_fields (placed_from (length (closed agent)) es) in
    let head = number 4 magic ∷ number 4 0 ∷ number 4 (payload_size agent es) ∷ number 4 (length es) ∷ [] in
    ap (λ (k : ℕ). filled (cells (number 4 magic ∷ number 4 0 ∷ number 4 (payload_size agent es) ∷ number 4 k ∷ rows))) n
    ∙ ap filled (cells_append head rows)
    ∙ filled_append (cells head) (cells rows)

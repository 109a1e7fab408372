-- A layout is written field by field: over the front of a list, each field is stored after those before it.
use Prim.Native.Nat.{ℕ, zero, suc, ◌+◌, ◌≤◌}
use mathlib.Core.Path.{◌≡◌, refl, sym, ap, ap₂, ◌∙◌}
use mathlib.Core.List.{List, [], ◌∷◌, ◌++◌, append-nil}
use native.Mathlib.Omega.{arith}
use native.Mathlib.Nat.{add-zero}
use lib.ListN.{length, drop, length-append}
use lib.Seq.{take-append_seam, drop-append-add, drop-drop}
use Rattle.words.specs.Words.{little_endian, replaced}
use Rattle.words.proofs.Widths.{replaced_twice}
use Rattle.byte_layout.specs.Fields.{Cell, Field, bytes, silence, padded, text_cells, field_cells, field_width, cells, width, filled}
use Rattle.byte_layout.specs.Fields.{Field.number, Field.raw, Field.text, Field.padding, Cell.byte, Cell.silent}
use Rattle.byte_layout.specs.Stored.{over}
use Rattle.byte_layout.proofs.Cells.{length_filled}
use Rattle.byte_layout.proofs.FieldLaws.{length_cells, width_append, cells_append}

-- ---- what a writer writes of a field
abbrev pub field_written : Field → List ℕ
field_written (number k n) = little_endian k n
field_written (raw k l) = padded k l
field_written (text k l) = padded k l
field_written (padding k) = padded k []

filled_bytes : (l : List ℕ) → filled (bytes l) ≡ l
unfolding filled
filled_bytes [] = refl
filled_bytes (x ∷ l) = ap (λ (m : List ℕ). x ∷ m) (filled_bytes l)

filled_silence : (k : ℕ) → filled (silence k) ≡ padded k []
unfolding filled
filled_silence zero = refl
filled_silence (suc k) = ap (λ (m : List ℕ). 0 ∷ m) (filled_silence k)

filled_text : (k : ℕ) (l : List ℕ) → filled (text_cells k l) ≡ padded k l
unfolding filled
filled_text zero l = refl
filled_text (suc k) [] = ap (λ (m : List ℕ). 0 ∷ m) (filled_silence k)
filled_text (suc k) (x ∷ l) = ap (λ (m : List ℕ). x ∷ m) (filled_text k l)

pub field_written_law : (f : Field) → filled (field_cells f) ≡ field_written f
field_written_law (number k n) = filled_bytes (little_endian k n)
field_written_law (raw k l) = filled_bytes (padded k l)
field_written_law (text k l) = filled_text k l
field_written_law (padding k) = filled_silence k

pub filled_append : (xs ys : List Cell) → filled (xs ++ ys) ≡ filled xs ++ filled ys
unfolding filled
filled_append [] ys = refl
filled_append (byte n ∷ xs) ys = ap (λ (m : List ℕ). n ∷ m) (filled_append xs ys)
filled_append (silent ∷ xs) ys = ap (λ (m : List ℕ). 0 ∷ m) (filled_append xs ys)

-- ---- one field more
-- what is stored after what lies over the front lies over the front with it
over_next : (x y e : List ℕ) → replaced (over x e) (length x) (length y) y ≡ over (x ++ y) e
over_next x y e =
    rw (take-append_seam x (drop (length x) e), drop-append-add x (drop (length x) e) (length y), drop-drop (length y) (length x) e, length-append x y)

-- the first o bytes of `q` are what a writer writes of `fs`; after them is what was in `e`
pub record Front (e : List ℕ) (o : ℕ) (fs : List Field) (q : List ℕ) : Type 0 where
  pub ends : width fs ≡ o
  pub front : q ≡ over (filled (cells fs)) e

pub nothing : (e : List ℕ) → Front e 0 [] e
unfolding cells width filled
nothing e = record { ends = refl; front = refl }

-- what a function that writes the first fields leaves
pub begun : (e : List ℕ) {q : List ℕ} (fs : List Field) → q ≡ over (filled (cells fs)) e → Front e (width fs) fs q
begun e fs h = record { ends = refl; front = h }

-- fields stored where those before them end
pub more : {e q r : List ℕ} {o k : ℕ} {fs : List Field} (gs : List Field) → width gs ≡ k → Front e o fs q → r ≡ replaced q o k (filled (cells gs)) → Front e (o + k) (fs ++ gs) r
more {e} {q} {r} {o} {k} {fs} gs w t s =
    let x = filled (cells fs) in
    let y = filled (cells gs) in
    let p : o ≡ length x = sym (length_filled (cells fs) ∙ length_cells fs ∙ t.ends) in
    let n : k ≡ length y = sym (length_filled (cells gs) ∙ length_cells gs ∙ w) in
    let z : filled (cells (fs ++ gs)) ≡ x ++ y = ap filled (cells_append fs gs) ∙ filled_append (cells fs) (cells gs) in
    let f : r ≡ over (filled (cells (fs ++ gs))) e = s ∙ rw (t.front, p, n, z) (over_next x y e) in
    record { ends = width_append fs gs ∙ ap₂ (λ (i j : ℕ). i + j) t.ends w; front = f }

-- one field
pub next : {e q r : List ℕ} {o : ℕ} {fs : List Field} (f : Field) → Front e o fs q → r ≡ replaced q o (field_width f) (field_written f) → Front e (o + field_width f) (fs ++ (f ∷ [])) r
unfolding cells width
next {e} {q} {r} {o} {fs} f t s =
    let w : width (f ∷ []) ≡ field_width f = add-zero (field_width f) in
    let y : filled (cells (f ∷ [])) ≡ field_written f = ap filled (append-nil (field_cells f)) ∙ field_written_law f in
    more (f ∷ []) w t (rw y s)

-- a padding of no bytes is there
pub no_padding : {e q : List ℕ} {o : ℕ} {fs : List Field} → Front e o fs q → Front e o (fs ++ (padding 0 ∷ [])) q
unfolding cells width
no_padding {e} {q} {o} {fs} t =
    record {
      ends = width_append fs (padding 0 ∷ []) ∙ add-zero (width fs) ∙ t.ends;
      front = t.front ∙ ap (λ (c : List Cell). over (filled c) e) (sym (cells_append fs (padding 0 ∷ []) ∙ append-nil (cells fs)));
    }

-- ---- bytes in their field, with zeros after them
padded_split : (k n : ℕ) (l : List ℕ) → k ≡ length l + n → padded k l ≡ l ++ padded n []
padded_split k n [] e = let q : k ≡ n = omega arith in rw q
padded_split zero n (x ∷ l) e = absurd (omega arith)
padded_split (suc k) n (x ∷ l) e = ap (λ (m : List ℕ). x ∷ m) (padded_split k n l (omega arith))

pub padded_stored : (b l q r : List ℕ) (o k n : ℕ) → k ≡ length l + n → o + k ≤ length b
    → q ≡ replaced b o (length l) l → r ≡ replaced q (o + length l) n (padded n []) → r ≡ replaced b o k (padded k l)
padded_stored b l q r o k n z h e f = f ∙ rw (e, padded_split k n l z, z) (replaced_twice b o (length l) n l (padded n []) refl (omega arith))

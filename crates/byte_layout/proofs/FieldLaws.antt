-- The two laws of a layout: what its cells, lying in a buffer, say of the values that are stored there, and back. Proved once for
-- each kind of field, and lifted to fields in a row.
use Prim.Native.Nat.{ℕ, zero, suc, ◌+◌, ◌/◌, ◌^◌, ◌<◌}
use mathlib.Core.Path.{◌≡◌, refl, sym, ap, ap₂, ◌∙◌, subst}
use mathlib.Core.List.{List, [], ◌∷◌, ◌++◌, append_assoc}
use native.Mathlib.Omega.{arith}
use native.Mathlib.Nat.{not-suc-le-zero, le_of_suc-le-suc}
use lib.ListN.{length, get_or, length-append}
use Rattle.words.specs.Words.{number_at, little_endian}
use Rattle.words.proofs.Widths.{length_bytes}
use Rattle.byte_layout.specs.Fields.{Cell, Field, bytes, silence, padded, text_cells, field_cells, field_width, FieldFits, cells, width, Fits}
use Rattle.byte_layout.specs.Fields.{Field.number, Field.raw, Field.text, Field.padding}
use Rattle.byte_layout.specs.Stored.{Bytes, bytes_at, up_to_zero, text_at}
use Rattle.byte_layout.proofs.Cells.{At, at_front, at_append}
use Rattle.byte_layout.proofs.Copies.{length_stored, bytes_at_law}
use Rattle.byte_layout.proofs.Texts.{stops, goes_on_law}

-- what a field says of the buffer that it lies in, at `p`
abbrev pub FieldHolds : List ℕ → ℕ → Field → Type 0
FieldHolds b p (number k n) = number_at b p k ≡ n
FieldHolds b p (raw k l) = bytes_at b p k ≡ l
FieldHolds b p (text k l) = text_at b p k ≡ l
FieldHolds b p (padding k) = Unit {0}

-- ---- lengths
length_cells_of : (l : List ℕ) → length (bytes l) ≡ length l
length_cells_of [] = refl
length_cells_of (x ∷ l) = ap suc (length_cells_of l)

length_silence : (k : ℕ) → length (silence k) ≡ k
length_silence zero = refl
length_silence (suc k) = ap suc (length_silence k)

pub length_padded : (k : ℕ) (l : List ℕ) → length (padded k l) ≡ k
length_padded zero l = refl
length_padded (suc k) [] = ap suc (length_padded k [])
length_padded (suc k) (x ∷ l) = ap suc (length_padded k l)

length_text : (k : ℕ) (l : List ℕ) → length (text_cells k l) ≡ k
length_text zero l = refl
length_text (suc k) [] = ap suc (length_silence k)
length_text (suc k) (x ∷ l) = ap suc (length_text k l)

pub length_field : (f : Field) → length (field_cells f) ≡ field_width f
length_field (number k n) = length_cells_of (little_endian k n) ∙ length_bytes k n
length_field (raw k l) = length_cells_of (padded k l) ∙ length_padded k l
length_field (text k l) = length_text k l
length_field (padding k) = length_silence k

-- ---- one field
-- what is stored fits
pub number_fits : (b : List ℕ) → Bytes b → (o k : ℕ) → number_at b o k < 256 ^ k
unfolding number_at
number_fits b y o zero = omega arith
number_fits b y o (suc k) = let r = number_fits b y (o + 1) k in omega (arith, y o)

raw_byte : (b : List ℕ) → Bytes b → (o k i : ℕ) → i < k → get_or (bytes_at b o k) i 0 < 256
raw_byte b y o k i h = rw (bytes_at_law b o k i h) (y (o + i))

text_fits : (b : List ℕ) → Bytes b → (o k : ℕ) → FieldFits (text k (text_at b o k))
unfolding text_at
text_fits b y o zero = (omega arith, λ i h. absurd (not-suc-le-zero h))
text_fits b y o (suc k) = go (get_or b o 0) (text_at b (o + 1) k) (y o) (text_fits b y (o + 1) k)
  where
    go : (x : ℕ) (l : List ℕ) → x < 256 → FieldFits (text k l) → FieldFits (text (suc k) (up_to_zero x l))
    go zero l s r = (omega arith, λ i h. absurd (not-suc-le-zero h))
    go (suc x) l s r = (omega (arith, r.0), each)
      where
        each : (i : ℕ) → i < suc (length l) → (0 < get_or (suc x ∷ l) i 0) × (get_or (suc x ∷ l) i 0 < 256)
        each zero h = (omega arith, s)
        each (suc i) h = r.1 i (le_of_suc-le-suc h)

module _ (b : List ℕ) where
  from_number : (o k n : ℕ) → n < 256 ^ k → At b o (bytes (little_endian k n)) → number_at b o k ≡ n
  unfolding number_at
  from_number o zero n r h = omega arith
  from_number o (suc k) n r h = let t = from_number (o + 1) k (n / 256) (omega arith) h.1 in omega (arith, h.0)

  to_number : Bytes b → (o k n : ℕ) → number_at b o k ≡ n → At b o (bytes (little_endian k n))
  unfolding number_at
  to_number y o zero n e = tt
  to_number y o (suc k) n e = (omega (arith, y o), to_number y (o + 1) k (n / 256) (omega (arith, y o)))

  from_raw : (o k : ℕ) (l : List ℕ) → length l ≡ k → At b o (bytes (padded k l)) → bytes_at b o k ≡ l
  unfolding bytes_at
  from_raw o zero [] r h = refl
  from_raw o zero (x ∷ l) r h = absurd (omega arith)
  from_raw o (suc k) [] r h = absurd (omega arith)
  from_raw o (suc k) (x ∷ l) r h = ap₂ (λ (y : ℕ) (m : List ℕ). y ∷ m) h.0 (from_raw (o + 1) k l (omega arith) h.1)

  to_raw : (o k : ℕ) → At b o (bytes (padded k (bytes_at b o k)))
  unfolding bytes_at
  to_raw o zero = tt
  to_raw o (suc k) = (refl, to_raw (o + 1) k)

  pub at_silence : (o k : ℕ) → At b o (silence k)
  at_silence o zero = tt
  at_silence o (suc k) = at_silence (o + 1) k

  pub from_text : (o k : ℕ) (l : List ℕ) → FieldFits (text k l) → At b o (text_cells k l) → text_at b o k ≡ l
  unfolding text_at
  from_text o zero [] r h = refl
  from_text o zero (x ∷ l) r h = absurd (omega (arith, r.0))
  from_text o (suc k) [] r h = stops (get_or b o 0) _ h.0
  from_text o (suc k) (x ∷ l) r h =
      goes_on_law (get_or b o 0) _ (λ e. omega (arith, r.1 0 (omega arith), h.0))
      ∙ ap₂ (λ (y : ℕ) (m : List ℕ). y ∷ m) h.0 (from_text (o + 1) k l (omega (arith, r.0), λ i s. r.1 (suc i) (omega arith)) h.1)

  pub to_text : (o k : ℕ) → At b o (text_cells k (text_at b o k))
  unfolding text_at
  to_text o zero = tt
  to_text o (suc k) = go (get_or b o 0) refl (to_text (o + 1) k)
    where
      go : (x : ℕ) → get_or b o 0 ≡ x → At b (o + 1) (text_cells k (text_at b (o + 1) k)) → At b o (text_cells (suc k) (up_to_zero x (text_at b (o + 1) k)))
      go zero e h = (e, at_silence (o + 1) k)
      go (suc x) e h = (e, h)

  from_field : (p : ℕ) (f : Field) → FieldFits f → At b p (field_cells f) → FieldHolds b p f
  from_field p (number k n) r h = from_number p k n r h
  from_field p (raw k l) r h = from_raw p k l r.0 h
  from_field p (text k l) r h = from_text p k l r h
  from_field p (padding k) r h = tt

  to_field : Bytes b → (p : ℕ) (f : Field) → FieldHolds b p f → At b p (field_cells f)
  to_field y p (number k n) h = to_number y p k n h
  to_field y p (raw k l) h = rw (← h) (to_raw p k)
  to_field y p (text k l) h = rw (← h) (to_text p k)
  to_field y p (padding k) h = at_silence p k

  field_fits : Bytes b → (p : ℕ) (f : Field) → FieldHolds b p f → FieldFits f
  field_fits y p (number k n) h = rw h at (number_fits b y p k)
  field_fits y p (raw k l) h = subst (λ (m : List ℕ). FieldFits (raw k m)) h (length_stored b p k, raw_byte b y p k)
  field_fits y p (text k l) h = subst (λ (m : List ℕ). FieldFits (text k m)) h (text_fits b y p k)
  field_fits y p (padding k) h = tt

-- ---- fields in a row. Offsets `j` are counted from `o`, so that they compute where they are literals
abbrev pub Holds : List ℕ → ℕ → ℕ → List Field → Type 0
Holds b o j [] = Unit {0}
Holds b o j (f ∷ fs) = FieldHolds b (o + j) f × Holds b o (j + field_width f) fs

pub length_cells : (fs : List Field) → length (cells fs) ≡ width fs
unfolding cells width
length_cells [] = refl
length_cells (f ∷ fs) = length-append (field_cells f) (cells fs) ∙ ap₂ (λ (x y : ℕ). x + y) (length_field f) (length_cells fs)

module _ (b : List ℕ) where
  pub from_cells : (o j p : ℕ) (fs : List Field) → p ≡ o + j → Fits fs → At b p (cells fs) → Holds b o j fs
  unfolding cells Fits
  from_cells o j p [] e r h = tt
  from_cells o j p (f ∷ fs) e r h =
      let t = at_front b p (p + field_width f) (field_cells f) (cells fs) (omega (arith, length_field f)) h in
      (rw (← e) (from_field b p f r.0 t.0), from_cells o (j + field_width f) (p + field_width f) fs (omega arith) r.1 t.1)

  pub to_cells : Bytes b → (o j p : ℕ) (fs : List Field) → p ≡ o + j → Holds b o j fs → At b p (cells fs)
  unfolding cells
  to_cells y o j p [] e h = tt
  to_cells y o j p (f ∷ fs) e h =
      at_append b p (p + field_width f) (field_cells f) (cells fs) (omega (arith, length_field f)) (to_field b y p f (rw e h.0))
      (to_cells y o (j + field_width f) (p + field_width f) fs (omega arith) h.1)

  -- what is stored fits its fields
  pub holds_fit : Bytes b → (o j : ℕ) (fs : List Field) → Holds b o j fs → Fits fs
  unfolding Fits
  holds_fit y o j [] h = tt
  holds_fit y o j (f ∷ fs) h = (field_fits b y (o + j) f h.0, holds_fit y o (j + field_width f) fs h.1)

  -- the same, counted from elsewhere
  pub shift : (o j q i : ℕ) (fs : List Field) → o + j ≡ q + i → Holds b o j fs → Holds b q i fs
  shift o j q i [] e h = tt
  shift o j q i (f ∷ fs) e h = (rw (← e) h.0, shift o (j + field_width f) q (i + field_width f) fs (omega arith) h.1)

  pub holds_front : (o j i : ℕ) (xs ys : List Field) → i ≡ j + width xs → Holds b o j (xs ++ ys) → Holds b o j xs × Holds b o i ys
  unfolding width
  holds_front o j i [] ys e h = (tt, shift o j o i ys (omega arith) h)
  holds_front o j i (f ∷ xs) ys e h = let t = holds_front o (j + field_width f) i xs ys (omega arith) h.1 in ((h.0, t.0), t.1)

  pub holds_append : (o j i : ℕ) (xs ys : List Field) → i ≡ j + width xs → Holds b o j xs → Holds b o i ys → Holds b o j (xs ++ ys)
  unfolding width
  holds_append o j i [] ys e g h = shift o i o j ys (omega arith) h
  holds_append o j i (f ∷ xs) ys e g h = (g.0, holds_append o (j + field_width f) i xs ys (omega arith) g.1 h)

pub fits_front : (xs ys : List Field) → Fits (xs ++ ys) → Fits xs × Fits ys
unfolding Fits
fits_front [] ys r = (tt, r)
fits_front (f ∷ xs) ys r = let t = fits_front xs ys r.1 in ((r.0, t.0), t.1)

pub fits_append : (xs ys : List Field) → Fits xs → Fits ys → Fits (xs ++ ys)
unfolding Fits
fits_append [] ys f g = g
fits_append (x ∷ xs) ys f g = (f.0, fits_append xs ys f.1 g)

pub width_append : (xs ys : List Field) → width (xs ++ ys) ≡ width xs + width ys
unfolding width
width_append [] ys = omega arith
width_append (f ∷ xs) ys = let r = width_append xs ys in omega arith

pub cells_append : (xs ys : List Field) → cells (xs ++ ys) ≡ cells xs ++ cells ys
unfolding cells
cells_append [] ys = refl
cells_append (f ∷ xs) ys = ap (λ (c : List Cell). field_cells f ++ c) (cells_append xs ys) ∙ sym (append_assoc (field_cells f) (cells xs) (cells ys))

-- Two buffers that are equal at the bytes of some fields that are not silent hold the same values there. Only which cells are silent is
-- used, not what the others say, so that the buffers' elements need not be bytes.
use Prim.Native.Nat.{ℕ, zero, suc, ◌+◌, ◌/◌, ◌<◌}
use mathlib.Core.Path.{◌≡◌, refl, sym, ◌∙◌}
use mathlib.Core.List.{List, [], ◌∷◌, ◌++◌}
use native.Mathlib.Omega.{arith}
use native.Mathlib.Nat.{add-zero}
use lib.ListN.{length, get_or}
use Rattle.words.specs.Words.{number_at, little_endian}
use Rattle.byte_layout.specs.Fields.{Cell, Field, bytes, padded, text_cells, field_cells, field_width, cells, SilentAt}
use Rattle.byte_layout.specs.Fields.{Cell.byte, Cell.silent, Field.number, Field.raw, Field.text, Field.padding}
use Rattle.byte_layout.specs.Stored.{bytes_at, up_to_zero, text_at}
use Rattle.byte_layout.proofs.Cells.{not_silent}
use Rattle.byte_layout.proofs.FieldLaws.{FieldHolds, Holds, length_field}

module _ (b d : List ℕ) where
  -- d is as b from `o` on at the cells that are not silent
  abbrev pub Same : ℕ → List Cell → Type 0
  Same o [] = Unit {0}
  Same o (byte n ∷ cs) = (get_or d o 0 ≡ get_or b o 0) × Same (o + 1) cs
  Same o (silent ∷ cs) = Same (o + 1) cs

  next : (o i : ℕ) → get_or d (o + suc i) 0 ≡ get_or b (o + suc i) 0 → get_or d (o + 1 + i) 0 ≡ get_or b (o + 1 + i) 0
  next o i e = let q : o + 1 + i ≡ o + suc i = omega arith in rw q e

  pub same_along : (o : ℕ) (cs : List Cell) → ((i : ℕ) → i < length cs → (SilentAt cs i → ⊥) → get_or d (o + i) 0 ≡ get_or b (o + i) 0) → Same o cs
  same_along o [] h = tt
  same_along o (byte n ∷ cs) h = (rw add-zero at (h 0 (omega arith) (λ e. not_silent n (sym e))), same_along (o + 1) cs (λ i l s. next o i (h (suc i) (omega arith) s)))
  same_along o (silent ∷ cs) h = same_along (o + 1) cs (λ i l s. next o i (h (suc i) (omega arith) s))

  same_front : (o p : ℕ) (xs ys : List Cell) → p ≡ o + length xs → Same o (xs ++ ys) → Same o xs × Same p ys
  same_front o p [] ys e h = let q : p ≡ o = omega arith in (tt, rw q h)
  same_front o p (byte n ∷ xs) ys e h = let t = same_front (o + 1) p xs ys (omega arith) h.1 in ((h.0, t.0), t.1)
  same_front o p (silent ∷ xs) ys e h = same_front (o + 1) p xs ys (omega arith) h

  -- ---- one field
  same_number : (o k n : ℕ) → Same o (bytes (little_endian k n)) → number_at d o k ≡ number_at b o k
  unfolding number_at
  same_number o zero n h = refl
  same_number o (suc k) n h = rw (h.0, same_number (o + 1) k (n / 256) h.1)

  -- the same of any k bytes
  pub number_alike : (o k : ℕ) → ((i : ℕ) → i < k → get_or d (o + i) 0 ≡ get_or b (o + i) 0) → number_at d o k ≡ number_at b o k
  number_alike o k h = same_number o k 0 (same_along o (field_cells (number k 0)) (λ i l s. h i (omega (arith, length_field (number k 0)))))

  same_raw : (o k : ℕ) (l : List ℕ) → Same o (bytes (padded k l)) → bytes_at d o k ≡ bytes_at b o k
  unfolding bytes_at
  same_raw o zero l h = refl
  same_raw o (suc k) [] h = rw (h.0, same_raw (o + 1) k [] h.1)
  same_raw o (suc k) (x ∷ l) h = rw (h.0, same_raw (o + 1) k l h.1)

  pub same_text : (o k : ℕ) → Same o (text_cells k (text_at b o k)) → text_at d o k ≡ text_at b o k
  unfolding text_at
  same_text o zero h = refl
  same_text o (suc k) h = go (get_or b o 0) refl (same_text (o + 1) k) h
    where
      go : (x : ℕ) → get_or b o 0 ≡ x → (Same (o + 1) (text_cells k (text_at b (o + 1) k)) → text_at d (o + 1) k ≡ text_at b (o + 1) k)
          → Same o (text_cells (suc k) (up_to_zero x (text_at b (o + 1) k))) → up_to_zero (get_or d o 0) (text_at d (o + 1) k) ≡ up_to_zero x (text_at b (o + 1) k)
      go zero e r h = rw (h.0, e)
      go (suc x) e r h = rw (h.0, e, r h.1)

  same_field : (p : ℕ) (f : Field) → Same p (field_cells f) → FieldHolds b p f → FieldHolds d p f
  same_field p (number k n) s h = same_number p k n s ∙ h
  same_field p (raw k l) s h = same_raw p k l s ∙ h
  same_field p (text k l) s h = same_text p k (rw h s) ∙ h
  same_field p (padding k) s h = tt

  -- ---- fields in a row
  pub same_holds : (o j p : ℕ) (fs : List Field) → p ≡ o + j → Same p (cells fs) → Holds b o j fs → Holds d o j fs
  unfolding cells
  same_holds o j p [] e s h = tt
  same_holds o j p (f ∷ fs) e s h =
      let t = same_front p (p + field_width f) (field_cells f) (cells fs) (omega (arith, length_field f)) s in
      (rw (← e) (same_field p f t.0 (rw e h.0)), same_holds o (j + field_width f) (p + field_width f) fs (omega arith) t.1 h.1)

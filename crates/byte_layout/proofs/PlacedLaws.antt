-- Laws of placed fields: what a second buffer needs to be opened alike, one row as a layout, and a text at its place.
use Prim.Native.Nat.{ℕ, zero, suc, ◌+◌, ◌≤◌, ◌<◌}
use mathlib.Core.Path.{◌≡◌, refl, sym, ◌∙◌, subst}
use mathlib.Core.Logic.{◌↔◌}
use mathlib.Core.List.{List, [], ◌∷◌, ◌++◌, append-nil}
use native.Mathlib.Omega.{arith}
use native.Mathlib.Nat.{zero-add}
use lib.ListN.{length, get_or}
use Rattle.byte_layout.specs.Fields.{Field, FieldFits, silence, text_cells, cells, width, Opens, SilentAt}
use Rattle.byte_layout.specs.Fields.{Field.text}
use Rattle.byte_layout.specs.Stored.{text_at, closed}
use Rattle.byte_layout.specs.Placed.{LiesAt, PlacedOpens, PlacedSilent, PlacedWithin}
use Rattle.byte_layout.proofs.Cells.{At, along, index, not_silent}
use Rattle.byte_layout.proofs.FieldLaws.{from_text, to_text, length_cells}
use Rattle.byte_layout.proofs.Runs.{StandsAt, closed_lies}

-- rows that open a buffer open every other that has room for them and differs in silent bytes only
pub placed_over : (b d : List ℕ) (n : ℕ) (rows : ℕ → List Field → Type 0) → PlacedOpens b n rows → PlacedWithin n rows → n ≤ length d
    → ((i : ℕ) → i < n → (PlacedSilent rows i → ⊥) → get_or d i 0 ≡ get_or b i 0) → PlacedOpens d n rows
placed_over b d n rows h w l s =
    record {
      within = l;
      lies = λ o fs r i m k e.
          s (o + i) (omega (arith, w o fs r, length_cells fs)) (λ z. not_silent m (sym (z o i fs r refl) ∙ e)) ∙ h.lies o fs r i m k e;
    }

-- ---- one row from byte 0 on is a layout as in Fields
pub data OneRow (fs : List Field) : ℕ → List Field → Type 0 where
  row : OneRow fs 0 fs

pub one_row_opens : (b : List ℕ) (fs : List Field) → Opens b (cells fs) ↔ PlacedOpens b (width fs) (OneRow fs)
one_row_opens b fs = (there, back)
  where
    there : Opens b (cells fs) → PlacedOpens b (width fs) (OneRow fs)
    there h = record { within = omega (arith, h.0, length_cells fs); lies = lies }
      where
        lies : (o : ℕ) (gs : List Field) → OneRow fs o gs → LiesAt b o (cells gs)
        lies o gs row i n l e = rw zero-add (h.1 i n l e)

    back : PlacedOpens b (width fs) (OneRow fs) → Opens b (cells fs)
    back h = (omega (arith, h.within, length_cells fs), λ i n l e. rw zero-add at (h.lies 0 fs row i n l e))

pub one_row_silent : (fs : List Field) (i : ℕ) → SilentAt (cells fs) i ↔ PlacedSilent (OneRow fs) i
one_row_silent fs i = (there, λ h. h 0 i fs row (sym (zero-add i)))
  where
    there : SilentAt (cells fs) i → PlacedSilent (OneRow fs) i
    there h o k gs row e = let q : k ≡ i = omega arith in rw q h

-- ---- a text in a field of k bytes from `o` on
module _ (b : List ℕ) (o k : ℕ) (l : List ℕ) where
  one_field : At b o (text_cells k l) → LiesAt b o (cells (text k l ∷ []))
  unfolding cells
  one_field h = index b o (text_cells k l ++ []) (rw append-nil h)

  pub text_said : FieldFits (text k l) → LiesAt b o (cells (text k l ∷ [])) → text_at b o k ≡ l
  unfolding cells
  text_said f h = from_text b o k l f (rw append-nil at (along b o (text_cells k l ++ []) h))

  pub text_lies : text_at b o k ≡ l → LiesAt b o (cells (text k l ∷ []))
  text_lies e = one_field (subst (λ (m : List ℕ). At b o (text_cells k m)) e (to_text b o k))

  pub closed_text_lies : StandsAt b o (closed l) → LiesAt b o (cells (text k l ∷ []))
  closed_text_lies h = one_field (closed_lies b o k l h)

-- its bytes and its closing zero are said, and what follows is silent
said : (k : ℕ) (l : List ℕ) (i : ℕ) → length l < k → i ≤ length l → SilentAt (text_cells k l) i → ⊥
said zero l i h g e = omega arith
said (suc k) [] zero h g e = not_silent 0 (sym e)
said (suc k) [] (suc i) h g e = omega arith
said (suc k) (x ∷ l) zero h g e = not_silent x (sym e)
said (suc k) (x ∷ l) (suc i) h g e = said k l i (omega arith) (omega arith) e

all_silent : (k i : ℕ) → SilentAt (silence k) i
all_silent zero i = refl
all_silent (suc k) zero = refl
all_silent (suc k) (suc i) = all_silent k i

after : (k : ℕ) (l : List ℕ) (i : ℕ) → length l < i → SilentAt (text_cells k l) i
after zero l i h = refl
after (suc k) [] zero h = absurd (omega arith)
after (suc k) [] (suc i) h = all_silent k i
after (suc k) (x ∷ l) zero h = absurd (omega arith)
after (suc k) (x ∷ l) (suc i) h = after k l i (omega arith)

pub text_said_at : (k : ℕ) (l : List ℕ) (i : ℕ) → length l < k → i ≤ length l → SilentAt (cells (text k l ∷ [])) i → ⊥
unfolding cells
text_said_at k l i h g e = said k l i h g (rw append-nil at e)

pub text_silent_at : (k : ℕ) (l : List ℕ) (i : ℕ) → length l < i → SilentAt (cells (text k l ∷ [])) i
unfolding cells
text_silent_at k l i h = rw append-nil (after k l i h)

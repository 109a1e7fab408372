-- Runs of bytes stored one after the other, all of them in room, and the cells that lie where a run stands. A writer's contract is
-- `exit ≡ replaced entry at n x`; `grown` joins two of them.
use Prim.Native.Nat.{ℕ, zero, suc, ◌+◌, ◌≤◌, ◌<◌}
use mathlib.Core.Path.{◌≡◌, refl, sym, ap, ap₂, ◌∙◌}
use mathlib.Core.List.{List, [], ◌∷◌, ◌++◌, append-nil}
use native.Mathlib.Omega.{arith}
use native.Mathlib.Nat.{zero-add, add-zero}
use lib.ListN.{length, get_or, drop, length-append, get_or-append}
use lib.Seq.{get_or-append-add}
use Rattle.words.specs.Words.{replaced}
use Rattle.words.proofs.Widths.{replaced_twice}
use Rattle.words.proofs.Stores.{within_it, replaced_none}
use Rattle.byte_layout.specs.Fields.{Cell, Field, text_cells, field_cells, field_width, cells, width, filled}
use Rattle.byte_layout.specs.Stored.{over, closed}
use Rattle.byte_layout.proofs.Cells.{At, along, length_filled, filled_opens}
use Rattle.byte_layout.proofs.FieldLaws.{at_silence, length_cells, width_append, cells_append}
use Rattle.byte_layout.proofs.Written.{field_written, field_written_law, filled_append}

-- ---- stores, one after the other
pub grown : (e q r x y : List ℕ) (a n k : ℕ) → length x ≡ n → a + n ≤ length e
    → q ≡ replaced e a n x → r ≡ replaced q (a + n) k y → r ≡ replaced e a (n + k) (x ++ y)
grown e q r x y a n k l h s t = t ∙ ap (λ (b : List ℕ). replaced b (a + n) k y) s ∙ replaced_twice e a n k x y l h

-- a run from byte 0 on is one over the front
pub front_over : (b x : List ℕ) (n : ℕ) → length x ≡ n → replaced b 0 n x ≡ over x b
front_over b x n l = let q : 0 + n ≡ length x = omega arith in rw q refl

-- what a writer writes of `fs` stands in the o bytes of `q` from `a` on; the others are as in `e`
pub record Laid (e : List ℕ) (a o : ℕ) (fs : List Field) (q : List ℕ) : Type 0 where
  pub ends : width fs ≡ o
  pub laid : q ≡ replaced e a o (filled (cells fs))

pub laid_none : (e : List ℕ) (a : ℕ) → Laid e a 0 [] e
unfolding cells width filled
laid_none e a = record { ends = refl; laid = sym (replaced_none e a) }

-- one field more
pub laid_next : {e q r : List ℕ} {a o : ℕ} {fs : List Field} (f : Field) → a + o ≤ length e → Laid e a o fs q
    → r ≡ replaced q (a + o) (field_width f) (field_written f)
    → Laid e a (o + field_width f) (fs ++ (f ∷ [])) r
unfolding cells width
laid_next {e} {q} {r} {a} {o} {fs} f h t s =
    let n : length (filled (cells fs)) ≡ o = length_filled (cells fs) ∙ length_cells fs ∙ t.ends in
    let y : filled (cells (f ∷ [])) ≡ field_written f = ap filled (append-nil (field_cells f)) ∙ field_written_law f in
    let z : filled (cells (fs ++ (f ∷ []))) ≡ filled (cells fs) ++ field_written f =
    ap filled (cells_append fs (f ∷ [])) ∙ filled_append (cells fs) (cells (f ∷ [])) ∙ ap (λ (l : List ℕ). filled (cells fs) ++ l) y in
    record {
      ends = width_append fs (f ∷ []) ∙ ap₂ (λ (i j : ℕ). i + j) t.ends (add-zero (field_width f));
      laid =
          grown e q r (filled (cells fs)) (field_written f) a o (field_width f) n h t.laid s
          ∙ ap (replaced e a (o + field_width f)) (sym z);
    }

-- ---- a run that stands from `o` on
abbrev pub StandsAt : List ℕ → ℕ → List ℕ → Type 0
StandsAt b o x = (i : ℕ) → i < length x → get_or b (o + i) 0 ≡ get_or x i 0

pub stands_over : (x b : List ℕ) → StandsAt (over x b) 0 x
stands_over x b i h = rw zero-add (get_or-append x (drop (length x) b) 0 i h)

pub stands_stored : (b x : List ℕ) (o n : ℕ) → length x ≡ n → o ≤ length b → StandsAt (replaced b o n x) o x
stands_stored b x o n l h i k = within_it b x o n l h i (omega arith)

module _ (b : List ℕ) where
  pub stands_front : (o : ℕ) (x y : List ℕ) → StandsAt b o (x ++ y) → StandsAt b o x
  stands_front o x y h i l = h i (omega (arith, length-append x y)) ∙ get_or-append x y 0 i l

  pub stands_back : (o p : ℕ) (x y : List ℕ) → p ≡ o + length x → StandsAt b o (x ++ y) → StandsAt b p y
  stands_back o p x y e h i l =
      let q : p + i ≡ o + (length x + i) = omega arith in
      rw q (h (length x + i) (omega (arith, length-append x y)) ∙ get_or-append-add x y i 0)

  -- the cells that a writer wrote of lie there
  pub stands_lies : (o : ℕ) (cs : List Cell) → StandsAt b o (filled cs) → At b o cs
  stands_lies o cs h = along b o cs (λ i n l e. h i (omega (arith, length_filled cs)) ∙ (filled_opens cs).1 i n l e)

  -- and those of a text, in a field however wide, where it stands with its closing zero
  pub closed_lies : (o k : ℕ) (l : List ℕ) → StandsAt b o (closed l) → At b o (text_cells k l)
  closed_lies o zero l h = tt
  closed_lies o (suc k) [] h = (rw add-zero at (h 0 (omega arith)), at_silence b (o + 1) k)
  closed_lies o (suc k) (x ∷ l) h = (
    rw add-zero at (h 0 (omega arith)),
    closed_lies (o + 1) k l
        (λ i m. let q : o + 1 + i ≡ o + suc i = omega arith in rw q (h (suc i) (omega arith))),
  )

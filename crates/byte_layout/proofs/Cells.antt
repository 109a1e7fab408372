-- Cells that lie in a buffer: by index, as the definitions say it, and along the list, as proofs by induction want it.
use Prim.Native.Nat.{ℕ, zero, suc, ◌+◌, ◌≤◌, ◌<◌}
use mathlib.Core.Path.{◌≡◌, refl, sym, ap, ap₂, ◌∙◌}
use mathlib.Core.List.{List, [], ◌∷◌, ◌++◌}
use native.Mathlib.Omega.{arith}
use native.Mathlib.Nat.{not-suc-le-zero, le_of_suc-le-suc, add-zero, zero-add}
use lib.ListN.{length, get_or, take}
use Rattle.byte_layout.specs.Fields.{Cell, filled, Opens, SilentAt}
use Rattle.byte_layout.specs.Fields.{Cell.byte, Cell.silent}

-- the cells lie from `o` on
abbrev pub At : List ℕ → ℕ → List Cell → Type 0
At b o [] = Unit {0}
At b o (byte n ∷ cs) = (get_or b o 0 ≡ n) × At b (o + 1) cs
At b o (silent ∷ cs) = At b (o + 1) cs

same_byte : (x y : ℕ) → byte x ≡ byte y → x ≡ y
same_byte x y e = cc

pub not_silent : (n : ℕ) → silent ≡ byte n → ⊥
not_silent n e = let z : ◌≡◌ {A = ℕ} 0 1 = cc in omega arith

next : (b : List ℕ) (o i n : ℕ) → get_or b (o + suc i) 0 ≡ n → get_or b (o + 1 + i) 0 ≡ n
next b o i n e = let q : o + 1 + i ≡ o + suc i = omega arith in rw q e

pub along : (b : List ℕ) (o : ℕ) (cs : List Cell) → ((i n : ℕ) → i < length cs → get_or cs i silent ≡ byte n → get_or b (o + i) 0 ≡ n) → At b o cs
along b o [] h = tt
along b o (byte n ∷ cs) h = (rw add-zero at (h 0 n (omega arith) refl), along b (o + 1) cs (λ i m l e. next b o i m (h (suc i) m (omega arith) e)))
along b o (silent ∷ cs) h = along b (o + 1) cs (λ i m l e. next b o i m (h (suc i) m (omega arith) e))

pub index : (b : List ℕ) (o : ℕ) (cs : List Cell) → At b o cs → (i n : ℕ) → i < length cs → get_or cs i silent ≡ byte n → get_or b (o + i) 0 ≡ n
index b o [] h i n l e = absurd (not-suc-le-zero l)
index b o (byte m ∷ cs) h zero n l e = rw add-zero (h.0 ∙ same_byte m n e)
index b o (byte m ∷ cs) h (suc i) n l e = let q : o + suc i ≡ o + 1 + i = omega arith in rw q (index b (o + 1) cs h.1 i n (le_of_suc-le-suc l) e)
index b o (silent ∷ cs) h zero n l e = absurd (not_silent n e)
index b o (silent ∷ cs) h (suc i) n l e = let q : o + suc i ≡ o + 1 + i = omega arith in rw q (index b (o + 1) cs h i n (le_of_suc-le-suc l) e)

-- cells that lie at one place lie wherever the same bytes stand
pub at_moved : (b d : List ℕ) (o p : ℕ) (cs : List Cell) → ((i : ℕ) → i < length cs → get_or d (p + i) 0 ≡ get_or b (o + i) 0) → At b o cs → At d p cs
at_moved b d o p cs s h = along d p cs (λ i n k e. s i k ∙ index b o cs h i n k e)

pub opens_at : (b : List ℕ) (cs : List Cell) → Opens b cs → At b 0 cs
opens_at b cs h = along b 0 cs (λ i n l e. rw zero-add (h.1 i n l e))

pub at_opens : (b : List ℕ) (cs : List Cell) → length cs ≤ length b → At b 0 cs → Opens b cs
at_opens b cs f h = (f, λ i n l e. rw zero-add at (index b 0 cs h i n l e))

-- cells that open a buffer open every other that is as long and differs in silent cells only
pub opens_over : (b c : List ℕ) (cs : List Cell) → Opens b cs → length cs ≤ length c
    → ((i : ℕ) → i < length cs → (SilentAt cs i → ⊥) → get_or c i 0 ≡ get_or b i 0) → Opens c cs
opens_over b c cs h l s = (l, λ i n k e. s i k (λ z. not_silent n (sym z ∙ e)) ∙ h.1 i n k e)

-- ---- what a writer writes of cells: they open it
pub length_filled : (cs : List Cell) → length (filled cs) ≡ length cs
unfolding filled
length_filled [] = refl
length_filled (byte x ∷ cs) = ap suc (length_filled cs)
length_filled (silent ∷ cs) = ap suc (length_filled cs)

filled_byte : (cs : List Cell) (i n : ℕ) → get_or cs i silent ≡ byte n → get_or (filled cs) i 0 ≡ n
unfolding filled
filled_byte [] i n e = absurd (not_silent n e)
filled_byte (byte m ∷ cs) zero n e = same_byte m n e
filled_byte (byte m ∷ cs) (suc i) n e = filled_byte cs i n e
filled_byte (silent ∷ cs) zero n e = absurd (not_silent n e)
filled_byte (silent ∷ cs) (suc i) n e = filled_byte cs i n e

pub filled_opens : (cs : List Cell) → Opens (filled cs) cs
filled_opens cs = (omega (arith, length_filled cs), λ i n l e. filled_byte cs i n e)

opens_rest : (c : Cell) (cs : List Cell) (x : ℕ) (b : List ℕ) → Opens (x ∷ b) (c ∷ cs) → Opens b cs
opens_rest c cs x b o = (omega (arith, o.0), λ i n l e. o.1 (suc i) n (omega arith) e)

-- a buffer that cells open and whose silent bytes are zero begins with what a writer writes of them
pub filled_only : (cs : List Cell) (b : List ℕ) → Opens b cs → ((i : ℕ) → i < length cs → SilentAt cs i → get_or b i 0 ≡ 0) → take (length cs) b ≡ filled cs
unfolding filled
filled_only [] b o z = refl
filled_only (c ∷ cs) [] o z = absurd (omega (arith, o.0))
filled_only (byte n ∷ cs) (x ∷ b) o z =
    ap₂ (λ (y : ℕ) (l : List ℕ). y ∷ l) (o.1 0 n (omega arith) refl) (filled_only cs b (opens_rest (byte n) cs x b o) (λ i l e. z (suc i) (omega arith) e))
filled_only (silent ∷ cs) (x ∷ b) o z =
    ap₂ (λ (y : ℕ) (l : List ℕ). y ∷ l) (z 0 (omega arith) refl) (filled_only cs b (opens_rest silent cs x b o) (λ i l e. z (suc i) (omega arith) e))

-- two runs of cells, one after the other
module _ (b : List ℕ) where
  pub at_front : (o p : ℕ) (xs ys : List Cell) → p ≡ o + length xs → At b o (xs ++ ys) → At b o xs × At b p ys
  at_front o p [] ys e h = let q : p ≡ o = omega arith in (tt, rw q h)
  at_front o p (byte n ∷ xs) ys e h = let t = at_front (o + 1) p xs ys (omega arith) h.1 in ((h.0, t.0), t.1)
  at_front o p (silent ∷ xs) ys e h = at_front (o + 1) p xs ys (omega arith) h

  pub at_append : (o p : ℕ) (xs ys : List Cell) → p ≡ o + length xs → At b o xs → At b p ys → At b o (xs ++ ys)
  at_append o p [] ys e g h = let q : o ≡ p = omega arith in rw q h
  at_append o p (byte n ∷ xs) ys e g h = (g.0, at_append (o + 1) p xs ys (omega arith) g.1 h)
  at_append o p (silent ∷ xs) ys e g h = at_append (o + 1) p xs ys (omega arith) g h

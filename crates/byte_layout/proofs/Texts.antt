-- Laws of the text in a field.
use Prim.Native.Nat.{ℕ, zero, suc, ◌+◌, ◌-◌, ◌≤◌, ◌<◌}
use mathlib.Core.Path.{◌≡◌, refl}
use mathlib.Core.List.{List, [], ◌∷◌}
use native.Mathlib.Omega.{arith}
use native.Mathlib.Nat.{not-suc-le-zero}
use lib.Dec.{eqb}
use lib.ListN.{length, take, drop, get_or}
use Rattle.std.specs.List.{position_or_len, position}
use Rattle.std.specs.Option.{unwrap_or}
use Rattle.std.proofs.Common.{Option}
use Rattle.std.proofs.lemmas.Grind.{common_steps}
use Rattle.std.proofs.lemmas.List.{drop_more}
use Rattle.std.proofs.lemmas.Bool.Decides.{nat_tests}
use Rattle.byte_layout.specs.Stored.{up_to_zero, text_at}
use Rattle.byte_layout.proofs.Copies.{text_short}

pub stops : (x : ℕ) (l : List ℕ) → x ≡ 0 → up_to_zero x l ≡ []
stops zero l e = refl
stops (suc x) l e = absurd (omega arith)

pub goes_on_law : (x : ℕ) (l : List ℕ) → (x ≡ 0 → ⊥) → up_to_zero x l ≡ x ∷ l
goes_on_law zero l n = absurd (n refl)
goes_on_law (suc x) l n = refl

pub text_empty : (b : List ℕ) (o : ℕ) → text_at b o 0 ≡ []
unfolding text_at
text_empty b o = refl

-- a zero closes the text
pub text_stop : (b : List ℕ) (o k : ℕ) → get_or b o 0 ≡ 0 → text_at b o k ≡ []
unfolding text_at
text_stop b o zero e = refl
text_stop b o (suc k) e = stops (get_or b o 0) _ e

-- any other byte belongs to it
pub text_next : (b : List ℕ) (o k : ℕ) → 0 < k → (get_or b o 0 ≡ 0 → ⊥) → text_at b o k ≡ get_or b o 0 ∷ text_at b (o + 1) (k - 1)
unfolding text_at
text_next b o zero h n = absurd (not-suc-le-zero h)
text_next b o (suc k) h n = let q : suc k - 1 ≡ k = omega arith in rw q (goes_on_law (get_or b o 0) _ n)

-- the same at byte i of a field of k bytes, as a loop over the field meets it
module _ (b : List ℕ) (o k i : ℕ) where
  pub rest_stop : get_or b (o + i) 0 ≡ 0 → text_at b (o + i) (k - i) ≡ []
  rest_stop e = text_stop b (o + i) (k - i) e

  pub rest_next : i < k → (get_or b (o + i) 0 ≡ 0 → ⊥) → text_at b (o + i) (k - i) ≡ get_or b (o + i) 0 ∷ text_at b (o + (i + 1)) (k - (i + 1))
  rest_next h n =
      let q : o + i + 1 ≡ o + (i + 1) = omega arith in
      let r : k - i - 1 ≡ k - (i + 1) = omega arith in
      rw (text_next b (o + i) (k - i) (omega arith) n, q, r)

-- where the text ends before its field does, there is a zero; and back
pub text_zero : (b : List ℕ) (o k : ℕ) → length (text_at b o k) < k → get_or b (o + length (text_at b o k)) 0 ≡ 0
unfolding text_at
text_zero b o zero h = absurd (not-suc-le-zero h)
text_zero b o (suc k) h = go (get_or b o 0) refl (text_at b (o + 1) k) (text_zero b (o + 1) k) h
  where
    go : (x : ℕ) → get_or b o 0 ≡ x → (l : List ℕ) → (length l < k → get_or b (o + 1 + length l) 0 ≡ 0) → length (up_to_zero x l) < suc k → get_or b (o + length (up_to_zero x l)) 0 ≡ 0
    go zero e l r m = let q : o + 0 ≡ o = omega arith in rw q e
    go (suc x) e l r m = let q : o + suc (length l) ≡ o + 1 + length l = omega arith in rw q (r (omega arith))

pub zero_text : (b : List ℕ) (o k j : ℕ) → j < k → get_or b (o + j) 0 ≡ 0 → length (text_at b o k) < k
unfolding text_at
zero_text b o zero j h e = absurd (not-suc-le-zero h)
zero_text b o (suc k) zero h e = let q : o + 0 ≡ o = omega arith in rw (rw q at e) (omega arith)
zero_text b o (suc k) (suc j) h e =
    let q : o + 1 + j ≡ o + suc j = omega arith in
    go (get_or b o 0) (text_at b (o + 1) k) (zero_text b (o + 1) k j (omega arith) (rw q e))
  where
    go : (x : ℕ) (l : List ℕ) → length l < k → length (up_to_zero x l) < suc k
    go zero l r = omega arith
    go (suc x) l r = omega arith

-- ---- the text ends where a search finds the first zero
until_zero : (x : ℕ) (l m : List ℕ) → length l ≡ position_or_len (λ y. eqb y 0) m → length (up_to_zero x l) ≡ position_or_len (λ y. eqb y 0) (x ∷ m)
until_zero zero l m e = refl
until_zero (suc x) l m e = grind (arith, nat_tests, e)

before_zero : (b : List ℕ) (o k : ℕ) → o + k ≤ length b → length (text_at b o k) ≡ position_or_len (λ y. eqb y 0) (take k (drop o b))
unfolding text_at
before_zero b o zero h = refl
before_zero b o (suc k) h =
    rw (drop_more b o 0 (omega arith)) (until_zero (get_or b o 0) (text_at b (o + 1) k) (take k (drop (o + 1) b)) (before_zero b (o + 1) k (omega arith)))

-- where it finds none, the text is all of the field
pub text_found : (b : List ℕ) (o k : ℕ) (r : Option ℕ) → o + k ≤ length b → r ≡ position (λ y. eqb y 0) (take k (drop o b)) → (unwrap_or r k ≡ length (text_at b o k)) × (unwrap_or r k ≤ k)
text_found b o k r h e = rw e (grind (arith, common_steps, before_zero b o k h, text_short b o k))

-- What is gathered of attributes: all that each becomes, and nothing else.
use Prim.Native.Nat.{ℕ, zero, suc, ◌+◌, ◌<◌}
use mathlib.Core.Path.{◌≡◌, refl, ap, ◌∙◌}
use mathlib.Core.Bool.{Bool, true, false}
use mathlib.Core.List.{List, [], ◌∷◌, ◌++◌, append-nil}
use native.Mathlib.Omega.{arith}
use native.Mathlib.Nat.{not-suc-le-zero, le_of_suc-le-suc}
use lib.ListN.{length, get_or, length-append, get_or-append}
use lib.Seq.{get_or-append-add}
use lib.Dec.{eqb}
use borrow.Author.Tests.{eq-eqb, ne_eqb}
use Rattle.ultra_format.specs.Contexts.{Body, Body.other, type_of, Attribute}
use Rattle.handover_format.specs.Payloads.{Entry, no_entry}
use Rattle.export_list.specs.ExportList.{records_of, records_if, gathered}
use Rattle.handover_exported.proofs.Entries.{Each, each_none, each_append}

abbrev pub at : List Attribute → ℕ → Attribute
at l i = get_or l i (record { size = 0; body = other 0 })

-- ---- what holds of all that attributes become holds of all that is gathered
module _ (P : Entry → Type 0) where
  each_if : (t : Bool) (x : Body) → Each P (records_of x) → Each P (records_if t x)
  unfolding records_if
  each_if true x h = h
  each_if false x h = each_none P

  pub gathered_each : (k : ℕ) (l : List Attribute) → ((i : ℕ) → i < length l → Each P (records_of (at l i).body)) → Each P (gathered k l)
  unfolding gathered
  gathered_each k [] h = each_none P
  gathered_each k (a ∷ l) h =
      each_append P (records_if (eqb (type_of a.body) k) a.body) (gathered k l) (each_if (eqb (type_of a.body) k) a.body (h 0 (omega arith)))
      (gathered_each k l (λ i j. h (suc i) (omega arith)))

-- ---- what an attribute of the type becomes is gathered
abbrev pub In : Entry → List Entry → Type 0
In e es = (j : ℕ) × (j < length es) × (get_or es j no_entry ≡ e)

pub in_front : (e : Entry) (xs ys : List Entry) → In e xs → In e (xs ++ ys)
in_front e xs ys h = (h.0, omega (arith, h.1, length-append xs ys), get_or-append xs ys no_entry h.0 h.1 ∙ h.2)

pub in_back : (e : Entry) (xs ys : List Entry) → In e ys → In e (xs ++ ys)
in_back e xs ys h = (length xs + h.0, omega (arith, h.1, length-append xs ys), get_or-append-add xs ys h.0 no_entry ∙ h.2)

-- e, and after it f
abbrev pub Ordered : Entry → Entry → List Entry → Type 0
Ordered e f es = (j : ℕ) × (k : ℕ) × (j < k) × (k < length es) × (get_or es j no_entry ≡ e) × (get_or es k no_entry ≡ f)

pub ordered_across : (e f : Entry) (xs ys : List Entry) → In e xs → In f ys → Ordered e f (xs ++ ys)
ordered_across e f xs ys h g =
    (h.0, length xs + g.0, omega (arith, h.1), omega (arith, g.1, length-append xs ys), get_or-append xs ys no_entry h.0 h.1 ∙ h.2, get_or-append-add xs ys g.0 no_entry ∙ g.2)

pub ordered_back : (e f : Entry) (xs ys : List Entry) → Ordered e f ys → Ordered e f (xs ++ ys)
ordered_back e f xs ys h =
    (length xs + h.0, length xs + h.1, omega (arith, h.2), omega (arith, h.3, length-append xs ys), get_or-append-add xs ys h.0 no_entry ∙ h.4, get_or-append-add xs ys h.1 no_entry ∙ h.5)

pub ordered_front : (e f : Entry) (xs ys : List Entry) → Ordered e f xs → Ordered e f (xs ++ ys)
ordered_front e f xs ys h =
    let l : h.0 < length xs = omega (arith, h.2, h.3) in
    (h.0, h.1, h.2, omega (arith, h.3, length-append xs ys), get_or-append xs ys no_entry h.0 l ∙ h.4, get_or-append xs ys no_entry h.1 h.3 ∙ h.5)

chosen : (k : ℕ) (x : Body) → type_of x ≡ k → records_if (eqb (type_of x) k) x ≡ records_of x
unfolding records_if
chosen k x e = rw (eq-eqb (type_of x) k e)

unchosen : (k : ℕ) (x : Body) → (type_of x ≡ k → ⊥) → records_if (eqb (type_of x) k) x ≡ []
unfolding records_if
unchosen k x n = rw (ne_eqb (type_of x) k n)

pub in_gathered : (k : ℕ) (l : List Attribute) (i : ℕ) → i < length l → type_of (at l i).body ≡ k → (e : Entry) → In e (records_of (at l i).body) → In e (gathered k l)
unfolding gathered
in_gathered k [] i h t e n = absurd (not-suc-le-zero h)
in_gathered k (a ∷ l) zero h t e n = in_front e (records_if (eqb (type_of a.body) k) a.body) (gathered k l) (rw (chosen k a.body t) n)
in_gathered k (a ∷ l) (suc i) h t e n =
    in_back e (records_if (eqb (type_of a.body) k) a.body) (gathered k l) (in_gathered k l i (le_of_suc-le-suc h) t e n)

-- of two attributes of the type, in their order
pub gathered_ordered : (k : ℕ) (l : List Attribute) (i j : ℕ) → i < j → j < length l → type_of (at l i).body ≡ k → type_of (at l j).body ≡ k → (e f : Entry)
    → In e (records_of (at l i).body) → In f (records_of (at l j).body) → Ordered e f (gathered k l)
unfolding gathered
gathered_ordered k [] i j h g t u e f n m = absurd (not-suc-le-zero g)
gathered_ordered k (a ∷ l) i zero h g t u e f n m = absurd (not-suc-le-zero h)
gathered_ordered k (a ∷ l) zero (suc j) h g t u e f n m =
    ordered_across e f (records_if (eqb (type_of a.body) k) a.body) (gathered k l) (rw (chosen k a.body t) n) (in_gathered k l j (le_of_suc-le-suc g) u f m)
gathered_ordered k (a ∷ l) (suc i) (suc j) h g t u e f n m =
    ordered_back e f (records_if (eqb (type_of a.body) k) a.body) (gathered k l) (gathered_ordered k l i j (le_of_suc-le-suc h) (le_of_suc-le-suc g) t u e f n m)

-- ---- of the only attribute of its type
none_gathered : (k : ℕ) (l : List Attribute) → ((j : ℕ) → j < length l → type_of (at l j).body ≡ k → ⊥) → gathered k l ≡ []
unfolding gathered
none_gathered k [] h = refl
none_gathered k (a ∷ l) h =
    ap (λ (es : List Entry). es ++ gathered k l) (unchosen k a.body (h 0 (omega arith))) ∙ none_gathered k l (λ j m. h (suc j) (omega arith))

pub one_gathered : (k : ℕ) (l : List Attribute) (i : ℕ) → i < length l → type_of (at l i).body ≡ k → ((j : ℕ) → j < length l → (j ≡ i → ⊥) → type_of (at l j).body ≡ k → ⊥)
    → gathered k l ≡ records_of (at l i).body
unfolding gathered
one_gathered k [] i h t n = absurd (not-suc-le-zero h)
one_gathered k (a ∷ l) zero h t n =
    ap (λ (es : List Entry). es ++ gathered k l) (chosen k a.body t)
    ∙ ap (λ (es : List Entry). records_of a.body ++ es) (none_gathered k l (λ j m. n (suc j) (omega arith) (λ q. omega arith)))
    ∙ append-nil (records_of a.body)
one_gathered k (a ∷ l) (suc i) h t n =
    ap (λ (es : List Entry). es ++ gathered k l) (unchosen k a.body (n 0 (omega arith) (λ q. omega arith)))
    ∙ one_gathered k l i (le_of_suc-le-suc h) t (λ j m q. n (suc j) (omega arith) (λ s. q (omega arith)))

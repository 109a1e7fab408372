-- Lists of records, all of which have a property.
use Prim.Native.Nat.{ℕ, zero, suc, ◌+◌, ◌<◌}
use mathlib.Core.Path.{◌≡◌, sym, ap, ◌∙◌, subst}
use mathlib.Core.Logic.{◌↔◌, ⊎_elim}
use mathlib.Core.List.{List, [], ◌∷◌, ◌++◌}
use native.Mathlib.Omega.{arith}
use native.Mathlib.Nat.{not-suc-le-zero, le_of_suc-le-suc, eq-or-lt_of_le, add-zero}
use lib.ListN.{length, get_or, length-append, get_or-append}
use lib.Seq.{get_or-append-add}
use Rattle.handover_format.specs.Payloads.{handover_end, Entry, no_entry}

unfoldable pub Each : (Entry → Type 0) → List Entry → Type 0
Each P [] = Unit {0}
Each P (e ∷ es) = P e × Each P es

module _ (P : Entry → Type 0) where
  pub each_none : Each P []
  unfolding Each
  each_none = tt

  pub each_more : (e : Entry) (es : List Entry) → P e → Each P es → Each P (e ∷ es)
  unfolding Each
  each_more e es h g = (h, g)

  pub each_append : (xs ys : List Entry) → Each P xs → Each P ys → Each P (xs ++ ys)
  unfolding Each
  each_append [] ys h g = g
  each_append (x ∷ xs) ys h g = (h.0, each_append xs ys h.1 g)

  pub each_at : (es : List Entry) → Each P es → (i : ℕ) → i < length es → P (get_or es i no_entry)
  unfolding Each
  each_at [] h i l = absurd (not-suc-le-zero l)
  each_at (e ∷ es) h zero l = h.0
  each_at (e ∷ es) h (suc i) l = each_at es h.1 i (le_of_suc-le-suc l)

pub each_turned : (P Q : Entry → Type 0) → ((e : Entry) → P e → Q e) → (es : List Entry) → Each P es → Each Q es
unfolding Each
each_turned P Q f [] h = tt
each_turned P Q f (e ∷ es) h = (f e h.0, each_turned P Q f es h.1)

-- not the last
abbrev pub Before : Entry → Type 0
Before e = e.words.tag ≡ handover_end → ⊥

-- the last of a list, and no other, has the end tag
module _ (front : List Entry) (end : Entry) (h : Each Before front) (e : end.words.tag ≡ handover_end) where
  count_is : length (front ++ (end ∷ [])) ≡ length front + 1
  count_is = length-append front (end ∷ [])

  inner : (i : ℕ) → i < length front → ((get_or (front ++ (end ∷ [])) i no_entry).words.tag ≡ handover_end) ↔ (i + 1 ≡ length (front ++ (end ∷ [])))
  inner i l =
      let q = get_or-append front (end ∷ []) no_entry i l in
      (λ t. absurd (each_at Before front h i l (ap (λ (x : Entry). x.words.tag) (sym q) ∙ t)), λ t. absurd (omega (arith, count_is, t)))

  outer : ((get_or (front ++ (end ∷ [])) (length front + 0) no_entry).words.tag ≡ handover_end) ↔ (length front + 0 + 1 ≡ length (front ++ (end ∷ [])))
  outer = let q = get_or-append-add front (end ∷ []) 0 no_entry in (λ t. omega (arith, count_is), λ t. ap (λ (x : Entry). x.words.tag) q ∙ e)

  pub ends_once : (i : ℕ) → i < length (front ++ (end ∷ [])) → ((get_or (front ++ (end ∷ [])) i no_entry).words.tag ≡ handover_end) ↔ (i + 1 ≡ length (front ++ (end ∷ [])))
  ends_once i l =
      ⊎_elim (λ q. subst (λ (k : ℕ). ((get_or (front ++ (end ∷ [])) k no_entry).words.tag ≡ handover_end) ↔ (k + 1 ≡ length (front ++ (end ∷ [])))) (add-zero (length front) ∙ sym q) outer)
      (λ k. inner i k) (eq-or-lt_of_le (le_of_suc-le-suc (last_place i l)))
    where
      last_place : (i : ℕ) → i < length (front ++ (end ∷ [])) → i < suc (length front)
      last_place i l = omega (arith, count_is)

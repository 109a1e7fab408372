-- Laws of one pass over a map's entries, whatever form they come in: a loop by the first entry left, and what the three tests say.
use Prim.Native.Nat.{ℕ, ◌+◌, ◌*◌, ◌≤◌, ◌<◌}
use mathlib.Core.Path.{◌≡◌, refl, sym, ap, ◌∙◌}
use mathlib.Core.Bool.{Bool, true, false, ◌&&◌}
use mathlib.Core.List.{List, [], ◌∷◌}
use native.Mathlib.Omega.{arith}
use borrow.Author.Tests.{leb-true, le-leb, eq-eqb, eqb-true, eqb-false}
use lib.Dec.{eqb}
use lib.ListN.{length}
use Rattle.ultra_format.specs.Contexts.{Entry, Body.memory_map}
use Rattle.ultra_format.specs.Members.{every, entry_typed, entry_fits, entries_ordered, size_suits, values, texts, ranges, ordered, member_check, body_check}
use Rattle.ultra_format.specs.Decoding.{pick}
use Rattle.refusals.proofs.Chains.{both_hold}
use Rattle.refusals.proofs.Order.{clash}
use Rattle.ultra_rules.proofs.Judged.{judged}
use Rattle.ultra_map.specs.OnePass.{left_by, ends_by_next, settled, typed_and_fits}

-- no entry; and at most one, so that there is no pair
abbrev pub none : List Entry → Bool
none [] = true
none (e ∷ es) = false

abbrev pub pairless : List Entry → Bool
pairless [] = true
pairless (e ∷ []) = true
pairless (e ∷ n ∷ es) = false

-- ---- one entry at a time: what the test on the first of those left says of them all
module _ (test : Entry → List Entry → Bool) where
  module _ {l m : List Entry} {e : Entry} (first : l ≡ e ∷ m) where
    pub stops_here : test e m ≡ false → left_by test l ≡ l
    unfolding left_by
    stops_here t = rw (first, t)

    pub goes_on : test e m ≡ true → left_by test l ≡ left_by test m
    unfolding left_by
    goes_on t = rw (first, t)

  pub stops_at_none : {l : List Entry} → l ≡ [] → left_by test l ≡ l
  unfolding left_by
  stops_at_none e = rw e

-- ---- what a place says of the entries left there: at the end there are none, and at the last there is no second
pub at_end : (o end : ℕ) (l : List Entry) {e : Entry} {m : List Entry} → (o ≡ end → l ≡ []) → ((o ≡ end → ⊥) → l ≡ e ∷ m) → eqb o end ≡ none l
at_end o end l empty first = go (eqb o end) refl
  where
    go : (t : Bool) → eqb o end ≡ t → t ≡ none l
    go true h = rw (empty (eqb-true o end h))
    go false h = rw (first (eqb-false o end h))

second_none : (e : Entry) (m : List Entry) → none m ≡ pairless (e ∷ m)
second_none e [] = refl
second_none e (n ∷ m) = refl

pub at_last : (o last : ℕ) {l m : List Entry} {e : Entry} → l ≡ e ∷ m → eqb o last ≡ none m → eqb o last ≡ pairless l
at_last o last {l} {m} {e} first h = h ∙ second_none e m ∙ ap pairless (sym first)

-- ---- what is left starts with an entry that fails the test
abbrev Stopped : (Entry → List Entry → Bool) → List Entry → Type 0
Stopped test [] = true ≡ true
Stopped test (e ∷ es) = test e es ≡ false

stopped : (test : Entry → List Entry → Bool) (l : List Entry) → Stopped test (left_by test l)
unfolding left_by
stopped test [] = refl
stopped test (e ∷ es) = go (test e es) refl (stopped test es)
  where
    go : (t : Bool) → test e es ≡ t → Stopped test (left_by test es) → Stopped test (pick t (left_by test es) (e ∷ es))
    go true h r = r
    go false h r = h

-- ---- the first test: it leaves the number of 13, 15 and 16 as it is
-- every address is a number of 64 bits
abbrev pub Addresses : List Entry → Type 0
Addresses [] = true ≡ true
Addresses (e ∷ es) = (e.address < 18446744073709551616) × Addresses es

abbrev number_of : List Entry → ℕ
number_of es = member_check true (every entry_typed es) true (every entry_fits es) (entries_ordered es)

-- an entry that ends by another's address ends below 2^64
settled_passes : (e n : Entry) (es : List Entry) → n.address < 18446744073709551616 → settled e (n ∷ es) ≡ true → number_of (e ∷ n ∷ es) ≡ number_of (n ∷ es)
unfolding every entries_ordered
settled_passes e n es a h =
    let k = both_hold (entry_typed e) (ends_by_next e n) h in
    let l : e.address + e.size ≤ n.address = leb-true _ _ k.1 in
    let f : entry_fits e ≡ true = le-leb (e.address + e.size) 18446744073709551616 (omega arith) in
    rw (k.0, k.1, f)

settled_left : (es : List Entry) → Addresses es → number_of es ≡ number_of (left_by settled es)
unfolding left_by
settled_left [] a = refl
settled_left (e ∷ []) a = refl
settled_left (e ∷ n ∷ es) a = go (settled e (n ∷ es)) refl (settled_left (n ∷ es) a.1)
  where
    go : (t : Bool) → settled e (n ∷ es) ≡ t → number_of (n ∷ es) ≡ number_of (left_by settled (n ∷ es))
        → number_of (e ∷ n ∷ es) ≡ number_of (pick t (left_by settled (n ∷ es)) (e ∷ n ∷ es))
    go true h r = settled_passes e n es a.1.0 h ∙ r
    go false h r = refl

-- ---- the second: the order is broken where a pair is left, and else it is not
abbrev unfit_number : Bool → List Entry → ℕ
unfit_number order es = member_check true (every entry_typed es) true (every entry_fits es) order

unsettled_order : (u : List Entry) → Stopped settled u → number_of u ≡ unfit_number (pairless u) u
unfolding every entries_ordered
unsettled_order [] h = refl
unsettled_order (e ∷ []) h = refl
unsettled_order (e ∷ n ∷ es) h = go (entry_typed e) (ends_by_next e n) refl refl h
  where
    go : (t o : Bool) → entry_typed e ≡ t → ends_by_next e n ≡ o → (t && o) ≡ false → number_of (e ∷ n ∷ es) ≡ unfit_number false (e ∷ n ∷ es)
    go false o p q r = rw p
    go true false p q r = rw (p, q)
    go true true p q r = clash r

fit_left : (order : Bool) (u : List Entry) → unfit_number order u ≡ unfit_number order (left_by typed_and_fits u)
unfolding left_by every
fit_left order [] = refl
fit_left order (e ∷ es) = go (typed_and_fits e es) refl (fit_left order es)
  where
    go : (t : Bool) → typed_and_fits e es ≡ t → unfit_number order es ≡ unfit_number order (left_by typed_and_fits es)
        → unfit_number order (e ∷ es) ≡ unfit_number order (pick t (left_by typed_and_fits es) (e ∷ es))
    go true h r = let k = both_hold (entry_typed e) (entry_fits e) h in rw (k.0, k.1) r
    go false h r = refl

-- ---- the third: the first entry left has no type or ends past 2^64
unfit_range : (order : Bool) (f : List Entry) → Stopped typed_and_fits f → unfit_number order f ≡ member_check true (every entry_typed f) true (none f) order
unfolding every
unfit_range order [] h = refl
unfit_range order (e ∷ es) h = go (entry_typed e) (entry_fits e) refl refl h
  where
    go : (t r : Bool) → entry_typed e ≡ t → entry_fits e ≡ r → (t && r) ≡ false
        → unfit_number order (e ∷ es) ≡ member_check true (every entry_typed (e ∷ es)) true false order
    go false r p q h = rw p
    go true false p q h = rw (p, q)
    go true true p q h = clash h

-- ---- what the three tests say is the number of the map
module _ (es : List Entry) {u f : List Entry} (left : u ≡ left_by settled es) (unfits : f ≡ left_by typed_and_fits u) where
  tests : Addresses es → number_of es ≡ member_check true (every entry_typed f) true (none f) (pairless u)
  tests a =
      let q : f ≡ left_by typed_and_fits (left_by settled es) = unfits ∙ ap (left_by typed_and_fits) left in
      let w = left_by settled es in
      settled_left es a
      ∙ unsettled_order w (stopped settled es)
      ∙ fit_left (pairless w) w
      ∙ unfit_range (pairless w) (left_by typed_and_fits w) (stopped typed_and_fits w)
      ∙ sym (λ i. member_check true (every entry_typed (q i)) true (none (q i)) (pairless (left i)))

  pub in_one_pass : Addresses es → {v r o : Bool} → v ≡ every entry_typed f → r ≡ none f → o ≡ pairless u
      → member_check true v true r o ≡ body_check (8 + 24 * length es) (memory_map es)
  unfolding size_suits values texts ranges ordered
  in_one_pass a value range order =
      (λ i. member_check true (value i) true (range i) (order i))
      ∙ sym (tests a)
      ∙ judged (8 + 24 * length es) (memory_map es) (eq-eqb (8 + 24 * length es) (8 + 24 * length es) refl) refl refl refl refl

pub no_entries : {es : List Entry} → es ≡ [] → 0 ≡ body_check (8 + 24 * length es) (memory_map es)
unfolding size_suits values texts ranges ordered every entries_ordered body_check
no_entries e = rw e

-- What it says that reading answers a used length: the head and every attribute pass their tests. And back.
use Rattle.std.specs.Prelude.{Ok}
use Prim.Native.Nat.{ℕ, zero, suc, ◌+◌, ◌≤◌, ◌<◌}
use mathlib.Core.Path.{◌≡◌, sym, ap, ◌∙◌, subst}
use mathlib.Core.Bool.{true}
use mathlib.Core.List.{List}
use mathlib.Core.Logic.{⊎_elim}
use native.Mathlib.Omega.{arith}
use native.Mathlib.Nat.{not-suc-le-zero, eq-or-lt_of_le, le_of_suc-le-suc, add-zero, zero-add}
use lib.ListN.{length}
use Rattle.lent_buffers.specs.Room.{room_of}
use Rattle.ultra_format.specs.Members.{size_suits, values, texts, ranges, ordered, body_check}
use Rattle.ultra_format.specs.Contexts.{Body}
use Rattle.ultra_format.specs.Places.{place_check}
use Rattle.ultra_format.specs.Decoding.{decoded, start, stored_type, stored_size, stored_count, types_before}
use Rattle.refusals.proofs.Chains.{passed, none_first, not_refused}
use Rattle.ultra_stepping.specs.Checks.{head_check, bounds_check}
use Rattle.ultra_stepping.specs.Walking.{InBounds}
use Rattle.ultra_reading.specs.Reading.{attribute_check, check_of, attributes_answer, used_length}
use Rattle.ultra_stepping.proofs.HeadLaws.{HeadHolds, head_holds, head_passes}
use Rattle.ultra_reading.proofs.ReadingLaws.{head_goes_on, only_body}
use Rattle.ultra_stepping.proofs.BoundsLaws.{BoundsHold, bounds_hold, bounds_checked}
use Rattle.ultra_stepping.proofs.WalkLaws.{Reached, reached, in_larger}

-- ---- a body
pub record BodyHolds (s : ℕ) (x : Body) : Type 0 where
  pub suits : size_suits s x ≡ true
  pub values_hold : values x ≡ true
  pub texts_hold : texts s x ≡ true
  pub ranges_hold : ranges x ≡ true
  pub in_order : ordered x ≡ true

pub body_holds : (s : ℕ) (x : Body) → body_check s x ≡ 0 → BodyHolds s x
unfolding body_check
body_holds s x e =
    let p1 = passed (size_suits s x) _ _ e in
    let p2 = passed (values x) _ _ p1.1 in
    let p3 = passed (texts s x) _ _ p2.1 in
    let p4 = passed (ranges x) _ _ p3.1 in
    let p5 = passed (ordered x) _ _ p4.1 in
    record { suits = p1.0; values_hold = p2.0; texts_hold = p3.0; ranges_hold = p4.0; in_order = p5.0 }

pub body_passes : (s : ℕ) (x : Body) → BodyHolds s x → body_check s x ≡ 0
unfolding body_check
body_passes s x h = rw (h.suits, h.values_hold, h.texts_hold, h.ranges_hold, h.in_order)

-- ---- attribute i
pub record Passes (b : List ℕ) (room i : ℕ) : Type 0 where
  pub bounds : BoundsHold b room (start b i)
  pub place : place_check (types_before b i) (stored_type b i) ≡ 0
  pub body : BodyHolds (stored_size b i) (decoded b (start b i) (stored_size b i) (stored_type b i))

pub passes : (b : List ℕ) (room i : ℕ) → check_of b room i ≡ 0 → Passes b room i
unfolding attribute_check
passes b room i e =
    let p1 = none_first (bounds_check b room (start b i)) _ e in
    let p2 = none_first (place_check (types_before b i) (stored_type b i)) _ p1.1 in
    record { bounds = bounds_hold b room (start b i) p1.0; place = p2.0; body = body_holds _ _ p2.1 }

pub passing : (b : List ℕ) (room i : ℕ) → Passes b room i → check_of b room i ≡ 0
passing b room i h = sym (only_body b room (types_before b i) (start b i) (bounds_checked _ _ _ h.bounds) h.place) ∙ body_passes _ _ h.body

-- ---- n attributes from attribute i on
walked : (b : List ℕ) (room i n m : ℕ) → attributes_answer b room i n ≡ Ok m → ((j : ℕ) → i ≤ j → j < i + n → check_of b room j ≡ 0) × (m ≡ start b (i + n))
unfolding attributes_answer
walked b room i zero m e = (λ j l h. absurd (omega arith), rw add-zero (cc))
walked b room i (suc n) m e =
    let p = not_refused (check_of b room i) (start b i) (attributes_answer b room (suc i) n) m e in
    let r = walked b room (suc i) n m p.1 in
    let q : suc i + n ≡ i + suc n = omega arith in
    (λ j l h. ⊎_elim (λ s. subst (λ (k : ℕ). check_of b room k ≡ 0) s p.0) (λ lt. r.0 j lt (omega arith)) (eq-or-lt_of_le l), r.1 ∙ ap (start b) q)

walks : (b : List ℕ) (room i n : ℕ) → ((j : ℕ) → i ≤ j → j < i + n → check_of b room j ≡ 0) → attributes_answer b room i n ≡ Ok (start b (i + n))
unfolding attributes_answer
walks b room i zero h = rw add-zero
walks b room i (suc n) h =
    let z : check_of b room i ≡ 0 = h i (omega arith) (omega arith) in
    let q : suc i + n ≡ i + suc n = omega arith in
    rw z (walks b room (suc i) n (λ j l m. h j (omega arith) (omega arith)) ∙ ap (λ (k : ℕ). Ok (start b k)) q)

-- ---- the whole
pub record Accepted (fewest : ℕ) (b : List ℕ) (n : ℕ) : Type 0 where
  pub head : HeadHolds fewest b
  pub each : (j : ℕ) → j < stored_count b → Passes b (room_of b) j
  pub used : n ≡ start b (stored_count b)

pub accepted : (fewest : ℕ) (b : List ℕ) (n : ℕ) → used_length fewest b ≡ Ok n → Accepted fewest b n
unfolding used_length
accepted fewest b n e =
    let p = not_refused (head_check fewest b) 0 (attributes_answer b (room_of b) 0 (stored_count b)) n e in
    let w = walked b (room_of b) 0 (stored_count b) n p.1 in
    record {
      head = head_holds fewest b p.0;
      each = λ j l. passes b (room_of b) j (w.0 j (omega arith) (omega arith));
      used = w.1 ∙ ap (start b) (zero-add (stored_count b));
    }

pub accepting : (fewest : ℕ) (b : List ℕ) (n : ℕ) → Accepted fewest b n → used_length fewest b ≡ Ok n
accepting fewest b n h =
    let k = h.head in
    sym (head_goes_on fewest b (sym (head_passes fewest b k.room k.major k.most k.enough)))
    ∙ walks b (room_of b) 0 (stored_count b) (λ j l m. passing b (room_of b) j (h.each j (omega arith)))
    ∙ ap Ok (ap (start b) (zero-add (stored_count b)) ∙ sym h.used)

pub inside : (b : List ℕ) (room n : ℕ) → 8 ≤ room → ((j : ℕ) → j < n → Passes b room j) → start b n ≤ room
unfolding start
inside b room zero h c = h
inside b room (suc n) h c = (c n (omega arith)).bounds.within

-- where attribute i ends is within the whole
pub ends : (b : List ℕ) (n i : ℕ) → i < n → start b i + stored_size b i ≤ start b n
unfolding start
ends b zero i h = absurd (not-suc-le-zero h)
ends b (suc n) i h =
    ⊎_elim (λ q. rw q (omega arith)) (λ lt. let r = ends b n i lt in omega arith) (eq-or-lt_of_le (le_of_suc-le-suc h))

-- ---- the walk over an accepted buffer
module _ (fewest : ℕ) (b : List ℕ) (n : ℕ) (a : Accepted fewest b n) where
  pub in_bounds : InBounds b (stored_count b)
  in_bounds j l = in_larger b (room_of b) (length b) (start b j) (omega arith) (bounds_checked _ _ _ (a.each j l).bounds)

  pub walk_reached : (i at : ℕ) → i < stored_count b → at ≡ start b i → Reached b (room_of b) i at
  walk_reached i at l e = reached b (room_of b) i at e (bounds_checked _ _ _ (a.each i l).bounds)

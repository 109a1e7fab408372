-- The rows of document 01's table: reading's test for a number fails where the number's condition holds (on-..), and only there (is-.., or
-- within the chain). So each chain of tests answers the least number whose condition holds.
use Prim.Native.Nat.{ℕ, zero, suc, ◌+◌, ◌-◌, ◌%◌, ◌≤◌, ◌<◌}
use mathlib.Core.Path.{◌≡◌, refl, sym, ap, ◌∙◌}
use mathlib.Core.Bool.{Bool, true, false, not, ◌&&◌, ◌||◌, or-true}
use mathlib.Core.List.{List}
use mathlib.Core.Logic.{◌↔◌, ◌⊎◌, ◌⊎◌.inl, ◌⊎◌.inr, ⊎_elim}
use native.Mathlib.Omega.{arith}
use native.Mathlib.Nat.{not-suc-le-zero}
use lib.ListN.{length, get_or}
use lib.Dec.{leb, eqb}
use borrow.Author.Tests.{leb-true, leb-false, lt-leb, eqb-true, eqb-false, eq-eqb, ne_eqb, not-true, not-false}
use Rattle.words.specs.Words.{u32_at}
use Rattle.refusals.specs.Refusals.{SHORT, VERSION, COUNT, MISSING, HEADER, SIZE, OVERRUN, TYPE, PLACE, REPEAT, SPLIT, FORM, VALUE, TEXT, RANGE, ORDER}
use Rattle.lent_buffers.specs.Room.{room_of}
use Rattle.ultra_format.specs.Members.{size_suits, values, texts, ranges, ordered, body_check}
use Rattle.ultra_format.specs.Places.{placed, single, repeatable, occurs, nearest, place_check}
use Rattle.ultra_format.specs.Decoding.{start, stored_type, stored_size, stored_count, types_before}
use Rattle.refusals.proofs.Chains.{both_hold}
use Rattle.ultra_stepping.specs.Checks.{head_check, bounds_check}
use Rattle.ultra_reading.specs.Reading.{attribute_check, check_of}
use Rattle.ultra_places.proofs.PlaceLaws.{placed_first, placed_second, placed_later, length_types, occurs_here}
use Rattle.ultra_acceptance.specs.Refusing.{HeadBreaks, Breaks, stored_body}
use Rattle.ultra_acceptance.specs.Refusing.{HeadBreaks.short, HeadBreaks.version, HeadBreaks.count, HeadBreaks.missing}
use Rattle.ultra_acceptance.specs.Refusing.{Breaks.header, Breaks.size, Breaks.overrun, Breaks.untyped, Breaks.first, Breaks.second, Breaks.later, Breaks.repeat, Breaks.split}
use Rattle.ultra_acceptance.specs.Refusing.{Breaks.form, Breaks.value, Breaks.text, Breaks.range, Breaks.order}
use Rattle.ultra_acceptance.proofs.Types.{found}
use Rattle.ultra_acceptance.proofs.Least.{Chain, ends, try, past, link, then, Settled, settled}

-- ---- 1 to 4, the head
module _ (fewest : ℕ) (b : List ℕ) where
  on_short : HeadBreaks fewest b SHORT → leb 8 (room_of b) ≡ false
  on_short (short h) = lt-leb 8 (room_of b) h

  on_version : HeadBreaks fewest b VERSION → not (eqb (get_or b 0 0) 0) ≡ false
  on_version (version e) = ap not (eq-eqb (get_or b 0 0) 0 e)

  on_count : HeadBreaks fewest b COUNT → leb (stored_count b) 1024 ≡ false
  on_count (count h) = lt-leb (stored_count b) 1024 h

  on_missing : HeadBreaks fewest b MISSING → leb fewest (stored_count b) ≡ false
  on_missing (missing h) = lt-leb fewest (stored_count b) h

  head_chain : Chain (HeadBreaks fewest b) 1 5 (head_check fewest b)
  unfolding head_check
  head_chain =
      link _ (λ e. short (leb-false _ _ e)) on_short
      (link _ (λ e. version (eqb-true _ _ (not-false _ e))) on_version
      (link _ (λ e. count (leb-false _ _ e)) on_count
      (link _ (λ e. missing (leb-false _ _ e)) on_missing
      ends)))

  in_head : (m : ℕ) → HeadBreaks fewest b m → (1 ≤ m) × (m < 5)
  in_head m (short h) = (omega arith, omega arith)
  in_head m (version h) = (omega arith, omega arith)
  in_head m (count h) = (omega arith, omega arith)
  in_head m (missing h) = (omega arith, omega arith)

  pub head_settled : Settled (HeadBreaks fewest b) (head_check fewest b)
  head_settled = settled in_head head_chain

-- ---- 9 to 11, of a type t after the first i attributes
abbrev pub Misplaced : ℕ → ℕ → Type 0
Misplaced i t = ((i ≡ 0) × (t ≡ 1 → ⊥)) ⊎ ((i ≡ 1) × (t ≡ 2 → ⊥)) ⊎ ((1 < i) × ((t ≡ 1) ⊎ (t ≡ 2)))

is_misplaced : (i t : ℕ) → placed i t ≡ false → Misplaced i t
unfolding placed
is_misplaced zero t e = inl (refl, eqb-false _ _ e)
is_misplaced (suc zero) t e = inr (inl (refl, eqb-false _ _ e))
is_misplaced (suc (suc i)) t e = inr (inr (omega arith, go (eqb t 1) (eqb t 2) refl refl (not-false _ e)))
  where
    go : (x y : Bool) → eqb t 1 ≡ x → eqb t 2 ≡ y → (x || y) ≡ true → (t ≡ 1) ⊎ (t ≡ 2)
    go true y p q h = inl (eqb-true _ _ p)
    go false y p q h = inr (eqb-true _ _ (q ∙ h))

on_misplaced : (i t : ℕ) → Misplaced i t → placed i t ≡ false
on_misplaced i t =
    ⊎_elim (λ x. sym (placed_first i t x.0) ∙ ne_eqb t 1 x.1)
    (⊎_elim (λ x. sym (placed_second i t x.0) ∙ ne_eqb t 2 x.1)
    (λ x. sym (placed_later i t (λ e. omega (arith, x.0)) (λ e. omega (arith, x.0))) ∙ ⊎_elim (λ e. simp (eq-eqb t 1 e)) (λ e. simp (eq-eqb t 2 e, or-true)) x.1))

-- the type just before
nearest_before : (b : List ℕ) (i : ℕ) → 0 < i → nearest (types_before b i) ≡ stored_type b (i - 1)
unfolding types_before
nearest_before b zero l = absurd (not-suc-le-zero l)
nearest_before b (suc i) l = let q : suc i - 1 ≡ i = omega arith in rw q

module _ (b : List ℕ) (i t : ℕ) where
  abbrev pub Earlier : Type 0
  Earlier = (j : ℕ) × (j < i) × (stored_type b j ≡ t)

  abbrev pub Repeated : Type 0
  Repeated = (single t ≡ true) × Earlier

  abbrev pub Parted : Type 0
  Parted = (repeatable t ≡ true) × Earlier × (stored_type b (i - 1) ≡ t → ⊥)

  abbrev again : Bool
  again = single t && occurs t (types_before b i)

  is_repeated : not again ≡ false → Repeated
  is_repeated e = let p = both_hold (single t) _ (not-false _ e) in (p.0, found b t i p.1)

  on_repeated : Repeated → not again ≡ false
  on_repeated r = simp (r.0, occurs_here b t r.1.0 i r.1.1 r.1.2)

  abbrev apart : Bool
  apart = repeatable t && occurs t (types_before b i) && not (eqb (nearest (types_before b i)) t)

  is_parted : not apart ≡ false → Parted
  is_parted e =
      let p = both_hold (repeatable t && occurs t (types_before b i)) _ (not-false _ e) in
      let q = both_hold (repeatable t) _ p.0 in
      let o = found b t i q.1 in
      (q.0, o, λ s. eqb-false _ _ (not-true _ p.1) (nearest_before b i (omega (arith, o.1)) ∙ s))

  on_parted : Parted → not apart ≡ false
  on_parted r =
      simp (r.0, occurs_here b t r.1.0 i r.1.1 r.1.2, nearest_before b i (omega (arith, r.1.1)), ne_eqb (stored_type b (i - 1)) t r.2)

  pub place_chain : {breaks : ℕ → Type 0} → (breaks PLACE ↔ Misplaced i t) → (breaks REPEAT ↔ Repeated) → (breaks SPLIT ↔ Parted) → Chain breaks 9 12 (place_check (types_before b i) t)
  unfolding place_check
  place_chain p r s =
      link (placed (length (types_before b i)) t) (rw length_types (λ e. p.1 (is_misplaced i t e))) (rw length_types (λ x. on_misplaced i t (p.0 x)))
      (link _ (λ e. r.1 (is_repeated e)) (λ x. on_repeated (r.0 x))
      (link _ (λ e. s.1 (is_parted e)) (λ x. on_parted (s.0 x))
      ends))

-- ---- 5 to 8, of the attribute at o
module _ (b : List ℕ) (o : ℕ) where
  abbrev size_there : ℕ
  size_there = u32_at b (o + 4)

  off_size : leb 8 size_there ≡ true → eqb (size_there % 8) 0 ≡ true → (size_there < 8) ⊎ (size_there % 8 ≡ 0 → ⊥) → ⊥
  off_size e q = let l = leb-true 8 size_there e in ⊎_elim (λ h. omega arith) (λ n. n (eqb-true _ _ q))

  pub bounds_chain : {breaks : ℕ → Type 0} → (breaks HEADER ↔ (room_of b < o + 8)) → (breaks SIZE ↔ ((size_there < 8) ⊎ (size_there % 8 ≡ 0 → ⊥))) → (breaks OVERRUN ↔ (room_of b < o + size_there)) → (breaks TYPE ↔ (u32_at b o ≡ 0))
      → Chain breaks 5 9 (bounds_check b (room_of b) o)
  unfolding bounds_check
  bounds_chain x y z t =
      link _ (λ e. x.1 (leb-false _ _ e)) (λ r. lt-leb (o + 8) (room_of b) (x.0 r))
      (try (leb 8 size_there) (λ e. y.1 (inl (leb-false _ _ e))) (λ e.
      try (eqb (size_there % 8) 0) (λ q. y.1 (inr (eqb-false _ _ q))) (λ q.
      past (λ r. off_size e q (y.0 r))
      (link _ (λ e. z.1 (leb-false _ _ e)) (λ r. lt-leb (o + size_there) (room_of b) (z.0 r))
      (link _ (λ e. t.1 (eqb-true _ _ (not-false _ e))) (λ r. ap not (eq-eqb (u32_at b o) 0 (t.0 r)))
      ends)))))

-- ---- 5 to 16, attribute i
module _ (b : List ℕ) (i : ℕ) where
  -- 5 to 8
  of_header : Breaks b i HEADER → room_of b < start b i + 8
  of_header (header h) = h

  of_size : Breaks b i SIZE → (stored_size b i < 8) ⊎ (stored_size b i % 8 ≡ 0 → ⊥)
  of_size (size h) = h

  of_overrun : Breaks b i OVERRUN → room_of b < start b i + stored_size b i
  of_overrun (overrun h) = h

  of_untyped : Breaks b i TYPE → stored_type b i ≡ 0
  of_untyped (untyped e) = e

  -- 9 to 11
  of_place : Breaks b i PLACE → Misplaced i (stored_type b i)
  of_place (first e n) = inl (e, n)
  of_place (second e n) = inr (inl (e, n))
  of_place (later l k) = inr (inr (l, k))

  of_repeat : Breaks b i REPEAT → Repeated b i (stored_type b i)
  of_repeat (repeat s o) = (s, o)

  of_split : Breaks b i SPLIT → Parted b i (stored_type b i)
  of_split (split s o n) = (s, o, n)

  types_chain : Chain (Breaks b i) 9 12 (place_check (types_before b i) (stored_type b i))
  types_chain =
      place_chain b i (stored_type b i)
      (of_place, ⊎_elim (λ x. first x.0 x.1) (⊎_elim (λ x. second x.0 x.1) (λ x. later x.0 x.1)))
      (of_repeat, λ x. repeat x.0 x.1)
      (of_split, λ x. split x.0 x.1 x.2)

  -- 12 to 16
  on_form : Breaks b i FORM → size_suits (stored_size b i) (stored_body b i) ≡ false
  on_form (form e) = e

  on_value : Breaks b i VALUE → values (stored_body b i) ≡ false
  on_value (value e) = e

  on_text : Breaks b i TEXT → texts (stored_size b i) (stored_body b i) ≡ false
  on_text (text e) = e

  on_range : Breaks b i RANGE → ranges (stored_body b i) ≡ false
  on_range (range e) = e

  on_order : Breaks b i ORDER → ordered (stored_body b i) ≡ false
  on_order (order e) = e

  body_chain : Chain (Breaks b i) 12 17 (body_check (stored_size b i) (stored_body b i))
  unfolding body_check
  body_chain = link _ form on_form (link _ value on_value (link _ text on_text (link _ range on_range (link _ order on_order ends))))

  -- all of them
  attribute_chain : Chain (Breaks b i) 5 17 (check_of b (room_of b) i)
  unfolding attribute_check
  attribute_chain =
      then _ _ (bounds_chain b (start b i) (of_header, header) (of_size, size) (of_overrun, overrun) (of_untyped, untyped)) (then _ _ types_chain body_chain)

  in_attribute : (m : ℕ) → Breaks b i m → (5 ≤ m) × (m < 17)
  in_attribute m (header h) = (omega arith, omega arith)
  in_attribute m (size h) = (omega arith, omega arith)
  in_attribute m (overrun h) = (omega arith, omega arith)
  in_attribute m (untyped h) = (omega arith, omega arith)
  in_attribute m (first e h) = (omega arith, omega arith)
  in_attribute m (second e h) = (omega arith, omega arith)
  in_attribute m (later e h) = (omega arith, omega arith)
  in_attribute m (repeat s o) = (omega arith, omega arith)
  in_attribute m (split s o n) = (omega arith, omega arith)
  in_attribute m (form h) = (omega arith, omega arith)
  in_attribute m (value h) = (omega arith, omega arith)
  in_attribute m (text h) = (omega arith, omega arith)
  in_attribute m (range h) = (omega arith, omega arith)
  in_attribute m (order h) = (omega arith, omega arith)

  pub attribute_settled : Settled (Breaks b i) (check_of b (room_of b) i)
  attribute_settled = settled in_attribute attribute_chain

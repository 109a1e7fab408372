-- The law on which the statements rest in specs/Unread.antt: two buffers that are equal at the bytes that are not silent, up to the first
-- refused attribute, are read alike.
use Rattle.std.specs.Prelude.{Ok, Err}
use Prim.Native.Nat.{ℕ, zero, suc, ◌+◌, ◌≤◌, ◌<◌}
use mathlib.Core.Path.{◌≡◌, refl, sym, ap, ◌∙◌}
use mathlib.Core.Bool.{Bool, true, false}
use mathlib.Core.List.{List}
use native.Mathlib.Omega.{arith}
use native.Mathlib.Nat.{zero-add}
use lib.ListN.{get_or}
use lib.Dec.{leb}
use borrow.Author.Count.{below_none, below_more}
use borrow.Author.Tests.{leb-true, leb-false, ne_eqb}
use Rattle.words.specs.Words.{u32_at}
use Rattle.byte_layout.specs.Fields.{cells}
use Rattle.refusals.specs.Refusals.{first_of}
use Rattle.refusals.specs.Answers.{Answer, or_refused}
use Rattle.ultra_format.specs.Contexts.{Body}
use Rattle.lent_buffers.specs.Room.{room_of}
use Rattle.ultra_format.specs.Layouts.{body_fields}
use Rattle.ultra_format.specs.Members.{present_if, size_suits, body_check}
use Rattle.ultra_format.specs.Places.{place_check}
use Rattle.ultra_format.specs.Decoding.{member_when, decoded, start, stored_count, types_before}
use Rattle.ultra_format.proofs.Bodies.{by_type, decoded_type, body_stored, body_only}
use Rattle.ultra_format.proofs.Numbers.{length_entries}
use Rattle.ultra_stepping.specs.Checks.{head_check, bounds_check}
use Rattle.ultra_reading.specs.Reading.{Clear, attribute_check, check_of, attributes_answer, used_length, version_of, with_version, reading_of}
use Rattle.ultra_stepping.specs.Stepping.{step_refused, Step}
use Rattle.ultra_stepping.proofs.HeadLaws.{head_holds, stop_short}
use Rattle.ultra_reading.proofs.ReadingLaws.{accepted_head, attribute_in_bounds}
use Rattle.ultra_stepping.proofs.BoundsLaws.{BoundsHold, bounds_hold, stop_header}
use Rattle.ultra_acceptance.specs.Unread.{ReadAlike, SameByte}
use Rattle.ultra_acceptance.proofs.Acceptance.{suits_type}
use Rattle.byte_layout.proofs.SameFields.{Same, number_alike, same_holds}

-- ---- chains: the rest matters only after 0
first_alike : (n m x y : ℕ) → n ≡ m → (m ≡ 0 → x ≡ y) → first_of n x ≡ first_of m y
first_alike n zero x y e h = rw e (h refl)
first_alike n (suc m) x y e h = rw e

or_alike : (n m o p : ℕ) (x y : Answer) → n ≡ m → o ≡ p → (m ≡ 0 → x ≡ y) → or_refused n o x ≡ or_refused m p y
or_alike n zero o p x y e q h = rw e (h refl)
or_alike n (suc m) o p x y e q h = rw (e, q)

pub step_alike : (n m o : ℕ) (x y : Step) → n ≡ m → (m ≡ 0 → x ≡ y) → step_refused n o x ≡ step_refused m o y
step_alike n zero o x y e h = rw e (h refl)
step_alike n (suc m) o x y e h = rw e

-- ---- a body
shown : (c : Bool) (n : ℕ) → present_if c (member_when c n) ≡ true
shown true n = refl
shown false n = refl

module _ (b d : List ℕ) (o s t : ℕ) where
  -- type and size alone say whether the size suits
  form_alike : size_suits s (decoded d o s t) ≡ size_suits s (decoded b o s t)
  unfolding decoded size_suits
  form_alike =
      by_type (λ (x : Body). size_suits s (decoded d o s t) ≡ size_suits s x) b o s t
      (λ e. rw e (simp shown)) (λ e. rw e) (λ e. rw e (simp length_entries)) (λ e. rw e) (λ e. rw e) (λ e. rw e)
      (λ n. rw (ne_eqb t 1 n.0, ne_eqb t 2 n.1, ne_eqb t 3 n.2, ne_eqb t 4 n.3, ne_eqb t 5 n.4, ne_eqb t 6 n.5))

  -- the body's bytes matter only where the size suits
  body_alike : (t ≡ 0 → ⊥) → (size_suits s (decoded b o s t) ≡ true → Same b d (o + 8) (cells (body_fields s (decoded b o s t))))
      → body_check s (decoded d o s t) ≡ body_check s (decoded b o s t)
  unfolding body_check
  body_alike z h = go (size_suits s (decoded b o s t)) refl
    where
      decoded_alike : size_suits s (decoded b o s t) ≡ true → decoded b o s t ≡ decoded d o s t
      decoded_alike q =
          let x = decoded b o s t in
          body_only d o s x (suits_type b o s t z) q (same_holds b d o 8 (o + 8) (body_fields s x) refl (h q) (body_stored b o s t)) ∙ ap (decoded d o s) (decoded_type b o s t)

      go : (c : Bool) → size_suits s (decoded b o s t) ≡ c → body_check s (decoded d o s t) ≡ body_check s (decoded b o s t)
      go true q = ap (body_check s) (sym (decoded_alike q))
      go false q = rw (form_alike, q)

-- ---- an attribute at `o`
-- d is as b at the bytes of its body that are not silent, asked where its members are looked at
abbrev pub SameBody : List ℕ → List ℕ → ℕ → Type 0
SameBody b d o =
    let s = u32_at b (o + 4) in
    let x = decoded b o s (u32_at b o) in
    BoundsHold b (room_of b) o → size_suits s x ≡ true → Same b d (o + 8) (cells (body_fields s x))

module _ (b d : List ℕ) (o : ℕ) (head : (k : ℕ) → k < 8 → SameByte b d (o + k)) where
  pub kind_alike : o + 8 ≤ room_of b → u32_at d o ≡ u32_at b o
  kind_alike h = number_alike b d o 4 (λ i l. head i (omega arith) (omega arith))

  pub size_alike : o + 8 ≤ room_of b → u32_at d (o + 4) ≡ u32_at b (o + 4)
  size_alike h = number_alike b d (o + 4) 4 (λ i l. let q : o + 4 + i ≡ o + (4 + i) = omega arith in rw q (head (4 + i) (omega arith) (omega arith)))

  pub bounds_alike : bounds_check d (room_of b) o ≡ bounds_check b (room_of b) o
  unfolding bounds_check
  bounds_alike = go (leb (o + 8) (room_of b)) refl
    where
      go : (c : Bool) → leb (o + 8) (room_of b) ≡ c → bounds_check d (room_of b) o ≡ bounds_check b (room_of b) o
      go true q = let h = leb-true (o + 8) (room_of b) q in rw (kind_alike h, size_alike h)
      go false q = let h = leb-false (o + 8) (room_of b) q in sym (stop_header d (room_of b) o h) ∙ stop_header b (room_of b) o h

  check_alike : (before : List ℕ) → SameBody b d o → attribute_check d (room_of b) before o ≡ attribute_check b (room_of b) before o
  unfolding attribute_check
  check_alike before body =
      first_alike _ _ _ _ bounds_alike (λ e.
      let k = bounds_hold b (room_of b) o e in
      rw (kind_alike k.header, size_alike k.header)
      (first_alike (place_check before (u32_at b o)) _ _ _ refl (λ p. body_alike b d o (u32_at b (o + 4)) (u32_at b o) k.typed (body k))))

-- ---- all of a buffer
-- d is as b at every byte that is read
pub record SameRead (b d : List ℕ) : Type 0 where
  pub room : room_of d ≡ room_of b
  pub head : (i : ℕ) → i < 8 → (i ≡ 2 → ⊥) → (i ≡ 3 → ⊥) → SameByte b d i
  pub header : (j : ℕ) → j < stored_count b → Clear b (room_of b) j → (k : ℕ) → k < 8 → SameByte b d (start b j + k)
  pub body : (j : ℕ) → j < stored_count b → Clear b (room_of b) j → SameBody b d (start b j)

module _ (b d : List ℕ) (s : SameRead b d) where
  walk_alike : (i n : ℕ) → i + n ≡ stored_count b → Clear b (room_of b) i → start d i ≡ start b i → types_before d i ≡ types_before b i
      → attributes_answer d (room_of b) i n ≡ attributes_answer b (room_of b) i n
  unfolding attributes_answer start types_before
  walk_alike i zero e c p q = ap Ok p
  walk_alike i (suc n) e c p q =
      let head = s.header i (omega arith) c in
      let f : check_of d (room_of b) i ≡ check_of b (room_of b) i = rw (p, q) (check_alike b d (start b i) head (types_before b i) (s.body i (omega arith) c)) in
      or_alike (check_of d (room_of b) i) (check_of b (room_of b) i) (start d i) (start b i) _ _ f p (λ z.
      let k = bounds_hold b (room_of b) (start b i) (attribute_in_bounds b (room_of b) (types_before b i) (start b i) z) in
      walk_alike (suc i) n (omega arith) (λ j g. below_more _ _ c z j (omega arith))
      (rw (p, size_alike b d (start b i) head k.header)) (rw (p, q, kind_alike b d (start b i) head k.header)))

  module _ (h : 8 ≤ room_of b) where
    major_alike : get_or d 0 0 ≡ get_or b 0 0
    major_alike = s.head 0 (omega arith) (λ e. omega arith) (λ e. omega arith) (omega arith)

    minor_alike : get_or d 1 0 ≡ get_or b 1 0
    minor_alike = s.head 1 (omega arith) (λ e. omega arith) (λ e. omega arith) (omega arith)

    pub count_alike : stored_count d ≡ stored_count b
    count_alike = number_alike b d 4 4 (λ i l. s.head (4 + i) (omega arith) (λ e. omega arith) (λ e. omega arith) (omega arith))

  pub head_alike : (fewest : ℕ) → head_check fewest d ≡ head_check fewest b
  unfolding head_check
  head_alike fewest = go (leb 8 (room_of b)) refl
    where
      go : (c : Bool) → leb 8 (room_of b) ≡ c → head_check fewest d ≡ head_check fewest b
      go true q = let h = leb-true 8 (room_of b) q in rw (s.room, major_alike h, count_alike h)
      go false q =
          let h = leb-false 8 (room_of b) q in
          sym (stop_short fewest d (omega (arith, s.room))) ∙ stop_short fewest b h

  used_alike : (fewest : ℕ) → used_length fewest d ≡ used_length fewest b
  unfolding used_length start types_before
  used_alike fewest =
      or_alike _ _ 0 0 _ _ (head_alike fewest) refl (λ z.
      let h = (head_holds fewest b z).room in
      rw (s.room, count_alike h) (walk_alike 0 (stored_count b) (zero-add (stored_count b)) (below_none _) refl refl))

  pub read_alike : ReadAlike b d
  unfolding reading_of
  read_alike = record { reading = rw (used_alike 2) (go (used_length 2 b) refl); used = used_alike }
    where
      go : (a : Answer) → used_length 2 b ≡ a → with_version (version_of d) a ≡ with_version (version_of b) a
      go (Ok n) e = let h = (accepted_head 2 b n e).room in rw (major_alike h, minor_alike h)
      go (Err r) e = refl

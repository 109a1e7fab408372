-- Laws of reading: one attribute's answer, a type above those before, the answer from an attribute on, and the whole answer by the head.
use Rattle.std.specs.Prelude.{Ok}
use Prim.Native.Nat.{ℕ, suc, ◌+◌, ◌-◌, ◌≤◌, ◌<◌, max}
use mathlib.Core.Path.{◌≡◌, refl, sym, ◌∙◌}
use mathlib.Core.Bool.{true, false}
use mathlib.Core.List.{List, [], ◌∷◌}
use native.Mathlib.Omega.{arith}
use native.Mathlib.Numerals.{add-one}
use lib.ListN.{length}
use borrow.Author.Tests.{ne_eqb}
use Rattle.words.specs.Words.{u32_at}
use Rattle.refusals.specs.Answers.{refused}
use Rattle.refusals.proofs.Chains.{none_first, first_stays, refuses, not_refused}
use Rattle.lent_buffers.specs.Room.{room_of}
use Rattle.ultra_format.specs.Members.{body_check}
use Rattle.ultra_format.specs.Places.{placed, occurs, place_check}
use Rattle.ultra_format.specs.Decoding.{decoded, start, stored_type, stored_count, types_before}
use Rattle.ultra_stepping.specs.Checks.{head_check, bounds_check}
use Rattle.ultra_stepping.proofs.HeadLaws.{HeadHolds, head_holds}
use Rattle.ultra_places.proofs.PlaceLaws.{placed_later, pass_new}
use Rattle.ultra_reading.specs.Reading.{attribute_check, check_of, highest_of, attributes_answer, used_length}

-- ---- one attribute
module _ (b : List ℕ) (room : ℕ) (before : List ℕ) (o : ℕ) where
  pub attribute_in_bounds : attribute_check b room before o ≡ 0 → bounds_check b room o ≡ 0
  unfolding attribute_check
  attribute_in_bounds e = (none_first (bounds_check b room o) _ e).0

  pub stop_bounds : (bounds_check b room o ≡ 0 → ⊥) → bounds_check b room o ≡ attribute_check b room before o
  unfolding attribute_check
  stop_bounds n = first_stays (bounds_check b room o) _ n

  module _ (h : bounds_check b room o ≡ 0) where
    pub stop_placing : (place_check before (u32_at b o) ≡ 0 → ⊥) → place_check before (u32_at b o) ≡ attribute_check b room before o
    unfolding attribute_check
    stop_placing n = rw h (first_stays (place_check before (u32_at b o)) _ n)

    pub only_body : place_check before (u32_at b o) ≡ 0 → body_check (u32_at b (o + 4)) (decoded b o (u32_at b (o + 4)) (u32_at b o)) ≡ attribute_check b room before o
    unfolding attribute_check
    only_body p = rw (h, p)

-- ---- a type above those before
above_new : (before : List ℕ) (t : ℕ) → highest_of before < t → occurs t before ≡ false
unfolding highest_of occurs
above_new [] t h = refl
above_new (u ∷ us) t h = simp (ne_eqb u t (λ e. omega arith), above_new us t (omega arith))

pub pass_above : (before : List ℕ) (t : ℕ) → 2 ≤ length before → 2 < t → highest_of before < t → 0 ≡ place_check before t
pass_above before t l m h = pass_new before t later (above_new before t h)
  where
    later : placed (length before) t ≡ true
    later = sym (placed_later (length before) t (λ e. omega arith) (λ e. omega arith)) ∙ simp (ne_eqb t 1 (λ e. omega arith), ne_eqb t 2 (λ e. omega arith))

pub highest_next : (b : List ℕ) (i : ℕ) → highest_of (types_before b (i + 1)) ≡ max (highest_of (types_before b i)) (stored_type b i)
unfolding types_before highest_of
highest_next b i = rw add-one

-- ---- the answer from attribute i of n on
module _ (b : List ℕ) (room i n : ℕ) where
  pub walk_refuse : i < n → (check_of b room i ≡ 0 → ⊥) → attributes_answer b room i (n - i) ≡ refused (check_of b room i) (start b i)
  unfolding attributes_answer
  walk_refuse l f =
      let q : n - i ≡ suc (n - (i + 1)) = omega arith in
      rw q (refuses (check_of b room i) (start b i) _ f)

  pub walk_next : i < n → check_of b room i ≡ 0 → attributes_answer b room i (n - i) ≡ attributes_answer b room (i + 1) (n - (i + 1))
  unfolding attributes_answer
  walk_next l f =
      let q : n - i ≡ suc (n - (i + 1)) = omega arith in
      rw q (simp (f, add-one))

  pub walk_end : n ≡ i → attributes_answer b room i (n - i) ≡ Ok (start b i)
  unfolding attributes_answer
  walk_end e = let q : n - i ≡ 0 = omega arith in rw q

-- ---- the whole answer, by the head
pub head_refuses : (fewest : ℕ) (b : List ℕ) → (head_check fewest b ≡ 0 → ⊥) → refused (head_check fewest b) 0 ≡ used_length fewest b
unfolding used_length
head_refuses fewest b n = sym (refuses (head_check fewest b) 0 _ n)

pub head_goes_on : (fewest : ℕ) (b : List ℕ) → head_check fewest b ≡ 0 → attributes_answer b (room_of b) 0 (stored_count b) ≡ used_length fewest b
unfolding used_length
head_goes_on fewest b e = rw e

-- an accepted buffer has a good head
pub accepted_head : (fewest : ℕ) (b : List ℕ) (n : ℕ) → used_length fewest b ≡ Ok n → HeadHolds fewest b
unfolding used_length
accepted_head fewest b n e = head_holds fewest b (not_refused (head_check fewest b) 0 _ n e).0

-- Laws of the walk: what is known of the attribute that it has come to, and where the search from it on finds a type.
use Prim.Native.Nat.{ℕ, zero, suc, ◌+◌, ◌-◌, ◌≤◌, ◌<◌}
use mathlib.Core.Path.{◌≡◌, refl, sym}
use mathlib.Core.List.{List}
use native.Mathlib.Omega.{arith}
use native.Mathlib.Numerals.{add-one}
use borrow.Author.Tests.{eq-eqb, ne_eqb}
use lib.ListN.{length}
use Rattle.std.proofs.lemmas.Grind.{common_steps}
use Rattle.words.specs.Words.{u32_at}
use Rattle.ultra_format.specs.Decoding.{start, stored_type, stored_size}
use Rattle.ultra_stepping.specs.Checks.{bounds_check}
use Rattle.ultra_stepping.specs.Walking.{InBounds, first_of_type}
use Rattle.ultra_stepping.proofs.BoundsLaws.{bounds_hold, bounds_pass}

-- ---- where attributes start
pub start_first : (b : List ℕ) → 8 ≡ start b 0
unfolding start
start_first b = refl

pub start_next : (b : List ℕ) (i : ℕ) → start b (i + 1) ≡ start b i + stored_size b i
unfolding start
start_next b i = rw add-one

-- no attribute starts in the head
pub after_head : (b : List ℕ) (i : ℕ) → 8 ≤ start b i
unfolding start
after_head b zero = omega arith
after_head b (suc i) = let h = after_head b i in omega arith

-- ---- attribute i, where a walk has come to it at `at`
pub record Reached (b : List ℕ) (room i at : ℕ) : Type 0 where
  pub header : at + 8 ≤ room
  pub least : 8 ≤ u32_at b (at + 4)
  pub within : at + u32_at b (at + 4) ≤ room
  pub type_is : u32_at b at ≡ stored_type b i
  pub size_is : u32_at b (at + 4) ≡ stored_size b i
  pub next : at + u32_at b (at + 4) ≡ start b (i + 1)

pub reached : (b : List ℕ) (room i at : ℕ) → at ≡ start b i → bounds_check b room (start b i) ≡ 0 → Reached b room i at
reached b room i at e f =
    let h = bounds_hold b room (start b i) f in
    rw e (record { header = h.header; least = h.least; within = h.within; type_is = refl; size_is = refl; next = sym (start_next b i) })

-- what is within a room is within a larger one
pub in_larger : (b : List ℕ) (room larger o : ℕ) → room ≤ larger → bounds_check b room o ≡ 0 → bounds_check b larger o ≡ 0
in_larger b room larger o l f =
    let h = bounds_hold b room o f in
    sym (bounds_pass b larger o (omega (arith, h.header)) h.least h.eights (omega (arith, h.within)) h.typed)

-- ---- the search from attribute i of n on
module _ (b : List ℕ) (t i n : ℕ) where
  pub first_here : i < n → stored_type b i ≡ t → first_of_type b t i (n - i) ≡ start b i
  unfolding first_of_type
  first_here l e = let q : n - i ≡ suc (n - (i + 1)) = omega arith in rw (q, eq-eqb (stored_type b i) t e)

  pub first_next : i < n → (stored_type b i ≡ t → ⊥) → first_of_type b t i (n - i) ≡ first_of_type b t (i + 1) (n - (i + 1))
  unfolding first_of_type
  first_next l e = let q : n - i ≡ suc (n - (i + 1)) = omega arith in rw (q, ne_eqb (stored_type b i) t e, add-one i)

  pub first_none : n ≤ i → first_of_type b t i (n - i) ≡ 0
  unfolding first_of_type
  first_none h = let q : n - i ≡ 0 = omega arith in rw q

-- ---- a walk that has come to attribute i, of n that are in bounds, and the laws that its loop goes by
module _ (b : List ℕ) (n i : ℕ) (h : InBounds b n) (l : i < n) where
  pub header_in : start b i + 8 ≤ length b
  header_in = (reached b (length b) i (start b i) refl (h i l)).header

  pub body_in : start b i + u32_at b (start b i + 4) ≤ length b
  body_in = (reached b (length b) i (start b i) refl (h i l)).within

pub ruleset walk = (common_steps, start_first, start_next, header_in, body_in, first_here, first_next, first_none)

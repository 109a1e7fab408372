-- Laws of the entries that a map's numbers give, one entry at a time.
use Prim.Native.Nat.{ℕ, suc, ◌+◌, ◌≤◌, ◌<◌}
use mathlib.Core.Path.{◌≡◌, refl}
use mathlib.Core.Bool.{true, false, ◌&&◌}
use mathlib.Core.List.{List, [], ◌∷◌}
use native.Mathlib.Omega.{arith}
use lib.ListN.{length, get_or, drop, length-drop}
use lib.Dec.{eqb}
use Rattle.ultra_format.specs.Additions.{entries_given}
use Rattle.std.proofs.lemmas.List.{drop_more}
use Rattle.std.proofs.lemmas.Grind.{common_steps}
use Rattle.ultra_format.specs.Members.{every, entry_typed, entry_fits}
use Rattle.ultra_rules.proofs.Every.{none_left, first_fails, first_passes}
use Rattle.ultra_map.specs.OnePass.{Whole, entry_from, given_from, ends_by_next, left_by, settled, typed_and_fits}
use Rattle.ultra_map.proofs.OnePass.{none, pairless, at_end, at_last, Addresses, stops_here, goes_on, stops_at_none}

module _ (ns : List ℕ) (o : ℕ) where
  pub first_entry : o + 3 ≤ length ns → given_from ns o ≡ entry_from ns o ∷ given_from ns (o + 3)
  unfolding entries_given
  first_entry h =
      let e₁ : o + 1 + 1 ≡ o + 2 = omega arith in
      let e₂ : o + 2 + 1 ≡ o + 3 = omega arith in
      let n₁ = drop_more ns (o + 1) 0 (omega arith) in
      let n₂ = drop_more ns (o + 2) 0 (omega arith) in
      rw (drop_more ns o 0 (omega arith), n₁, e₁, n₂, e₂)

  pub no_entry_law : length ns ≤ o → given_from ns o ≡ []
  unfolding entries_given
  no_entry_law h = go (drop o ns) (omega (arith, length-drop o ns))
    where
      go : (l : List ℕ) → length l ≡ 0 → entries_given l ≡ []
      go [] e = refl
      go (n ∷ l) e = absurd (omega arith)

  -- ---- the tests on the entry at `o`
  pub none_typed : length ns ≤ o → every entry_typed (given_from ns o) ≡ true
  none_typed h = none_left entry_typed (no_entry_law h)

  pub none_fit : length ns ≤ o → left_by typed_and_fits (given_from ns o) ≡ given_from ns o
  none_fit h = stops_at_none typed_and_fits (no_entry_law h)

  module _ (h : o + 3 ≤ length ns) where
    pub untyped : entry_typed (entry_from ns o) ≡ false → every entry_typed (given_from ns o) ≡ false
    untyped t = first_fails entry_typed (first_entry h) t

    pub is_typed : entry_typed (entry_from ns o) ≡ true → every entry_typed (given_from ns o) ≡ every entry_typed (given_from ns (o + 3))
    is_typed t = first_passes entry_typed (first_entry h) t

    pub unfit : (entry_typed (entry_from ns o) && entry_fits (entry_from ns o)) ≡ false → left_by typed_and_fits (given_from ns o) ≡ given_from ns o
    unfit t = stops_here typed_and_fits (first_entry h) t

    pub is_fit : (entry_typed (entry_from ns o) && entry_fits (entry_from ns o)) ≡ true
        → left_by typed_and_fits (given_from ns o) ≡ left_by typed_and_fits (given_from ns (o + 3))
    is_fit t = goes_on typed_and_fits (first_entry h) t

pub is_none : (ns : List ℕ) (o end : ℕ) → end ≡ length ns → Whole 3 o end → eqb o end ≡ none (given_from ns o)
is_none ns o end m w = at_end o end (given_from ns o) (λ h. no_entry_law ns o (omega arith)) (λ h. first_entry ns o (omega (arith, w.0, w.1)))

pub is_pairless : (ns : List ℕ) (o last : ℕ) → last + 3 ≡ length ns → Whole 3 o last → eqb o last ≡ pairless (given_from ns o)
is_pairless ns o last m w =
    at_last o last (first_entry ns o (omega (arith, w.0)))
    (at_end o last (given_from ns (o + 3)) (λ h. no_entry_law ns (o + 3) (omega arith)) (λ h. first_entry ns (o + 3) (omega (arith, w.0, w.1))))

-- the last one has no next one, so that it is not settled
pub last_left : (ns : List ℕ) (o : ℕ) → o + 3 ≡ length ns → left_by settled (given_from ns o) ≡ given_from ns o
last_left ns o m =
    let none : given_from ns (o + 3) ≡ [] = no_entry_law ns (o + 3) (omega arith) in
    stops_here settled (first_entry ns o (omega arith)) (rw none)

module _ (ns : List ℕ) (o : ℕ) (h : o + 6 ≤ length ns) where
  second : given_from ns (o + 3) ≡ entry_from ns (o + 3) ∷ given_from ns (o + 3 + 3)
  second = first_entry ns (o + 3) (omega arith)

  pub unsettled : (entry_typed (entry_from ns o) && ends_by_next (entry_from ns o) (entry_from ns (o + 3))) ≡ false
      → left_by settled (given_from ns o) ≡ given_from ns o
  unsettled t = stops_here settled (first_entry ns o (omega arith)) (rw second t)

  pub is_settled : (entry_typed (entry_from ns o) && ends_by_next (entry_from ns o) (entry_from ns (o + 3))) ≡ true
      → left_by settled (given_from ns o) ≡ left_by settled (given_from ns (o + 3))
  is_settled t = goes_on settled (first_entry ns o (omega arith)) (rw second t)

-- a loop over the entries
pub ruleset pass = (common_steps, none_typed, untyped, is_typed, none_fit, unfit, is_fit, last_left, unsettled, is_settled)

pub addresses : (ns : List ℕ) → ((i : ℕ) → get_or ns i 0 < 18446744073709551616) → Addresses (entries_given ns)
unfolding entries_given
addresses [] k = refl
addresses (a ∷ []) k = refl
addresses (a ∷ s ∷ []) k = refl
addresses (a ∷ s ∷ t ∷ ns) k = (k 0, addresses ns (λ i. k (suc (suc (suc i)))))

-- Laws of searching: the search from attribute i of n on, as a loop meets it, and what it finds.
use Prim.Native.Nat.{ℕ, zero, suc, ◌+◌, ◌-◌, ◌≤◌, ◌<◌}
use mathlib.Core.Path.{◌≡◌, refl, sym, ap, ◌∙◌}
use mathlib.Core.Bool.{Bool, true, false}
use mathlib.Core.List.{List}
use native.Mathlib.Omega.{arith}
use native.Mathlib.Nat.{zero-add}
use native.Mathlib.Numerals.{add-one}
use lib.Dec.{eqb}
use borrow.Author.Tests.{eqb-true, eqb-false}
use Rattle.words.specs.Words.{u32_at}
use Rattle.ultra_format.specs.Contexts.{Body, type_of}
use Rattle.ultra_format.specs.Decoding.{pick, start, stored_type, stored_size, stored_count, stored_attribute, attributes_from, context_of}
use Rattle.ultra_format.proofs.Bodies.{decoded_type}
use Rattle.ultra_stepping.specs.Walking.{first_of_type}
use Rattle.ultra_stepping.proofs.WalkLaws.{after_head}
use Rattle.ultra_locating.specs.Searching.{Found, Found.none, Found.found, first, first_in, found_start, of_type}
use Rattle.ultra_locating.specs.Passing.{Accepts}
use Rattle.ultra_locating.proofs.Located.{Loaded, loaded}

module _ (test : Body → Bool) (b : List ℕ) where
  -- the search among n attributes from attribute i on
  abbrev pub searched : ℕ → ℕ → Found
  searched i n = first test (start b i) (attributes_from b i n)

  module _ (i n : ℕ) where
    pub search_here : i < n → test (stored_attribute b i).body ≡ true → searched i (n - i) ≡ found (start b i) (stored_attribute b i)
    unfolding attributes_from first
    search_here h e = let q : n - i ≡ suc (n - (i + 1)) = omega arith in rw (q, e)

    pub search_next : i < n → test (stored_attribute b i).body ≡ false → searched i (n - i) ≡ searched (i + 1) (n - (i + 1))
    unfolding attributes_from first start
    search_next h e = let q : n - i ≡ suc (n - (i + 1)) = omega arith in rw (q, e, add-one i)

    pub search_end : n ≤ i → searched i (n - i) ≡ none
    unfolding attributes_from first
    search_end h = let q : n - i ≡ 0 = omega arith in rw q

  pub search_whole : searched 0 (stored_count b - 0) ≡ first_in test (context_of b)
  unfolding context_of start
  search_whole = let q : stored_count b - 0 ≡ stored_count b = omega arith in rw q

  -- what is found is an attribute that meets the test
  pub record FoundAt (n : ℕ) (f : Found) : Type 0 where
    pub index : ℕ
    pub below : index < n
    pub is : f ≡ found (start b index) (stored_attribute b index)
    pub meets : test (stored_attribute b index).body ≡ true

  widened : (n m : ℕ) {f : Found} → n ≡ m → FoundAt n f → FoundAt m f
  widened n m e k = record { index = k.index; below = omega (arith, k.below); is = k.is; meets = k.meets }

  -- attribute i, or what is found after it
  chosen : (i m : ℕ) (rest : Found) → i < m → (t : Bool) → test (stored_attribute b i).body ≡ t → ((found_start rest ≡ 0 → ⊥) → FoundAt m rest)
      → (found_start (pick t (found (start b i) (stored_attribute b i)) rest) ≡ 0 → ⊥) → FoundAt m (pick t (found (start b i) (stored_attribute b i)) rest)
  chosen i m rest h true e r k = record { index = i; below = h; is = refl; meets = e }
  chosen i m rest h false e r k = r k

  found_among : (i n : ℕ) → (found_start (searched i n) ≡ 0 → ⊥) → FoundAt (i + n) (searched i n)
  unfolding attributes_from first start
  found_among i zero h = absurd (h refl)
  found_among i (suc n) h =
      chosen i (i + suc n) (searched (suc i) n) (omega arith) (test (stored_attribute b i).body) refl (λ k. widened (suc i + n) (i + suc n) (omega arith) (found_among (suc i) n k)) h

  pub found_at : (found_start (first_in test (context_of b)) ≡ 0 → ⊥) → FoundAt (stored_count b) (first_in test (context_of b))
  unfolding context_of start
  found_at h = widened (0 + stored_count b) (stored_count b) (zero-add (stored_count b)) (found_among 0 (stored_count b) h)

  unchosen : (i : ℕ) (rest : Found) (t : Bool) → (found_start rest ≡ 0 → rest ≡ none) → found_start (pick t (found (start b i) (stored_attribute b i)) rest) ≡ 0
      → pick t (found (start b i) (stored_attribute b i)) rest ≡ none
  unchosen i rest true r e = absurd (omega (arith, after_head b i, e))
  unchosen i rest false r e = r e

  none_among : (i n : ℕ) → found_start (searched i n) ≡ 0 → searched i n ≡ none
  unfolding attributes_from first start
  none_among i zero e = refl
  none_among i (suc n) e = unchosen i (searched (suc i) n) (test (stored_attribute b i).body) (none_among (suc i) n) e

  pub none_at : found_start (first_in test (context_of b)) ≡ 0 → first_in test (context_of b) ≡ none
  unfolding context_of start
  none_at e = none_among 0 (stored_count b) e

-- ---- the test for a type
module _ (b : List ℕ) (i k : ℕ) where
  pub type_stored : type_of (stored_attribute b i).body ≡ stored_type b i
  type_stored = decoded_type b (start b i) (stored_size b i) (stored_type b i)

  pub type_said : of_type k (stored_attribute b i).body ≡ true → stored_type b i ≡ k
  type_said e = sym type_stored ∙ eqb-true _ k e

-- ---- the walk for a type finds where the first attribute of that type starts
module _ (b : List ℕ) (k : ℕ) where
  picked : (o : ℕ) (i : ℕ) (rest : Found) (t : Bool) → pick t o (found_start rest) ≡ found_start (pick t (found o (stored_attribute b i)) rest)
  picked o i rest true = refl
  picked o i rest false = refl

  walked : (i n : ℕ) → first_of_type b k i n ≡ found_start (searched (of_type k) b i n)
  unfolding first_of_type attributes_from first start
  walked i zero = refl
  walked i (suc n) = rw (type_stored b i k, walked (suc i) n) (picked (start b i) i (searched (of_type k) b (suc i) n) (eqb (stored_type b i) k))

  pub walk_found : first_of_type b k 0 (stored_count b) ≡ found_start (first_in (of_type k) (context_of b))
  unfolding context_of start
  walk_found = walked 0 (stored_count b)

-- ---- the first attribute of a type, at `o`, where there is one
pub record FirstOfType (b : List ℕ) (k o : ℕ) : Type 0 where
  pub found : FoundAt (of_type k) b (stored_count b) (first_in (of_type k) (context_of b))
  pub at : o ≡ start b found.index
  pub type_is : u32_at b o ≡ k
  pub here : Loaded b found.index o

pub first_of : (b : List ℕ) (k o : ℕ) → Accepts b → o ≡ found_start (first_in (of_type k) (context_of b)) → (o ≡ 0 → ⊥) → FirstOfType b k o
first_of b k o a e n =
    let f = found_at (of_type k) b (λ z. n (e ∙ z)) in
    let q = e ∙ ap found_start f.is in
    let h = loaded b a f.index o f.below q in
    record { found = f; at = q; type_is = h.reached.type_is ∙ type_said b f.index k f.meets; here = h }

-- no start is past the room
pub first_small : (b : List ℕ) (k : ℕ) → Accepts b → found_start (first_in (of_type k) (context_of b)) ≤ 65536
first_small b k a = go (eqb (found_start (first_in (of_type k) (context_of b))) 0) refl
  where
    go : (t : Bool) → eqb (found_start (first_in (of_type k) (context_of b))) 0 ≡ t → found_start (first_in (of_type k) (context_of b)) ≤ 65536
    go true e = omega (arith, eqb-true (found_start (first_in (of_type k) (context_of b))) 0 e)
    go false e = omega (arith, (first_of b k _ a refl (eqb-false (found_start (first_in (of_type k) (context_of b))) 0 e)).here.reached)

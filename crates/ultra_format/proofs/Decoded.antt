-- The context that is decoded from a buffer is the only one that the buffer can hold.
use Prim.Native.Nat.{ℕ, zero, suc, ◌+◌, ◌≤◌, ◌<◌}
use mathlib.Core.Path.{◌≡◌, refl, sym, ap, ◌∙◌}
use mathlib.Core.Bool.{true}
use mathlib.Core.List.{List, [], ◌∷◌}
use native.Mathlib.Omega.{arith}
use native.Mathlib.Nat.{not-suc-le-zero, le_of_suc-le-suc, add-zero, zero-add}
use lib.ListN.{length, take}
use lib.Seq.{ext_get_or, take-length}
use Rattle.ultra_format.specs.Contexts.{type_of, Attribute, Context, total, start_in, used}
use Rattle.ultra_format.specs.Contexts.{Body.other}
use Rattle.ultra_format.specs.Layouts.{Opens}
use Rattle.ultra_format.specs.Members.{size_suits}
use Rattle.ultra_format.specs.Rules.{TypeSuits, Meets}
use Rattle.ultra_format.specs.Decoding.{start, stored_type, stored_size, stored_count, stored_attribute, attributes_from, context_of}
use Rattle.ultra_format.proofs.Bodies.{decoded_type, body_stored, body_only}
use Rattle.ultra_format.proofs.Attributes.{attribute, at, sized, Says, opens_says}

-- ---- the attributes that are decoded
attributes_length : (b : List ℕ) (i n : ℕ) → length (attributes_from b i n) ≡ n
unfolding attributes_from
attributes_length b i zero = refl
attributes_length b i (suc n) = ap suc (attributes_length b (suc i) n)

attributes_at : (b : List ℕ) (i n j : ℕ) → j < n → at (attributes_from b i n) j ≡ stored_attribute b (i + j)
unfolding attributes_from
attributes_at b i zero j h = absurd (not-suc-le-zero h)
attributes_at b i (suc n) zero h = rw add-zero
attributes_at b i (suc n) (suc j) h =
    let q : suc i + j ≡ i + suc j = omega arith in
    rw (← q) (attributes_at b (suc i) n j (le_of_suc-le-suc h))

attributes_total : (b : List ℕ) (i n j : ℕ) → j ≤ n → start b i + total (take j (attributes_from b i n)) ≡ start b (i + j)
unfolding attributes_from total start
attributes_total b i n zero h = simp add-zero
attributes_total b i zero (suc j) h = absurd (not-suc-le-zero h)
attributes_total b i (suc n) (suc j) h =
    let r = attributes_total b (suc i) n j (le_of_suc-le-suc h) in
    let q : suc i + j ≡ i + suc j = omega arith in
    rw (← q) (omega arith)

module _ (b : List ℕ) where
  pub count_decoded : length (context_of b).attributes ≡ stored_count b
  unfolding context_of
  count_decoded = attributes_length b 0 (stored_count b)

  pub start_decoded : (i : ℕ) → i ≤ stored_count b → start_in (context_of b).attributes i ≡ start b i
  unfolding context_of start
  start_decoded i h = rw zero-add at (attributes_total b 0 (stored_count b) i h)

  pub at_decoded : (i : ℕ) → i < stored_count b → at (context_of b).attributes i ≡ stored_attribute b i
  unfolding context_of
  at_decoded i h = rw zero-add at (attributes_at b 0 (stored_count b) i h)

  pub type_decoded : (i : ℕ) → i < stored_count b → type_of (at (context_of b).attributes i).body ≡ stored_type b i
  type_decoded i h = ap (λ (a : Attribute). type_of a.body) (at_decoded i h) ∙ decoded_type b (start b i) (stored_size b i) (stored_type b i)

  pub used_decoded : used (context_of b) ≡ start b (stored_count b)
  used_decoded =
      ap (λ (l : List Attribute). 8 + total l) (sym (rw count_decoded at (take-length (context_of b).attributes))) ∙ start_decoded (stored_count b) (omega arith)

  -- a buffer says the context that is decoded from it
  pub says_decoded : Says b (context_of b)
  unfolding context_of
  says_decoded =
      record {
        major = refl;
        minor = refl;
        count = sym count_decoded;
        stored = λ i l. let k : i < stored_count b = rw count_decoded at l in rw (start_decoded i (omega arith), at_decoded i k)
            (record { kind = sym (decoded_type b (start b i) (stored_size b i) (stored_type b i)); size = refl; body = body_stored b (start b i) (stored_size b i) (stored_type b i) });
      }

-- ---- any other context that a buffer says
total_take : (l : List Attribute) (i : ℕ) → i < length l → total (take (suc i) l) ≡ total (take i l) + (at l i).size
unfolding total
total_take [] i h = absurd (not-suc-le-zero h)
total_take (a ∷ l) zero h = omega arith
total_take (a ∷ l) (suc i) h = let r = total_take l i (le_of_suc-le-suc h) in omega arith

module _ (b : List ℕ) (c : Context) (s : Says b c) where
  -- where attribute i starts in the list is where it is found in the buffer
  pub starts : (i : ℕ) → i ≤ length c.attributes → start b i ≡ start_in c.attributes i
  unfolding start total
  starts zero h = refl
  starts (suc i) h =
      let r = starts i (omega arith) in
      let z = (s.stored i h).size in
      let t = total_take c.attributes i h in
      rw r (omega arith)

  only : ((i : ℕ) → i < length c.attributes → TypeSuits (at c.attributes i).body × (size_suits (at c.attributes i).size (at c.attributes i).body ≡ true)) → c ≡ context_of b
  unfolding context_of
  only k =
      let l : c.attributes ≡ (context_of b).attributes =
      ext_get_or (attribute 0 (other 0)) c.attributes (context_of b).attributes (sym (count_decoded b ∙ s.count))
      (λ i h. same i h ∙ sym (at_decoded b i (omega (arith, s.count)))) in
      λ i. record { major = sym s.major i; minor = sym s.minor i; attributes = l i }
    where
      same : (i : ℕ) → i < length c.attributes → at c.attributes i ≡ stored_attribute b i
      same i h =
          let f = s.stored i h in
          let g = k i h in
          rw (starts i (omega arith), f.size, f.kind)
          (ap (attribute (at c.attributes i).size) (body_only b (start_in c.attributes i) (at c.attributes i).size (at c.attributes i).body g.0 g.1 f.body))

-- whatever meets the rules and opens a buffer is the context that is decoded from it
pub decoded_only : (fewest room : ℕ) (b : List ℕ) (c : Context) → Meets fewest room c → Opens b c → c ≡ context_of b
decoded_only fewest room b c m o = only b c (opens_says b c m.fits (sized m) o) (λ i h. let a = m.each i h in (a.type_suits, a.suits))

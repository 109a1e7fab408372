-- What is left to gather, as a pass over the attributes of an accepted buffer meets it.
use Prim.Native.Nat.{ℕ, suc, ◌+◌, ◌-◌, ◌≤◌, ◌<◌}
use mathlib.Core.Path.{◌≡◌, refl, sym, ap, ◌∙◌}
use mathlib.Core.List.{List, [], ◌++◌}
use native.Mathlib.Omega.{arith}
use native.Mathlib.Nat.{sub-zero}
use native.Mathlib.Numerals.{add-one}
use Rattle.words.specs.Words.{u32_at}
use Rattle.ultra_format.specs.Decoding.{start, stored_type, stored_size, stored_count, attributes_from, context_of}
use Rattle.ultra_format.proofs.Bodies.{decoded_type}
use Rattle.ultra_locating.specs.Passing.{Accepts}
use Rattle.ultra_locating.proofs.Located.{loaded, inside}
use Rattle.handover_format.specs.Payloads.{Entry}
use Rattle.export_list.specs.ExportList.{gathered}
use Rattle.export_list.specs.AttributeEntries.{AttributeAt, becomes}

-- what the attributes of type k from attribute i of n on become
abbrev pub left : List ℕ → ℕ → ℕ → ℕ → List Entry
left b k n i = gathered k (attributes_from b i (n - i))

-- what a pass knows of attribute i, to which it has come at `o`
pub record Here (b : List ℕ) (k n i o : ℕ) : Type 0 where
  pub attribute : AttributeAt b o
  pub splits : left b k n i ≡ becomes b o k ++ left b k n (i + 1)
  pub next : o + u32_at b (o + 4) ≡ start b (i + 1)

module _ (b : List ℕ) (k n : ℕ) where
  left_here : (i : ℕ) → i < n → left b k n i ≡ becomes b (start b i) k ++ left b k n (i + 1)
  unfolding attributes_from gathered becomes
  left_here i h =
      let q : n - i ≡ suc (n - (i + 1)) = omega arith in
      rw (q, add-one i, decoded_type b (start b i) (stored_size b i) (stored_type b i)) refl

  pub here_is : (i o : ℕ) → Accepts b → n ≡ stored_count b → i < n → o ≡ start b i → Here b k n i o
  here_is i o a e h f =
      let l : i < stored_count b = omega arith in
      let x = loaded b a i o l f in
      let y = inside b a i l in
      record {
        attribute =
            record {
              least = x.reached.least;
              within = omega (arith, y.within, x.reached.size_is);
              small = omega (arith, y.small, x.reached.size_is);
              suits = x.suits;
            };
        splits = left_here i h ∙ ap (λ (p : ℕ). becomes b p k ++ left b k n (i + 1)) (sym f);
        next = x.reached.next;
      }

  pub all_left : n ≡ stored_count b → left b k n 0 ≡ gathered k (context_of b).attributes
  unfolding context_of
  all_left e = ap (λ (m : ℕ). gathered k (attributes_from b 0 m)) (sub-zero n ∙ e)

  pub none_left : (i : ℕ) → n ≤ i → left b k n i ≡ []
  unfolding attributes_from gathered
  none_left i h = let q : n - i ≡ 0 = omega arith in rw q

-- Laws of extents: nothing more, records side by side, and the whole list.
use Prim.Native.Nat.{ℕ, ◌+◌}
use mathlib.Core.Path.{◌≡◌, refl, sym, ap, ◌∙◌}
use mathlib.Core.List.{List, [], ◌++◌}
use native.Mathlib.Omega.{arith}
use native.Mathlib.Nat.{add-zero}
use lib.ListN.{length, length-append}
use Rattle.ultra_format.specs.Contexts.{Attribute}
use Rattle.handover_format.specs.Payloads.{Entry}
use Rattle.handover_format.specs.WrittenForm.{strings}
use Rattle.handover_format.proofs.WrittenLaws.{strings_none, length_strings}
use Rattle.export_list.specs.ExportList.{gathered, between, entries_of}
use Rattle.export_list.proofs.SelfLaws.{entries_length, entries_strings}
use Rattle.export_sizes.specs.Extents.{grown}
use Rattle.export_sizes.specs.declared.Extent.{Extent}

-- told by its two numbers
pub extent_is : (m : Extent) (es : List Entry) (n w : ℕ) → n ≡ m.count + length es → w ≡ m.width + length (strings es) → ◌≡◌ {A = Extent} (record { count = n; width = w }) (grown m es)
unfolding grown
extent_is m es n w e f = λ j. record { count = e j; width = f j }

pub grown_count : (m : Extent) (es : List Entry) → (grown m es).count ≡ m.count + length es
unfolding grown
grown_count m es = refl

pub grown_width : (m : Extent) (es : List Entry) → (grown m es).width ≡ m.width + length (strings es)
unfolding grown
grown_width m es = refl

pub grown_none : (m : Extent) → m ≡ grown m []
unfolding grown
grown_none m = rw strings_none (λ j. record { count = sym (add-zero m.count) j; width = sym (add-zero m.width) j })

-- one list, then the other
pub grown_then : (m : Extent) (xs ys : List Entry) → grown (grown m xs) ys ≡ grown m (xs ++ ys)
unfolding grown
grown_then m xs ys =
    let n : m.count + length xs + length ys ≡ m.count + length (xs ++ ys) = omega (arith, length-append xs ys) in
    let w : m.width + length (strings xs) + length (strings ys) ≡ m.width + length (strings (xs ++ ys)) = omega (arith, length_strings xs ys) in
    λ j. record { count = n j; width = w j }

-- ---- the whole list: type by type, and with the first and the last record
module _ (l : List Attribute) (a : Extent) where
  pub grown_between : (p q r s : Extent) → p ≡ grown a (gathered 3 l) → q ≡ grown p (gathered 4 l) → r ≡ grown q (gathered 5 l) → s ≡ grown r (gathered 1 l) → s ≡ grown a (between l)
  grown_between p q r s e f g h =
      h ∙ ap (λ (m : Extent). grown m (gathered 1 l)) g
      ∙ grown_then q (gathered 5 l) (gathered 1 l)
      ∙ ap (λ (m : Extent). grown m (gathered 5 l ++ gathered 1 l)) f
      ∙ grown_then p (gathered 4 l) (gathered 5 l ++ gathered 1 l)
      ∙ ap (λ (m : Extent). grown m (gathered 4 l ++ (gathered 5 l ++ gathered 1 l))) e
      ∙ grown_then a (gathered 3 l) (gathered 4 l ++ (gathered 5 l ++ gathered 1 l))

  pub grown_entries : (s : Extent) (load size : ℕ) → s ≡ grown a (between l) → ◌≡◌ {A = Extent} (record { count = s.count + 2; width = s.width }) (grown a (entries_of load size l))
  grown_entries s load size e =
      let n : s.count ≡ a.count + length (between l) = ap (λ (m : Extent). m.count) e ∙ grown_count a (between l) in
      let w : s.width ≡ a.width + length (strings (between l)) = ap (λ (m : Extent). m.width) e ∙ grown_width a (between l) in
      extent_is a (entries_of load size l) (s.count + 2) s.width (omega (arith, n, entries_length l load size)) (omega (arith, w, ap length (entries_strings l load size)))

-- Proofs of the statements in specs/Examples.antt.
use Prim.Native.Nat.{ℕ, zero, suc, ◌<◌}
use mathlib.Core.Path.{◌≡◌, refl, subst}
use mathlib.Core.List.{List, [], ◌∷◌}
use native.Mathlib.Omega.{arith}
use lib.ListN.{get_or}
use Rattle.byte_layout.specs.Fields.{cells, filled, Fits}
use Rattle.byte_layout.specs.Placed.{LiesAt}
use Rattle.byte_layout.specs.Stored.{bytes_at}
use Rattle.ultra_format.specs.Contexts.{attribute_at, total}
use Rattle.ultra_format.specs.Layouts.{attribute_fields, attribute_written}
use Rattle.ultra_format.specs.Members.{size_suits, values, texts, ranges, ordered, ascii_text, every}
use Rattle.ultra_format.specs.Rules.{AttributeMeets}
use Rattle.ultra_format.specs.Examples.{listed, listed_bytes}
use Rattle.ultra_format.proofs.Attributes.{sized}
use Rattle.ultra_format.proofs.Witness.{listed_meets, listed_opens}
use Rattle.ultra_acceptance.specs.Acceptance.{HoldsContext}
use Rattle.ultra_edits.specs.Opening.{RowOf.attribute}
use Rattle.ultra_edits.specs.Splicing.{spliced, counting}
use Rattle.ultra_edits.specs.Edits.{Edited}
use Rattle.ultra_edits.specs.Examples.{without_map, other_line, with_other_line, EditExamples}
use Rattle.ultra_edits.proofs.Opening.{opens_by_attribute}
use Rattle.ultra_edits.proofs.OneAttribute.{removes, replaces}

holds : HoldsContext 2 listed_bytes listed
holds = (listed_meets, listed_opens)

line : LiesAt listed_bytes 464 (cells (attribute_fields (attribute_at listed 3)))
unfolding total
line = ((opens_by_attribute listed_bytes listed (sized listed_meets)).0 listed_opens).lies _ _ (attribute 3 (omega arith))

removed : spliced (counting 3 listed_bytes) 432 32 [] 16 ≡ without_map
unfolding bytes_at
removed = refl

removed_holds_law : Edited 2 listed_bytes listed 2 1 [] without_map
unfolding total
removed_holds_law = subst (Edited 2 listed_bytes listed 2 1 []) removed (removes listed_bytes listed 2 holds (omega arith) (omega arith))

-- ---- the other line
replaced : spliced listed_bytes 464 16 (attribute_written other_line) 0 ≡ with_other_line
unfolding bytes_at cells filled
replaced = refl

abbrev on : List ℕ
on = 111 ∷ 110 ∷ []

letters : (i : ℕ) → i < 2 → (0 < get_or on i 0) × (get_or on i 0 < 256)
letters zero h = (omega arith, omega arith)
letters (suc zero) h = (omega arith, omega arith)
letters (suc (suc i)) h = absurd (omega arith)

fits : Fits (attribute_fields other_line)
unfolding Fits
fits = (omega arith, (omega arith, ((omega arith, letters), tt)))

meets : AttributeMeets other_line.size other_line.body
unfolding size_suits values texts ranges ordered ascii_text every
meets =
    record {
      eights = refl;
      least = omega arith;
      type_suits = tt;
      suits = refl;
      values_hold = refl;
      texts_hold = refl;
      ranges_hold = refl;
      in_order = refl;
    }

replaced_holds_law : Edited 2 listed_bytes listed 3 1 (other_line ∷ []) with_other_line
unfolding total
replaced_holds_law =
    subst (Edited 2 listed_bytes listed 3 1 (other_line ∷ [])) replaced
    (replaces listed_bytes listed 3 other_line holds (omega arith) refl meets fits (omega arith))

pub edit_examples : EditExamples
edit_examples = record { line = line; removed = removed; removed_holds = removed_holds_law; replaced = replaced; replaced_holds = replaced_holds_law }

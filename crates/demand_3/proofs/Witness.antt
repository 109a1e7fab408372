-- The context with every type is held by its bytes, and by what a writer of it writes. What is said of the second buffer comes from
-- demand 3, in either direction.
use Prim.Native.Nat.{ℕ, zero, suc, ◌+◌, ◌<◌}
use mathlib.Core.Path.{◌≡◌, refl, sym, ap, ◌∙◌}
use mathlib.Core.List.{List, [], ◌∷◌, ◌++◌}
use native.Mathlib.Omega.{arith}
use native.Mathlib.Nat.{not-suc-le-zero, le_of_suc-le-suc}
use lib.ListN.{length, get_or}
use Rattle.byte_layout.specs.Fields.{Cell, Cell.byte, Cell.silent, cells, filled, SilentAt}
use Rattle.byte_layout.specs.Stored.{bytes_at}
use Rattle.byte_layout.proofs.Cells.{not_silent, length_filled}
use Rattle.byte_layout.proofs.FieldLaws.{length_cells}
use Rattle.refusals.specs.Refusals.{COUNT}
use Rattle.refusals.specs.Answers.{refused}
use Rattle.ultra_format.specs.Contexts.{type_at, attribute_at, start_in, used, total}
use Rattle.ultra_format.specs.Layouts.{layout, entries_fields, written}
use Rattle.ultra_format.specs.Records.{records_of}
use Rattle.ultra_format.specs.Examples.{every_type, every_type_bytes, junk}
use Rattle.ultra_format.proofs.Attributes.{sized, width_layout}
use Rattle.ultra_format.proofs.Witness.{noisy, every_type_bytes_law, every_type_laid, every_type_meets, every_type_opens, silent_zero}
use Rattle.ultra_acceptance.specs.Acceptance.{HoldsContext, DiffersInSilence}
use Rattle.ultra_questions.specs.Parts.{body_part, part_bytes}
use Rattle.ultra_questions.specs.declared.attributes.AttributeAnswer.{AttributeAnswer}
use Rattle.ultra_questions.specs.AttributeQuestion.{answered, unanswered, attribute_answer, PartHandedBack}
use Rattle.ultra_questions.proofs.AttributeLaws.{part_inside}
use Rattle.demand_3.specs.Demand3.{part_at, ReadingIs, SameReading}
use Rattle.ultra_question_statements.specs.Witness.{every_line, lent_at}
use Rattle.demand_3.specs.Witness.{every_answers, every_entries, Witnessed}
use Rattle.demand_3.proofs.Demand3.{demand_3}

-- ---- what a writer writes, and the noise, cell by cell
filled_same : (cs : List Cell) (more : List ℕ) (i : ℕ) → i < length cs → (SilentAt cs i → ⊥) → get_or (filled cs) i 0 ≡ get_or (noisy cs ++ more) i 0
unfolding filled noisy
filled_same [] more i h n = absurd (not-suc-le-zero h)
filled_same (byte x ∷ cs) more zero h n = refl
filled_same (byte x ∷ cs) more (suc i) h n = filled_same cs more i (le_of_suc-le-suc h) n
filled_same (silent ∷ cs) more zero h n = absurd (n refl)
filled_same (silent ∷ cs) more (suc i) h n = filled_same cs more i (le_of_suc-le-suc h) n

silent_noise : (cs : List Cell) (more : List ℕ) (i : ℕ) → i < length cs → SilentAt cs i → get_or (noisy cs ++ more) i 0 ≡ 165
unfolding noisy
silent_noise [] more i h e = absurd (not-suc-le-zero h)
silent_noise (byte x ∷ cs) more zero h e = absurd (not_silent x (sym e))
silent_noise (byte x ∷ cs) more (suc i) h e = silent_noise cs more i (le_of_suc-le-suc h) e
silent_noise (silent ∷ cs) more zero h e = refl
silent_noise (silent ∷ cs) more (suc i) h e = silent_noise cs more i (le_of_suc-le-suc h) e

-- ---- the context with every type
every_cells : List Cell
every_cells = cells (layout every_type)

wide : length every_cells ≡ used every_type
unfolding every_cells
wide = length_cells (layout every_type) ∙ width_layout every_type (sized every_type_meets)

laid : (i : ℕ) → get_or (noisy every_cells ++ junk 5) i 0 ≡ get_or every_type_bytes i 0
unfolding every_cells
laid i = ap (λ (l : List ℕ). get_or l i 0) every_type_laid

holds : HoldsContext 2 every_type_bytes every_type
holds = (every_type_meets, every_type_opens)

differs : DiffersInSilence every_type every_type_bytes (written every_type)
unfolding every_cells
differs = (omega (arith, length_filled every_cells, wide), λ i h n. filled_same every_cells (junk 5) i (omega (arith, wide)) n ∙ laid i)

differs_back_law : DiffersInSilence every_type (written every_type) every_type_bytes
differs_back_law = (omega (arith, every_type_meets.within), λ i h n. sym (differs.1 i h n))

holds_written_law : HoldsContext 2 (written every_type) every_type
holds_written_law = (demand_3.silent every_type_bytes (written every_type) every_type holds differs).0

same : SameReading every_type_bytes (written every_type)
same = (demand_3.silent every_type_bytes (written every_type) every_type holds differs).1

seven : (P : ℕ → Type 0) → P 0 → P 1 → P 2 → P 3 → P 4 → P 5 → P 6 → (i : ℕ) → i < 7 → P i
seven P a b c d e f g zero h = a
seven P a b c d e f g (suc zero) h = b
seven P a b c d e f g (suc (suc zero)) h = c
seven P a b c d e f g (suc (suc (suc zero))) h = d
seven P a b c d e f g (suc (suc (suc (suc zero)))) h = e
seven P a b c d e f g (suc (suc (suc (suc (suc zero))))) h = f
seven P a b c d e f g (suc (suc (suc (suc (suc (suc zero)))))) h = g
seven P a b c d e f g (suc (suc (suc (suc (suc (suc (suc i))))))) h = absurd (omega arith)

is : ReadingIs every_type_bytes every_type
is = demand_3.reads every_type_bytes every_type holds

-- the answers, written out
answers : (i : ℕ) → i < 7 → attribute_answer every_type_bytes i ≡ get_or every_answers i (unanswered (refused COUNT 0))
unfolding total records_of body_part
answers i h = is.each i h ∙ seven (λ (i : ℕ). answered (start_in every_type.attributes i) (attribute_at every_type i) ≡ get_or every_answers i (unanswered (refused COUNT 0))) refl refl refl refl refl refl refl i h

-- ---- slices of the buffer at 4096
place : (i : ℕ) (a : AttributeAnswer) → attribute_answer every_type_bytes i ≡ a → 4096 + a.part.start ≡ (attribute_answer every_type_bytes i).part.start + 4096
place i a e = omega (arith, ap (λ (a : AttributeAnswer). a.part.start) e)

entries : part_at every_type_bytes 2 ≡ every_entries
unfolding part_bytes filled cells entries_fields
entries = is.parts 2 (omega arith)

line : part_at every_type_bytes 4 ≡ every_line
unfolding part_bytes
line = is.parts 4 (omega arith)

past : part_at every_type_bytes 7 ≡ []
unfolding bytes_at
past = ap (λ (a : AttributeAnswer). bytes_at every_type_bytes a.part.start a.part.length) (is.past 7 (omega arith))

handed_back : (i o : ℕ) (l : List ℕ) → o ≡ (attribute_answer every_type_bytes i).part.start + 4096 → part_at every_type_bytes i ≡ l → PartHandedBack (lent_at o l) (lent_at 4096 every_type_bytes) i
handed_back i o l e f = record { block = refl; offset = e; within = part_inside every_type_bytes i; has = sym f }

entries_slice_law : PartHandedBack (lent_at 4552 every_entries) (lent_at 4096 every_type_bytes) 2
entries_slice_law = handed_back 2 4552 every_entries (place 2 _ (answers 2 (omega arith))) entries

line_slice_law : PartHandedBack (lent_at 4712 every_line) (lent_at 4096 every_type_bytes) 4
line_slice_law = handed_back 4 4712 every_line (place 4 _ (answers 4 (omega arith))) line

pub witnessed : Witnessed
unfolding every_cells total records_of body_part part_bytes filled cells entries_fields
witnessed =
    record {
      bytes = every_type_bytes_law;
      holds = holds;
      types = seven (λ (i : ℕ). type_at every_type i ≡ suc i) refl refl refl refl refl refl refl;
      whole = is.whole;
      nothing_beside = λ r. refl;
      each = answers;
      past = is.past;
      entries = entries;
      line = line;
      entries_slice = entries_slice_law;
      line_slice = line_slice_law;
      no_slice = handed_back 7 4096 [] (place 7 _ (is.past 7 (omega arith))) past;
      any_entries = λ lent s e p. let w = is.slices lent s 2 e (omega arith) p in (w.0, w.1.0, w.1.1, w.2);
      any_past = λ lent s i e h p. is.no_slices lent s i e h p;
      any_line = λ lent s e p. let w = is.slices lent s 4 e (omega arith) p in (w.0, w.1.0, w.1.1, w.2);
      differs = differs;
      noisy = λ i h e. (sym (laid i) ∙ silent_noise every_cells (junk 5) i (omega (arith, wide)) e, silent_zero every_cells i e);
      same = same;
      holds_written = holds_written_law;
      differs_back = differs_back_law;
      same_back = (demand_3.silent (written every_type) every_type_bytes every_type holds_written_law differs_back_law).1;
      written_entries = λ lent s e p. same.slices (lent_at 4552 every_entries) lent (lent_at 4096 every_type_bytes) s 2 refl e entries_slice_law p;
      written_line = λ lent s e p. same.slices (lent_at 4712 every_line) lent (lent_at 4096 every_type_bytes) s 4 refl e line_slice_law p;
      short = λ b o. (refl, refl, refl, refl);
    }

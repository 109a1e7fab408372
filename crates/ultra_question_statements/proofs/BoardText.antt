-- What request R-5 changed: by whether a line is found.
use Rattle.std.specs.Prelude.{Ok, Err}
use Prim.Native.Nat.{ℕ}
use mathlib.Core.Path.{◌≡◌, refl, sym, ap, ap₂, ◌∙◌, subst}
use mathlib.Core.List.{List, []}
use denote.Ref.{Bor}
use Rattle.byte_layout.specs.Stored.{bytes_at}
use Rattle.lent_buffers.specs.declared.Part.{Part}
use Rattle.lent_buffers.specs.LentParts.{no_part, PartOf, WholeOf}
use Rattle.ultra_format.specs.Decoding.{context_of}
use Rattle.refusals.specs.Answers.{Answer}
use Rattle.ultra_reading.specs.Reading.{used_length}
use Rattle.ultra_locating.specs.Passing.{if_accepted}
use Rattle.ultra_locating.specs.Searching.{Found, Found.none, Found.found}
use Rattle.ultra_questions.specs.CommandLineQuestion.{line_in, found_part, command_line_in, line_found, command_line_part, LineOrBoard}
use Rattle.ultra_question_statements.specs.BoardText.{part_before, HandedBackBefore, BoardText}

-- two slices that are the same part of a text
same_part : (lent other s : Bor (List ℕ)) (p : Part) → PartOf lent s p → PartOf other s p → WholeOf lent other
same_part lent other s p x y =
    (ap₂ (λ (m n : ℕ). (m, n)) (x.block ∙ sym y.block) (x.offset ∙ sym y.offset), x.has ∙ sym y.has)

module _ (lent other s board : Bor (List ℕ)) where
  no_difference_law : (f : Found) → LineOrBoard lent s board f → PartOf other s (found_part f) → board.now ≡ [] → lent.now ≡ other.now
  unfolding bytes_at
  no_difference_law none w q e = w.1 ∙ e ∙ sym q.has
  no_difference_law (found o a) w q e = w.has ∙ sym q.has

  same_line_law : (f : Found) → LineOrBoard lent s board f → PartOf other s (found_part f) → ((found_part f).start ≡ 0 → ⊥) → WholeOf lent other
  same_line_law none w q n = absurd (n refl)
  same_line_law (found o a) w q n = same_part lent other s _ w q

  settled : (f : Found) → LineOrBoard lent s board f → LineOrBoard other s board f → WholeOf lent other
  settled none w q = (w.0 ∙ sym q.0, w.1 ∙ sym q.1)
  settled (found o a) w q = same_part lent other s _ w q

-- the part is the one of before
unmoved : (b : List ℕ) → found_part (line_found b) ≡ part_before b
unfolding line_found
unmoved b = go (used_length 2 b)
  where
    go : (u : Answer) → found_part (if_accepted (λ r. none) (line_in (context_of b)) u) ≡ if_accepted (λ r. no_part) (command_line_in (context_of b)) u
    go (Ok n) = refl
    go (Err r) = refl

was_handed : (before s : Bor (List ℕ)) → HandedBackBefore before s → PartOf before s (found_part (line_found s.now))
was_handed before s q = subst (PartOf before s) (sym (unmoved s.now)) q

pub board_text_law : BoardText
unfolding command_line_part
board_text_law =
    record {
      unmoved = unmoved;
      no_difference = λ lent before s board w q e. no_difference_law lent before s board (line_found s.now) w (was_handed before s q) e;
      same_line = λ lent before s board w q n. same_line_law lent before s board (line_found s.now) w (was_handed before s q) (λ z. n (ap (λ (p : Part). p.start) (sym (unmoved s.now)) ∙ z));
      settled = λ lent other s board w q. settled lent other s board (line_found s.now) w q;
    }

-- What the calls answer of a buffer by the context that it holds, and that two buffers which hold one context are read alike.
use Prim.Native.Nat.{ℕ, ◌≤◌, ◌<◌}
use mathlib.Core.Path.{◌≡◌, refl, sym, ap, ◌∙◌, subst}
use mathlib.Core.Bool.{Bool, true, false}
use mathlib.Core.List.{List, []}
use lib.Dec.{ltb}
use borrow.Author.Tests.{ltb-true, ltb-false, lt-ltb, le-ltb}
use denote.Ref.{Bor}
use Rattle.byte_layout.specs.Stored.{bytes_at}
use Rattle.refusals.specs.Refusals.{COUNT}
use Rattle.refusals.specs.Answers.{refused}
use Rattle.ultra_format.specs.Contexts.{Context, count, attribute_at, body_at, start_in, used}
use Rattle.lent_buffers.specs.Room.{room_of}
use Rattle.ultra_acceptance.specs.Acceptance.{HoldsContext}
use Rattle.ultra_acceptance.proofs.Acceptance.{held_reading}
use Rattle.ultra_questions.specs.declared.attributes.AttributeAnswer.{AttributeAnswer}
use Rattle.lent_buffers.specs.LentParts.{PartOf, LiesAt}
use Rattle.ultra_questions.specs.Parts.{body_part, part_bytes}
use Rattle.ultra_questions.specs.AttributeQuestion.{answered, unanswered, start_or_count, with_members, attribute_answer, PartHandedBack}
use Rattle.demand_3.specs.Demand3.{ReadingIs, SameReading}
use Rattle.ultra_question_statements.proofs.PartCells.{part_bytes_law, slice_bytes, slice_empty}
use Rattle.ultra_question_statements.proofs.ByContext.{questions_by_context}

-- ---- the answers, by the context that the buffer holds
module _ (b : List ℕ) (c : Context) (h : HoldsContext 2 b c) (i : ℕ) where
  held_answer : attribute_answer b i ≡ with_members (attribute_at c i) (start_or_count c i)
  held_answer = (questions_by_context b c h).attributes i

  below : i < count c → attribute_answer b i ≡ answered (start_in c.attributes i) (attribute_at c i)
  below k = rw (lt-ltb i (count c) k) at held_answer

  beyond : count c ≤ i → attribute_answer b i ≡ unanswered (refused COUNT (used c))
  beyond k = rw (le-ltb i (count c) k) at held_answer

  -- the slice that is handed back
  module _ (lent s : Bor (List ℕ)) (e : s.now ≡ b) (p : PartHandedBack lent s i) where
    slice : PartOf lent s (attribute_answer b i).part
    slice = subst (λ (l : List ℕ). PartOf lent s (attribute_answer l i).part) e p

    slice_below : i < count c → let p = body_part (start_in c.attributes i) (body_at c i) in PartOf lent s p × LiesAt lent s p.start × (lent.now ≡ part_bytes (body_at c i))
    slice_below k =
        let w = subst (λ (a : AttributeAnswer). PartOf lent s a.part) (below k) slice in
        (w, (w.block, w.offset), slice_bytes b lent s (body_part (start_in c.attributes i) (body_at c i)) e w ∙ part_bytes_law b 2 (room_of b) c h.0 h.1 i k)

    slice_beyond : count c ≤ i → lent.now ≡ []
    slice_beyond k = slice_empty lent s (attribute_answer b i).part (ap (λ (a : AttributeAnswer). a.part) (beyond k)) slice

pub reads : (b : List ℕ) (c : Context) → HoldsContext 2 b c → ReadingIs b c
reads b c h =
    record {
      whole = held_reading b c h;
      each = below b c h;
      parts = λ i k. ap (λ (a : AttributeAnswer). bytes_at b a.part.start a.part.length) (below b c h i k) ∙ part_bytes_law b 2 (room_of b) c h.0 h.1 i k;
      past = beyond b c h;
      slices = λ lent s i e k p. slice_below b c h i lent s e p k;
      no_slices = λ lent s i e k p. slice_beyond b c h i lent s e p k;
    }

-- ---- two buffers that hold one context are read alike
module _ (b d : List ℕ) (c : Context) (g : HoldsContext 2 b c) (h : HoldsContext 2 d c) where
  answers : (i : ℕ) → attribute_answer d i ≡ attribute_answer b i
  answers i = held_answer d c h i ∙ sym (held_answer b c g i)

  module _ (lent other s t : Bor (List ℕ)) (i : ℕ) (e : s.now ≡ b) (f : t.now ≡ d) (p : PartHandedBack lent s i) (q : PartHandedBack other t i) where
    slice_same : (u : Bool) → ltb i (count c) ≡ u → other.now ≡ lent.now
    slice_same true k = let l = ltb-true i (count c) k in (slice_below d c h i other t f q l).2 ∙ sym (slice_below b c g i lent s e p l).2
    slice_same false k = let l = ltb-false i (count c) k in slice_beyond d c h i other t f q l ∙ sym (slice_beyond b c g i lent s e p l)

  pub same : SameReading b d
  same = record { whole = held_reading d c h ∙ sym (held_reading b c g); each = answers; slices = λ lent other s t i e f p q. slice_same lent other s t i e f p q (ltb i (count c)) refl }

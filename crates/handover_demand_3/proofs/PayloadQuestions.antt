-- The questions are refused exactly where reading is, and the one for a record from the count on.
use Rattle.std.specs.Prelude.{Ok, Err}
use Prim.Native.Nat.{ℕ}
use mathlib.Core.Path.{◌≡◌, refl, sym, ap, ◌∙◌}
use mathlib.Core.Logic.{◌⊎◌, inl, inr, ⊎_elim}
use mathlib.Core.Bool.{Bool, true, false}
use mathlib.Core.List.{List}
use native.Mathlib.Omega.{arith}
use lib.Dec.{ltb}
use borrow.Author.Tests.{ltb-true, ltb-false}
use Rattle.refusals.specs.Refusals.{COUNT}
use Rattle.refusals.specs.Answers.{Answer, refused, number_of, value_of}
use Rattle.refusals.specs.declared.Refusal.{Refusal}
use Rattle.handover_format.specs.PayloadDecoding.{stored_count, payload_of}
use Rattle.handover_format.proofs.PayloadDecoded.{size_decoded}
use Rattle.handover_reading.specs.PayloadReading.{reading_of}
use Rattle.handover_reading.proofs.Accepted.{accepted}
use Rattle.handover_questions.specs.Questions.{agent_refused, record_refused, with_agent, with_record, agent_answer, index_answer, record_answer}
use Rattle.handover_questions.proofs.QuestionLaws.{index_passed, index_past, index_found, found}
use Rattle.handover_acceptance.specs.PayloadRefusals.{Refuses}
use Rattle.handover_acceptance.proofs.PayloadRefusals.{refuses_exactly}
use Rattle.handover_demand_3.specs.PayloadQuestions.{NoRecord, QuestionsRefuse}

done_refused : {X : Type 0} (n : ℕ) (r : Refusal) → Ok n ≡ Err r → X
done_refused n r e = absurd (let z : ◌≡◌ {A = ℕ} 0 1 = cc in omega arith)

module _ (b : List ℕ) where
  -- ---- the agent
  agent_first : (agent_answer b).answer ≡ reading_of b
  unfolding agent_answer
  agent_first = go (reading_of b) refl
    where
      go : (a : Answer) → reading_of b ≡ a → (with_agent (payload_of b) a).answer ≡ a
      go (Ok n) e = ap Ok (size_decoded b ∙ sym (accepted b n e).used)
      go (Err r) e = refl

  agent_alone_law : (r : Refusal) → (agent_answer b).answer ≡ Err r → agent_answer b ≡ agent_refused (Err r)
  unfolding agent_answer
  agent_alone_law r e = ap (with_agent (payload_of b)) (sym agent_first ∙ e)

  -- ---- the record at an index
  module _ (i : ℕ) where
    index_first : (record_answer b i).answer ≡ index_answer b i
    unfolding record_answer
    index_first = go (index_answer b i) refl
      where
        go : (a : Answer) → index_answer b i ≡ a → (with_record (payload_of b) i a).answer ≡ a
        go (Ok n) e = ap Ok (size_decoded b ∙ sym (found b i n e).accepts.used)
        go (Err r) e = refl

    index_alone_law : (r : Refusal) → (record_answer b i).answer ≡ Err r → record_answer b i ≡ record_refused (Err r)
    unfolding record_answer
    index_alone_law r e = ap (with_record (payload_of b) i) (sym index_first ∙ e)

    module _ (r : Refusal) where
      -- from the answer to the condition, by what reading answers
      counted : (n : ℕ) → reading_of b ≡ Ok n → index_answer b i ≡ Err r → (t : Bool) → ltb i (stored_count b) ≡ t → NoRecord b i r
      counted n e h true q = done_refused n r (index_found b i n e (ltb-true i (stored_count b) q) ∙ h)
      counted n e h false q =
          let l = ltb-false i (stored_count b) q in
          let z : refused COUNT n ≡ Err r = index_past b i n e l ∙ h in
          (l, ap number_of (sym z), e ∙ ap Ok (ap value_of z))

      because : (a : Answer) → reading_of b ≡ a → index_answer b i ≡ Err r → Refuses b (number_of (Err r)) (value_of (Err r)) ⊎ NoRecord b i r
      because (Ok n) e h = inr (counted n e h (ltb i (stored_count b)) refl)
      because (Err q) e h = inl ((refuses_exactly b r).0 (e ∙ index_passed b i q e ∙ h))

      gives : Refuses b (number_of (Err r)) (value_of (Err r)) ⊎ NoRecord b i r → index_answer b i ≡ Err r
      gives h =
          ⊎_elim (λ a. sym (index_passed b i r ((refuses_exactly b r).1 a)))
          (λ a. sym (index_past b i r.offset a.2 a.0) ∙ ap (λ (n : ℕ). refused n r.offset) (sym a.1)) h

pub questions_refuse : QuestionsRefuse
questions_refuse =
    record {
      agent = λ b r. (λ e. (refuses_exactly b r).0 (sym (agent_first b) ∙ e), λ h. agent_first b ∙ (refuses_exactly b r).1 h);
      index = λ b i r. (λ e. because b i r (reading_of b) refl (sym (index_first b i) ∙ e), λ h. index_first b i ∙ gives b i r h);
      agent_alone = agent_alone_law;
      index_alone = index_alone_law;
    }

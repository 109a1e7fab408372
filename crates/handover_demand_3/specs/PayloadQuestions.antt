-- The two questions are refused exactly where reading is, and the one for a record from the count on; and then answer nothing besides. Of a
-- buffer nothing is assumed. Proved in proofs/PayloadQuestions.antt: `questions_refuse`.
-- A reader has to believe this file.
use Rattle.std.specs.Prelude.{ℕ, ◌≤◌, ◌≡◌, ◌↔◌, ◌⊎◌, List, Ok, Err}
use Rattle.refusals.specs.Refusals.{COUNT}
use Rattle.refusals.specs.Answers.{number_of, value_of}
use Rattle.refusals.specs.declared.Refusal.{Refusal}
use Rattle.handover_format.specs.PayloadDecoding.{stored_count}
use Rattle.handover_reading.specs.PayloadReading.{reading_of}
use Rattle.handover_acceptance.specs.PayloadRefusals.{Refuses}
use Rattle.handover_questions.specs.Questions.{agent_refused, record_refused, agent_answer, record_answer}

-- "3 with the used length from the count on": the buffer is accepted, and i is no record's index
abbrev pub NoRecord : List ℕ → ℕ → Refusal → Type 0
NoRecord b i r = (stored_count b ≤ i) × (number_of (Err r) ≡ COUNT) × (reading_of b ≡ Ok (value_of (Err r)))

pub record QuestionsRefuse : Type 0 where
  -- "two questions, which read first"
  pub agent : (b : List ℕ) (r : Refusal) → ((agent_answer b).answer ≡ Err r) ↔ Refuses b (number_of (Err r)) (value_of (Err r))
  pub index : (b : List ℕ) (i : ℕ) (r : Refusal)
      → ((record_answer b i).answer ≡ Err r) ↔ (Refuses b (number_of (Err r)) (value_of (Err r)) ⊎ NoRecord b i r)
  -- nothing beside a refusal
  pub agent_alone : (b : List ℕ) (r : Refusal) → (agent_answer b).answer ≡ Err r → agent_answer b ≡ agent_refused (Err r)
  pub index_alone : (b : List ℕ) (i : ℕ) (r : Refusal) → (record_answer b i).answer ≡ Err r → record_answer b i ≡ record_refused (Err r)

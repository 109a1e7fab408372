-- Demand 3 of the order over Handover payloads. R-2: "Demand 3 holds here too, over a list that carries every record byte, each offset and the
-- string there, with the payload's size as used length." The list is `Payload`, the rules are `Meets`, its bytes open a buffer by `Opens` (all
-- of crate handover_format). What the calls answer is `reading_of` (the contract of `handover_reading::read`), `agent_answer`, `record_answer`, and
-- the slices that `AgentHandedBack`, `NameHandedBack` and `MetaHandedBack` speak of (those of `handover_questions`). Proved in
-- proofs/PayloadDemand3.antt: `payload_demand_3`. A buffer is any list of numbers; that they are bytes (`Bytes`) is asked where it is needed.
-- A reader has to believe this file.
use Rattle.std.specs.Prelude.{ℕ, ◌≤◌, ◌<◌, ◌≡◌, ◌↔◌, List, [], length, get_or, Ok}
use Rattle.std.specs.Borrow.{Bor}
use Rattle.byte_layout.specs.Stored.{Bytes, bytes_at}
use Rattle.lent_buffers.specs.declared.Part.{Part}
use Rattle.lent_buffers.specs.LentParts.{PartOf, LiesAt}
use Rattle.refusals.specs.Refusals.{COUNT}
use Rattle.refusals.specs.Answers.{refused, number_of}
use Rattle.handover_format.specs.Payloads.{Payload, count, entry_in}
use Rattle.handover_format.specs.PayloadLayouts.{Silent}
use Rattle.handover_reading.specs.PayloadReading.{reading_of}
use Rattle.handover_questions.specs.Questions.{agent_answered, record_answered, record_refused, agent_answer, record_answer, AgentHandedBack, NameHandedBack, MetaHandedBack}
use Rattle.handover_acceptance.specs.PayloadAcceptance.{HoldsPayload}

-- of the payload p that b holds, d is "a second buffer of at least the used length, equal to the first up to there apart from bytes silent in
-- the first"
abbrev pub DiffersInSilence : Payload → List ℕ → List ℕ → Type 0
DiffersInSilence p b d = (p.size ≤ length d) × ((i : ℕ) → i < p.size → (Silent p i → ⊥) → get_or d i 0 ≡ get_or b i 0)

-- the bytes of b at a part
abbrev pub part_in : List ℕ → Part → List ℕ
part_in b q = bytes_at b q.start q.length

-- the slice `lent` is the part q of s and no copy, and has the bytes l
abbrev pub IsPart : Bor (List ℕ) → Bor (List ℕ) → Part → List ℕ → Type 0
IsPart lent s q l = PartOf lent s q × LiesAt lent s q.start × (lent.now ≡ l)

-- the reading is a list: "Reading answers the used length; two questions .. answer the agent and the record at an index, with offsets and strings
-- (3 with the used length from the count on)"
pub record ReadingIs (b : List ℕ) (p : Payload) : Type 0 where
  pub whole : reading_of b ≡ Ok p.size
  pub agent : agent_answer b ≡ agent_answered p
  pub each : (i : ℕ) → i < count p → record_answer b i ≡ record_answered p i
  pub past : (i : ℕ) → count p ≤ i → record_answer b i ≡ record_refused (refused COUNT p.size)
  -- the bytes at the parts that the answers name are the list's strings
  pub agent_name : part_in b (agent_answer b).name ≡ p.agent_name
  pub names : (i : ℕ) → i < count p → part_in b (record_answer b i).name ≡ (entry_in p i).name
  pub metas : (i : ℕ) → i < count p → part_in b (record_answer b i).meta ≡ (entry_in p i).meta
  -- and whatever slice is handed back of a buffer s that has these bytes is memory of s, at that part, with the list's string; from the count
  -- on it has no byte
  pub agent_slice : (lent s : Bor (List ℕ)) → s.now ≡ b → AgentHandedBack lent s → IsPart lent s (agent_answered p).name p.agent_name
  pub name_slices : (lent s : Bor (List ℕ)) (i : ℕ) → s.now ≡ b → i < count p → NameHandedBack lent s i → IsPart lent s (record_answered p i).name (entry_in p i).name
  pub meta_slices : (lent s : Bor (List ℕ)) (i : ℕ) → s.now ≡ b → i < count p → MetaHandedBack lent s i → IsPart lent s (record_answered p i).meta (entry_in p i).meta
  pub no_names : (lent s : Bor (List ℕ)) (i : ℕ) → s.now ≡ b → count p ≤ i → NameHandedBack lent s i → lent.now ≡ []
  pub no_metas : (lent s : Bor (List ℕ)) (i : ℕ) → s.now ≡ b → count p ≤ i → MetaHandedBack lent s i → lent.now ≡ []

-- two buffers are read alike: every answer, and the bytes at every part that an answer names
pub record SameReading (b d : List ℕ) : Type 0 where
  pub whole : reading_of d ≡ reading_of b
  pub agent : agent_answer d ≡ agent_answer b
  pub each : (i : ℕ) → record_answer d i ≡ record_answer b i
  pub agent_name : part_in d (agent_answer d).name ≡ part_in b (agent_answer b).name
  pub names : (i : ℕ) → part_in d (record_answer d i).name ≡ part_in b (record_answer b i).name
  pub metas : (i : ℕ) → part_in d (record_answer d i).meta ≡ part_in b (record_answer b i).meta

pub record PayloadDemand3 : Type 0 where
  -- "reading accepts exactly when some list meets the rules and its bytes open the buffer"
  pub accepts : (b : List ℕ) → Bytes b → (number_of (reading_of b) ≡ 0) ↔ ((p : Payload) × HoldsPayload b p)
  -- "Then there is no other such list and no other used length"
  pub one_list : (b : List ℕ) (p q : Payload) → HoldsPayload b p → HoldsPayload b q → p ≡ q
  pub one_length : (b : List ℕ) (p : Payload) (n : ℕ) → HoldsPayload b p → reading_of b ≡ Ok n → n ≡ p.size
  -- "and the reading is that list with that used length"
  pub reads : (b : List ℕ) (p : Payload) → HoldsPayload b p → ReadingIs b p
  -- "Bytes that document 01 calls silent never change it: a second buffer of at least the used length, equal to the first up to there apart
  -- from bytes silent in the first, is accepted with the same reading." Which bytes are silent is R-2's
  pub silent : (b d : List ℕ) (p : Payload) → HoldsPayload b p → DiffersInSilence p b d → HoldsPayload d p × SameReading b d
  -- no answer loses a byte: lists that are read alike are one list
  pub faithful : (b d : List ℕ) (p q : Payload) → HoldsPayload b p → HoldsPayload d q → SameReading b d → p ≡ q

-- "two questions, which read first, answer the agent and the record at an index, with offsets and strings (3 with the used length from the
-- count on)". The offsets are those of the list; a string is answered as its part of the buffer, without its closing zero.
-- A reader has to believe this file.
use Rattle.std.specs.Prelude.{ℕ, ◌+◌, List, length, ltb, Ok, Err}
use Rattle.std.specs.Borrow.{Bor}
use Rattle.lent_buffers.specs.LentParts.{part, no_part, PartOf}
use Rattle.refusals.specs.Refusals.{COUNT}
use Rattle.refusals.specs.Answers.{Answer, refused, and_then}
use Rattle.handover_format.specs.Payloads.{names_name, names_meta, Entry, Payload, count, no_record, entry_in, table}
use Rattle.handover_format.specs.PayloadDecoding.{pick, payload_of}
use Rattle.handover_reading.specs.PayloadReading.{reading_of}
use Rattle.lent_buffers.specs.declared.Part.{Part}
use Rattle.handover_questions.specs.declared.AgentAnswer.{AgentAnswer}
use Rattle.handover_questions.specs.declared.RecordAnswer.{RecordAnswer}

-- ---- of a payload
-- the part of the string l, at the offset o of a table that starts at t
abbrev pub string_part : ℕ → ℕ → List ℕ → Part
string_part t o l = part (t + o) (length l)

abbrev pub agent_answered : Payload → AgentAnswer
agent_answered p = record { answer = Ok p.size; offset = p.agent; name = string_part (table p) p.agent p.agent_name }

-- an entry of a payload of s bytes whose table starts at t: every word of its record, and the parts of the strings that it names
abbrev pub entry_answered : ℕ → ℕ → Entry → RecordAnswer
entry_answered s t e =
    record {
      answer = Ok s;
      words = e.words;
      name = pick (names_name e.words.tag) (string_part t e.words.name e.name) no_part;
      meta = pick (names_meta e.words.tag) (string_part t e.words.meta e.meta) no_part;
    }

abbrev pub record_answered : Payload → ℕ → RecordAnswer
record_answered p i = entry_answered p.size (table p) (entry_in p i)

-- a refusal, with nothing beside it: that the rest is 0 is a decision
abbrev pub agent_refused : Answer → AgentAnswer
agent_refused r = record { answer = r; offset = 0; name = no_part }

abbrev pub record_refused : Answer → RecordAnswer
record_refused r = record { answer = r; words = no_record; name = no_part; meta = no_part }

abbrev pub with_agent : Payload → Answer → AgentAnswer
with_agent p (Ok n) = agent_answered p
with_agent p (Err r) = agent_refused (Err r)

abbrev pub with_record : Payload → ℕ → Answer → RecordAnswer
with_record p i (Ok n) = record_answered p i
with_record p i (Err r) = record_refused (Err r)

-- "3 with the used length from the count on"
abbrev pub size_or_count : Payload → ℕ → Answer
size_or_count p i = pick (ltb i (count p)) (Ok p.size) (refused COUNT p.size)

-- ---- of a buffer: the calls' answers
unfoldable pub agent_answer : List ℕ → AgentAnswer
agent_answer b = with_agent (payload_of b) (reading_of b)

unfoldable pub index_answer : List ℕ → ℕ → Answer
index_answer b i = and_then (reading_of b) (size_or_count (payload_of b) i)

unfoldable pub record_answer : List ℕ → ℕ → RecordAnswer
record_answer b i = with_record (payload_of b) i (index_answer b i)

-- ---- the strings themselves: r is what is handed back of the lent buffer s, a part of it and no copy; an empty one where there is no string
-- or the payload is refused
-- the contract of `handover_questions::agent_name`
abbrev pub AgentHandedBack : Bor (List ℕ) → Bor (List ℕ) → Type 0
AgentHandedBack r s = PartOf r s (agent_answer s.now).name

-- that of `handover_questions::record_name`
abbrev pub NameHandedBack : Bor (List ℕ) → Bor (List ℕ) → ℕ → Type 0
NameHandedBack r s i = PartOf r s (record_answer s.now i).name

-- that of `handover_questions::record_meta`
abbrev pub MetaHandedBack : Bor (List ℕ) → Bor (List ℕ) → ℕ → Type 0
MetaHandedBack r s i = PartOf r s (record_answer s.now i).meta

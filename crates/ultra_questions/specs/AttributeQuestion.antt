-- "The attribute at an index: type, start, size and its members; bytes of a fixed text from its closing zero on are given as zero; a
-- map or command line as its part of the buffer's entries or text, up to its zero; 3 with the used length."
-- A reader has to believe this file.
use Rattle.std.specs.Prelude.{ℕ, List, ltb, Ok, Err}
use Rattle.std.specs.Borrow.{Bor}
use Rattle.refusals.specs.Refusals.{COUNT}
use Rattle.refusals.specs.Answers.{Answer, refused}
use Rattle.ultra_format.specs.Contexts.{type_of, Attribute, Context, count, attribute_at, start_in, used}
use Rattle.ultra_format.specs.Decoding.{pick, context_of}
use Rattle.ultra_format.specs.Records.{blank_records, records_of}
use Rattle.ultra_reading.specs.Reading.{used_length}
use Rattle.ultra_questions.specs.declared.attributes.AttributeAnswer.{AttributeAnswer}
use Rattle.ultra_locating.specs.Passing.{if_accepted}
use Rattle.lent_buffers.specs.LentParts.{no_part, PartOf}
use Rattle.ultra_questions.specs.Parts.{body_part}

-- the answer for an attribute that starts at `o`: its value is the start
abbrev pub answered : ℕ → Attribute → AttributeAnswer
answered o a =
    record {
      answer = Ok o;
      header = record { kind = type_of a.body; start = o; size = a.size };
      records = records_of a.body;
      part = body_part o a.body;
    }

-- a refusal, with nothing beside it
abbrev pub unanswered : Answer → AttributeAnswer
unanswered r = record { answer = r; header = record { kind = 0; start = 0; size = 0 }; records = blank_records; part = no_part }

-- ---- of a context
-- "3 with the used length" for "an index asked for at or past the count"
abbrev pub start_or_count : Context → ℕ → Answer
start_or_count c i = pick (ltb i (count c)) (Ok (start_in c.attributes i)) (refused COUNT (used c))

abbrev pub with_members : Attribute → Answer → AttributeAnswer
with_members a (Ok o) = answered o a
with_members a (Err r) = unanswered (Err r)

-- ---- of a buffer: the calls' answers
-- the start alone
unfoldable pub attribute_start : List ℕ → ℕ → Answer
attribute_start b i = if_accepted (λ r. r) (start_or_count (context_of b) i) (used_length 2 b)

unfoldable pub attribute_answer : List ℕ → ℕ → AttributeAnswer
attribute_answer b i = with_members (attribute_at (context_of b) i) (attribute_start b i)

-- `lent` is a slice that `attribute_part` hands back of the buffer s: its contract
abbrev pub PartHandedBack : Bor (List ℕ) → Bor (List ℕ) → ℕ → Type 0
PartHandedBack lent s i = PartOf lent s (attribute_answer s.now i).part

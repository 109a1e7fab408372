-- The parts that the questions answer lie within the buffer.
use Rattle.std.specs.Prelude.{Ok, Err}
use Prim.Native.Nat.{ℕ, ◌+◌, ◌≤◌}
use mathlib.Core.Path.{◌≡◌, refl, sym, subst}
use mathlib.Core.Bool.{Bool, true, false}
use mathlib.Core.List.{List, []}
use native.Mathlib.Omega.{arith}
use lib.ListN.{length}
use Rattle.handover_format.specs.Payloads.{names_name, names_meta, Entry}
use Rattle.handover_format.specs.PayloadDecoding.{pick, stored_agent, stored_size, stored_table, stored_record, stored_string, payload_of}
use Rattle.refusals.specs.Answers.{Answer}
use Rattle.handover_format.proofs.PayloadDecoded.{table_decoded, entry_decoded}
use Rattle.handover_format.specs.RecordTests.{if_named}
use Rattle.handover_reading.specs.PayloadReading.{closes, reading_of}
use Rattle.handover_reading.proofs.Accepted.{stored_length, Accepted, accepted}
use Rattle.lent_buffers.specs.declared.Part.{Part}
use Rattle.lent_buffers.specs.LentParts.{no_part}
use Rattle.handover_questions.specs.Questions.{string_part, entry_answered, with_agent, with_record, agent_answer, index_answer, record_answer}
use Rattle.handover_questions.proofs.QuestionLaws.{closes_inside, found, found_strings}

abbrev pub Within : List ℕ → Part → Type 0
Within b q = q.start + q.length ≤ length b

module _ (b : List ℕ) (n : ℕ) (a : Accepted b n) where
  string_within : (o : ℕ) → closes b (stored_table b) (stored_length b) o ≡ true → Within b (string_part (stored_table b) o (stored_string b o))
  string_within o h = omega (arith, closes_inside b (stored_table b) (stored_length b) o h, a.head)

  named_within : (t : Bool) (o : ℕ) → if_named t (closes b (stored_table b) (stored_length b) o) ≡ true → Within b (pick t (string_part (stored_table b) o (pick t (stored_string b o) [])) no_part)
  unfolding if_named
  named_within true o h = string_within o h
  named_within false o h = omega arith

module _ (b : List ℕ) where
  agent_fits : (u : Answer) → reading_of b ≡ u → Within b (with_agent (payload_of b) u).name
  unfolding payload_of
  agent_fits (Ok n) e = let a = accepted b n e in rw (table_decoded b) (string_within b n a (stored_agent b) a.agent)
  agent_fits (Err r) e = omega arith

  pub agent_within : Within b (agent_answer b).name
  unfolding agent_answer
  agent_within = agent_fits (reading_of b) refl

  record_fits : (i : ℕ) (u : Answer) → index_answer b i ≡ u → Within b (with_record (payload_of b) i u).name × Within b (with_record (payload_of b) i u).meta
  unfolding payload_of
  record_fits i (Ok n) e =
      let f = found b i n e in
      let g = found_strings b i n e in
      let r = stored_record b i in
      rw (table_decoded b) (subst (λ (x : Entry). Within b (entry_answered (stored_size b) (stored_table b) x).name × Within b (entry_answered (stored_size b) (stored_table b) x).meta) (sym (entry_decoded b i f.below))
      (named_within b n f.accepts (names_name r.tag) r.name g.0, named_within b n f.accepts (names_meta r.tag) r.meta g.1))
  record_fits i (Err r) e = (omega arith, omega arith)

  pub record_within : (i : ℕ) → Within b (record_answer b i).name × Within b (record_answer b i).meta
  unfolding record_answer
  record_within i = record_fits i (index_answer b i) refl

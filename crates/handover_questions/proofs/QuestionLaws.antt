-- Laws of the questions: each answer from the facts that lead to it, and what an accepted index says.
use Rattle.std.specs.Prelude.{Ok, Err}
use Prim.Native.Nat.{ℕ, ◌+◌, ◌-◌, ◌≤◌, ◌<◌}
use mathlib.Core.Path.{◌≡◌, refl, sym, ap, ap₂, ◌∙◌}
use mathlib.Core.Bool.{Bool, true, false}
use mathlib.Core.List.{List, []}
use native.Mathlib.Omega.{arith}
use lib.ListN.{length}
use lib.Dec.{ltb}
use borrow.Author.Tests.{ltb-true, lt-ltb, le-ltb}
use Rattle.refusals.specs.Refusals.{COUNT}
use Rattle.refusals.specs.Answers.{Answer, refused, and_then}
use Rattle.handover_format.specs.Payloads.{names_name, names_meta, count, record_start}
use Rattle.handover_format.specs.PayloadDecoding.{pick, string_at, stored_agent, stored_size, stored_count, stored_table, stored_string, stored_record, stored_entry, payload_of}
use Rattle.handover_format.specs.declared.records.Record.{Record}
use Rattle.refusals.specs.declared.Refusal.{Refusal}
use Rattle.handover_format.proofs.PayloadDecoded.{count_decoded, entry_decoded, table_decoded}
use Rattle.handover_format.specs.RecordTests.{if_named}
use Rattle.handover_reading.specs.PayloadReading.{closes, reading_of}
use Rattle.handover_reading.proofs.RecordLaws.{name_suits, meta_suits, strings_hold}
use Rattle.handover_reading.proofs.Accepted.{Accepted, accepted, stored_length}
use Rattle.lent_buffers.specs.declared.Part.{Part}
use Rattle.handover_questions.specs.declared.AgentAnswer.{AgentAnswer}
use Rattle.handover_questions.specs.declared.RecordAnswer.{RecordAnswer}
use Rattle.lent_buffers.specs.LentParts.{no_part}
use Rattle.handover_questions.specs.Questions.{string_part, entry_answered, agent_refused, record_refused, with_record, size_or_count, agent_answer, index_answer, record_answer}

-- ---- strings
pub record Inside (b : List ℕ) (t n o : ℕ) : Type 0 where
  pub starts : o < n
  pub ends : o + length (string_at b t n o) < n

pub closes_inside : (b : List ℕ) (t n o : ℕ) → closes b t n o ≡ true → Inside b t n o
unfolding closes
closes_inside b t n o e = let h = ltb-true (length (string_at b t n o)) (n - o) e in record { starts = omega arith; ends = omega arith }

-- the part of a string that is there only where it is named
same_part : (t : Bool) (d o : ℕ) (l : List ℕ) → pick t (string_part d o l) no_part ≡ pick t (string_part d o (pick t l [])) no_part
same_part true d o l = refl
same_part false d o l = refl

module _ (b : List ℕ) where
  -- ---- the agent
  pub agent_passed : (r : Refusal) → reading_of b ≡ Err r → agent_refused (Err r) ≡ agent_answer b
  unfolding agent_answer
  agent_passed r e = rw e

  pub agent_found : (n o t : ℕ) (q : Part) → reading_of b ≡ Ok n → o ≡ stored_agent b → t ≡ stored_table b
      → q ≡ string_part t o (string_at b t (n - t) o) → ◌≡◌ {A = AgentAnswer} (record { answer = Ok n; offset = o; name = q }) (agent_answer b)
  unfolding agent_answer payload_of
  agent_found n o t q e f g h = rw (e, h, g, f, table_decoded b, (accepted b n e).used)

  -- ---- the record at an index
  module _ (i : ℕ) where
    pub index_passed : (r : Refusal) → reading_of b ≡ Err r → Err r ≡ index_answer b i
    unfolding index_answer
    index_passed r e = rw e

    pub index_past : (n : ℕ) → reading_of b ≡ Ok n → stored_count b ≤ i → refused COUNT n ≡ index_answer b i
    unfolding index_answer payload_of
    index_past n e h = rw (e, count_decoded b, le-ltb i (stored_count b) h, (accepted b n e).used)

    pub index_found : (n : ℕ) → reading_of b ≡ Ok n → i < stored_count b → Ok n ≡ index_answer b i
    unfolding index_answer payload_of
    index_found n e h = rw (e, count_decoded b, lt-ltb i (stored_count b) h, (accepted b n e).used)

    -- a used length is answered only where there is such a record
    pub record Found (n : ℕ) : Type 0 where
      pub accepts : Accepted b n
      pub below : i < stored_count b

    counted : (n m : ℕ) → reading_of b ≡ Ok m → (t : Bool) → ltb i (count (payload_of b)) ≡ t
        → pick t (Ok (payload_of b).size) (refused COUNT (payload_of b).size) ≡ Ok n → Found n
    unfolding payload_of
    counted n m e true q k =
        let a = accepted b m e in
        let z : stored_size b ≡ n = cc in
        let s : m ≡ n = a.used ∙ z in
        record { accepts = rw s at a; below = rw count_decoded at (ltb-true i (count (payload_of b)) q) }
    counted n m e false q k = absurd (let z : ◌≡◌ {A = ℕ} 0 1 = cc in omega arith)

    read_first : (n : ℕ) (u : Answer) → reading_of b ≡ u → and_then u (size_or_count (payload_of b) i) ≡ Ok n → Found n
    read_first n (Ok m) e k = counted n m e (ltb i (count (payload_of b))) refl k
    read_first n (Err r) e k = absurd (let z : ◌≡◌ {A = ℕ} 0 1 = cc in omega arith)

    pub found : (n : ℕ) → index_answer b i ≡ Ok n → Found n
    unfolding index_answer
    found n k = read_first n (reading_of b) refl k

    -- its strings close
    pub found_strings : (n : ℕ) → index_answer b i ≡ Ok n
        → (name_suits b (stored_table b) (stored_length b) (stored_record b i) ≡ true) × (meta_suits b (stored_table b) (stored_length b) (stored_record b i) ≡ true)
    found_strings n k = let f = found n k in strings_hold b (stored_table b) (stored_length b) (stored_record b i) (f.accepts.strings i f.below)

    pub record_passed : (r : Refusal) → index_answer b i ≡ Err r → record_refused (Err r) ≡ record_answer b i
    unfolding record_answer
    record_passed r e = rw e

    -- the answer, of what is loaded
    pub record_found : (n t : ℕ) (w : Record) (p q : Part) → index_answer b i ≡ Ok n → t ≡ stored_table b → w ≡ stored_record b i
        → p ≡ pick (names_name w.tag) (string_part t w.name (string_at b t (n - t) w.name)) no_part
        → q ≡ pick (names_meta w.tag) (string_part t w.meta (string_at b t (n - t) w.meta)) no_part
        → ◌≡◌ {A = RecordAnswer} (record { answer = Ok n; words = w; name = p; meta = q }) (record_answer b i)
    unfolding record_answer payload_of
    record_found n t w p q e g f h k =
        let u = found n e in
        let z = u.accepts.used in
        let r = stored_record b i in
        let l : p ≡ stored_answer.name =
        h ∙ (λ j. pick (names_name (f j).tag) (string_part (g j) (f j).name (string_at b (g j) (z j - g j) (f j).name)) no_part) ∙ same_part (names_name r.tag) (stored_table b) r.name (stored_string b r.name) in
        let m : q ≡ stored_answer.meta =
        k ∙ (λ j. pick (names_meta (f j).tag) (string_part (g j) (f j).meta (string_at b (g j) (z j - g j) (f j).meta)) no_part) ∙ same_part (names_meta r.tag) (stored_table b) r.meta (stored_string b r.meta) in
        (λ j. record { answer = Ok (z j); words = f j; name = l j; meta = m j })
        ∙ sym (ap₂ (entry_answered (stored_size b)) (table_decoded b) (entry_decoded b i u.below))
        ∙ ap (with_record (payload_of b) i) (sym e)
      where
        stored_answer : RecordAnswer
        stored_answer = entry_answered (stored_size b) (stored_table b) (stored_entry b i)

-- what closes in the table that the head says, by what is loaded of it
pub closes_at : (b : List ℕ) (k s o : ℕ) (p : ℕ) → k ≡ stored_count b → s ≡ stored_size b → o ≡ p → closes b (stored_table b) (stored_length b) p ≡ true
    → closes b (record_start k) (s - record_start k) o ≡ true
closes_at b k s o p e f g h = rw (e, f, g) h

-- the same of a string that counts only where it is named, by the record that is loaded
pub slot_at : (b : List ℕ) (k s : ℕ) (t : Bool) (names : ℕ → Bool) (o : Record → ℕ) (w r : Record) → k ≡ stored_count b → s ≡ stored_size b → w ≡ r → t ≡ names w.tag
    → if_named (names r.tag) (closes b (stored_table b) (stored_length b) (o r)) ≡ true → if_named t (closes b (record_start k) (s - record_start k) (o w)) ≡ true
slot_at b k s t names o w r e f g q h = rw (q, e, f, g) h

-- what a call answers, with what it was told that is named
pub named_at : (p x : Part) (t u : Bool) → p ≡ pick t x no_part → t ≡ u → p ≡ pick u x no_part
named_at p x t u e q = e ∙ ap (λ (s : Bool). pick s x no_part) q

-- The example, by computing, and what the statements say of it.
use Rattle.std.specs.Prelude.{Ok}
use Prim.Native.Nat.{ℕ, zero, suc, ◌+◌, ◌*◌, ◌≤◌, ◌<◌}
use mathlib.Core.Path.{◌≡◌, refl, sym, ap, ◌∙◌, subst}
use mathlib.Core.Logic.{◌⊎◌, inl, inr, ⊎_elim}
use mathlib.Core.List.{List, [], ◌∷◌, ◌++◌}
use native.Mathlib.Omega.{arith}
use lib.ListN.{length, get_or, replicate, take, length-replicate}
use Rattle.words.specs.Words.{number_at}
use Rattle.byte_layout.specs.Fields.{cells, filled}
use Rattle.byte_layout.specs.Stored.{Bytes, bytes_at, text_at, over}
use Rattle.lent_buffers.specs.Room.{room_of}
use Rattle.refusals.specs.Refusals.{COUNT, END}
use Rattle.refusals.specs.Answers.{refusal, refused}
use Rattle.handover_format.specs.Payloads.{handover_end, Payload, no_entry, entry_in}
use Rattle.handover_format.specs.declared.records.Record.{Record}
use Rattle.handover_format.specs.PayloadLayouts.{record_fields, entries_fields, Silent}
use Rattle.handover_format.specs.RecordTests.{if_named}
use Rattle.handover_format.specs.WrittenForm.{closed_if, strings, words_at, placed_from}
use Rattle.handover_arguments.specs.PayloadGiven.{count_given, record_given, agent_given, entries_from, entries_given}
use Rattle.handover_arguments.specs.Judging.{every, run_has, string_good, strings_good, write_check}
use Rattle.handover_writing.specs.Writing.{payload_written}
use Rattle.handover_demand_3.specs.PayloadDemand3.{ReadingIs}
use Rattle.handover_written.specs.WritingRefusals.{WritingBreaks, WritingBreaks.none, WritingBreaks.many, WritingBreaks.misplaced, WritingBreaks.missing, WritingBreaks.range, WritingBreaks.agent, WritingBreaks.name, WritingBreaks.meta, WritingBreaks.past}
use Rattle.handover_written.specs.WritesBack.{payload_given, WrittenBack}
use Rattle.handover_written.specs.Placing.{AsGiven}
use Rattle.handover_written.specs.WritesAgain.{records_from, records_read, parts_from, parts_read}
use Rattle.handover_written.specs.Witness.{line, last, ended, abc, parts, out, records_written, parts_written, left, written, Witnessed}
use Rattle.handover_demand_3.proofs.Witness.{all_bytes_law, are_bytes}
use Rattle.handover_written.proofs.Placing.{each_as_given}
use Rattle.handover_written.proofs.InTurn.{no_padding}
use Rattle.handover_written.proofs.WritingRefusals.{writing_refuses}
use Rattle.handover_written.proofs.WritesBack.{writes_back}
use Rattle.handover_written.proofs.WritesAgain.{writes_again}

-- ---- all are bytes
ended_bytes : Bytes ended
unfolding all_bytes_law
ended_bytes = are_bytes ended refl

abc_bytes : Bytes abc
unfolding all_bytes_law
abc_bytes = are_bytes abc refl

-- ---- it is written
whole_written : payload_written (out 158) ended parts abc ≡ (Ok 155, left)
unfolding payload_written write_check every string_good run_has strings_good if_named entries_from number_at bytes_at text_at closed_if strings words_at placed_from entries_fields cells filled
whole_written = refl

exact_written : payload_written (out 155) ended parts abc ≡ (Ok 155, written)
unfolding payload_written write_check every string_good run_has strings_good if_named entries_from number_at bytes_at text_at closed_if strings words_at placed_from entries_fields cells filled
exact_written = refl

-- ---- it reads back
answer : (payload_written (out 158) ended parts abc).0 ≡ Ok 155
answer = ap (λ x. x.0) whole_written

left_is : (payload_written (out 158) ended parts abc).1 ≡ left
left_is = ap (λ x. x.1) whole_written

back : ReadingIs left (payload_given ended parts abc)
back =
    subst (λ (d : List ℕ). ReadingIs d (payload_given ended parts abc)) left_is
    (writes_back (out 158) ended parts abc 155 ended_bytes abc_bytes answer).reads

unfoldable example : Payload
example =
    record {
      agent = 0;
      agent_name = 97 ∷ 98 ∷ [];
      entries =
          record { words = record { tag = 0; flags = 7; start = 4096; size = 8192; name = 5; meta = 6 }; name = []; meta = [] }
          ∷ record { words = record { tag = 3418582331; flags = 0; start = 1048576; size = 5; name = 3; meta = 6 }; name = 98 ∷ 99 ∷ []; meta = [] }
          ∷ record { words = record { tag = 1129398468; flags = 0; start = 0; size = 0; name = 9; meta = 7 }; name = []; meta = 97 ∷ 98 ∷ 99 ∷ [] }
          ∷ record { words = record { tag = 4294967295; flags = 0; start = 18446744073709551615; size = 1; name = 0; meta = 0 }; name = []; meta = [] }
          ∷ [];
      size = 155;
    }

example_is : payload_given ended parts abc ≡ example
unfolding entries_from number_at bytes_at closed_if strings words_at placed_from example
example_is = refl

reading : ReadingIs left example
reading = subst (ReadingIs left) example_is back

-- ---- and is written again
unfoldable row : Record → List ℕ
row r = filled (cells (record_fields r))

records_are : records_read left ≡ records_written
unfolding number_at records_from cells filled example row
records_are =
    let x = reading.each 0 (omega arith) in
    let y = reading.each 1 (omega arith) in
    let z = reading.each 2 (omega arith) in
    let w = reading.each 3 (omega arith) in
    λ j. row (x j).words ++ row (y j).words ++ row (z j).words ++ row (w j).words ++ []

parts_are : parts_read left ≡ parts_written
unfolding number_at parts_from example
parts_are =
    let a = reading.agent in
    let x = reading.each 0 (omega arith) in
    let y = reading.each 1 (omega arith) in
    let z = reading.each 2 (omega arith) in
    let w = reading.each 3 (omega arith) in
    λ j. (a j).name.start ∷ (a j).name.length
    ∷ (x j).name.start ∷ (x j).name.length ∷ (x j).meta.start ∷ (x j).meta.length
    ∷ (y j).name.start ∷ (y j).name.length ∷ (y j).meta.start ∷ (y j).meta.length
    ∷ (z j).name.start ∷ (z j).name.length ∷ (z j).meta.start ∷ (z j).meta.length
    ∷ (w j).name.start ∷ (w j).name.length ∷ (w j).meta.start ∷ (w j).meta.length
    ∷ []

left_again : (e : List ℕ) → 155 ≤ room_of e → payload_written e (records_read left) (parts_read left) left ≡ (Ok 155, over (take 155 left) e)
left_again e h =
    subst (λ (d : List ℕ). payload_written e (records_read d) (parts_read d) d ≡ (Ok 155, over (take 155 d) e)) left_is
    (writes_again (out 158) ended parts abc 155 ended_bytes abc_bytes answer e h)

written_again : payload_written (out 156) records_written parts_written left ≡ (Ok 155, written ++ (165 ∷ []))
written_again = (λ j. payload_written (out 156) (sym records_are j) (sym parts_are j) left) ∙ left_again (out 156) (omega arith)

again_exact_law : payload_written (out 155) records_written parts_written left ≡ (Ok 155, written)
again_exact_law = (λ j. payload_written (out 155) (sym records_are j) (sym parts_are j) left) ∙ left_again (out 155) (omega arith)

-- ---- the widest bytes
unfoldable wide_records : List ℕ
wide_records = line (0 ∷ 0 ∷ 0 ∷ 0 ∷ []) ++ last 255 1

abbrev wide_parts : List ℕ
wide_parts = 0 ∷ 0 ∷ 9 ∷ 9 ∷ 0 ∷ 2 ∷ []

abbrev wide_run : List ℕ
wide_run = 1 ∷ 255 ∷ []

wide_bytes : Bytes wide_records
unfolding all_bytes_law wide_records
wide_bytes = are_bytes wide_records refl

wide_run_law : Bytes wide_run
unfolding all_bytes_law
wide_run_law = are_bytes wide_run refl

wide_answer : (payload_written (out 84) wide_records wide_parts wide_run).0 ≡ Ok 84
unfolding payload_written write_check every string_good run_has strings_good if_named entries_from number_at bytes_at text_at closed_if strings words_at placed_from entries_fields cells filled wide_records
wide_answer = refl

wide_read : ReadingIs (payload_written (out 84) wide_records wide_parts wide_run).1 (payload_given wide_records wide_parts wide_run)
wide_read = (writes_back (out 84) wide_records wide_parts wide_run 84 wide_bytes wide_run_law wide_answer).reads

-- ---- every byte and every record
back_whole : WrittenBack (out 158) (payload_written (out 158) ended parts abc).1 (payload_given ended parts abc) 155
back_whole = writes_back (out 158) ended parts abc 155 ended_bytes abc_bytes answer

loud_byte : (i : ℕ) → i < 155 → Silent (payload_given ended parts abc) i → ⊥
loud_byte i h = no_padding (agent_given parts abc) (entries_given ended parts abc) _ back_whole.holds.0 i (omega (arith, back_whole.answered))

four_given : length (entries_given ended parts abc) ≡ 4
unfolding entries_from
four_given = refl

as_given : (i : ℕ) → i < 4 → AsGiven (get_or (entries_given ended parts abc) i no_entry) (entry_in (payload_given ended parts abc) i)
as_given i h = (each_as_given (agent_given parts abc) (entries_given ended parts abc)).1 i (omega (arith, four_given))

-- ---- refusals
too_many : (rs : List ℕ) → 1024 < count_given rs → (payload_written [] rs [] []).0 ≡ refused COUNT 0
too_many rs h = (writing_refuses [] rs [] [] (refusal COUNT 0)).1 (inl (many h, refl), refl)

-- 3 is given for the count alone
count_broken : {rs ps run : List ℕ} {room : ℕ} (n : ℕ) → WritingBreaks rs ps run room n → n ≡ 3 → (count_given rs < 1) ⊎ (1024 < count_given rs)
count_broken n (none h) e = inl h
count_broken n (many h) e = inr h
count_broken n (misplaced i l t k) e = absurd (omega arith)
count_broken n (missing i l t k) e = absurd (omega arith)
count_broken n (range i l h) e = absurd (omega arith)
count_broken n (agent h) e = absurd (omega arith)
count_broken n (name i l t h) e = absurd (omega arith)
count_broken n (meta i l t h) e = absurd (omega arith)
count_broken n (past h) e = absurd (omega arith)

no_end : (rs : List ℕ) → count_given rs ≡ 1024 → ((record_given rs 1023).tag ≡ handover_end → ⊥) → (payload_written [] rs [] []).0 ≡ refused END 0
no_end rs c t =
    (writing_refuses [] rs [] [] (refusal END 0)).1
    (inr (λ h. ⊎_elim (λ a. omega arith) (λ a. omega arith) (count_broken COUNT h refl), inl (missing 1023 (omega arith) t (omega arith), refl)), refl)

zeros : (n i : ℕ) → ◌≡◌ {A = ℕ} (get_or (replicate n 0) i 0) 0
zeros zero i = refl
zeros (suc n) zero = refl
zeros (suc n) (suc i) = zeros n i

no_tag : (n o k : ℕ) → number_at (replicate n 0) o k ≡ 0
unfolding number_at
no_tag n o zero = refl
no_tag n o (suc k) = rw (zeros n o, no_tag n (o + 1) k) refl

no_last : (n : ℕ) → (record_given (replicate n 0) 1023).tag ≡ handover_end → ⊥
no_last n e = omega (arith, e, no_tag n (32 * 1023) 4)

most_records : count_given (replicate (32 * 1024) 0) ≡ 1024
most_records = omega (arith, length-replicate {A = ℕ} (32 * 1024) 0)

many_records : 1024 < count_given (replicate (32 * 1025) 0)
many_records = omega (arith, length-replicate {A = ℕ} (32 * 1025) 0)

pub witnessed : Witnessed
unfolding payload_written write_check every string_good run_has strings_good if_named entries_from number_at bytes_at text_at closed_if strings words_at placed_from entries_fields cells filled example wide_records
witnessed =
    record {
      bytes = ended_bytes;
      run_bytes = abc_bytes;
      whole = whole_written;
      exact = exact_written;
      least = refl;
      reads = reading.whole;
      agent = reading.agent;
      file_read = reading.each 1 (omega arith);
      line_read = reading.each 2 (omega arith);
      past = reading.past 4 (omega arith);
      again = written_again;
      again_exact = again_exact_law;
      widest = wide_read.metas 0 (omega arith);
      loud = loud_byte;
      first_as_given = as_given 0 (omega arith);
      last_as_given = as_given 3 (omega arith);
      none = refl;
      many = too_many (replicate (32 * 1025) 0) many_records;
      most = no_end (replicate (32 * 1024) 0) most_records (no_last (32 * 1024));
      missing = refl;
      misplaced = refl;
      over_all = refl;
      range = refl;
      unlent = refl;
      passes = refl;
      empty = refl;
      zero_byte = refl;
      short = refl;
    }

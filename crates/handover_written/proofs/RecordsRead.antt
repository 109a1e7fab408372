-- The records that a reading gives are the bytes that the buffer has.
use Prim.Native.Nat.{ℕ, suc, ◌+◌, ◌*◌, ◌<◌}
use mathlib.Core.Path.{◌≡◌, refl, sym, ap, ap₂, ◌∙◌, subst}
use mathlib.Core.List.{List, [], ◌∷◌, ◌++◌}
use native.Mathlib.Omega.{arith}
use native.Mathlib.Nat.{add-zero}
use lib.ListN.{length, get_or}
use lib.Seq.{ext_get_or}
use Rattle.byte_layout.specs.Fields.{Cell, Cell.byte, Cell.silent, Field, Field.number, cells, width, filled}
use Rattle.byte_layout.specs.Stored.{bytes_at}
use Rattle.byte_layout.specs.Placed.{LiesAt}
use Rattle.byte_layout.proofs.Cells.{length_filled, filled_opens}
use Rattle.byte_layout.proofs.Copies.{length_stored, bytes_at_law}
use Rattle.byte_layout.proofs.FieldLaws.{length_cells, cells_append}
use Rattle.byte_layout.proofs.Written.{filled_append}
use Rattle.byte_layout.proofs.Runs.{StandsAt, stands_back}
use Rattle.handover_format.specs.declared.records.Record.{Record}
use Rattle.handover_format.specs.Payloads.{Entry, Payload, count, no_entry}
use Rattle.handover_format.specs.PayloadLayouts.{magic, record_fields, entries_fields, front_fields, RowOf.front}
use Rattle.handover_format.specs.PayloadDecoding.{stored_count}
use Rattle.handover_format.proofs.PayloadRows.{opens_says, entries_width}
use Rattle.handover_format.proofs.Silence.{Loud, loud_front}
use Rattle.handover_questions.specs.declared.RecordAnswer.{RecordAnswer}
use Rattle.handover_questions.specs.Questions.{record_answer}
use Rattle.handover_acceptance.specs.PayloadAcceptance.{HoldsPayload}
use Rattle.handover_demand_3.specs.PayloadDemand3.{ReadingIs}
use Rattle.handover_written.specs.WritesAgain.{records_from, records_read}

-- where no cell is silent, what lies there is what a writer writes
lies_filled : (b : List ℕ) (o : ℕ) (cs : List Cell) → Loud cs → LiesAt b o cs → StandsAt b o (filled cs)
lies_filled b o cs l h i k = go (get_or cs i silent) refl (omega (arith, length_filled cs))
  where
    go : (c : Cell) → get_or cs i silent ≡ c → i < length cs → get_or b (o + i) 0 ≡ get_or (filled cs) i 0
    go (byte n) e m = h i n m e ∙ sym ((filled_opens cs).1 i n m e)
    go silent e m = absurd (l i m e)

-- bytes that stand in a buffer are those that are taken out
taken_out : (b : List ℕ) (o n : ℕ) (x : List ℕ) → length x ≡ n → StandsAt b o x → x ≡ bytes_at b o n
taken_out b o n x e h =
    ext_get_or 0 x (bytes_at b o n) (e ∙ sym (length_stored b o n)) (λ i l. sym (h i l) ∙ sym (bytes_at_law b o n i (omega arith)))

-- entry by entry
rows_read : (d : List ℕ) (i : ℕ) (es : List Entry) → ((j : ℕ) → j < length es → (record_answer d (i + j)).words ≡ (get_or es j no_entry).words)
    → records_from d i (length es) ≡ filled (cells (entries_fields es))
unfolding records_from entries_fields cells filled
rows_read d i [] h = refl
rows_read d i (e ∷ es) h =
    let w : (record_answer d i).words ≡ e.words = rw add-zero at (h 0 (omega arith)) in
    let r = rows_read d (suc i) es (λ j l. let q : suc i + j ≡ i + suc j = omega arith in rw q (h (suc j) (omega arith))) in
    ap₂ (λ (x : Record) (y : List ℕ). filled (cells (record_fields x)) ++ y) w r
    ∙ sym (filled_append (cells (record_fields e.words)) (cells (entries_fields es))) ∙ ap filled (sym (cells_append (record_fields e.words) (entries_fields es)))

module _ (d : List ℕ) (p : Payload) (h : HoldsPayload d p) (r : ReadingIs d p) where
  abbrev es : List Entry
  es = p.entries

  abbrev head_fields : List Field
  head_fields = number 4 magic ∷ number 4 p.agent ∷ number 4 p.size ∷ number 4 (count p) ∷ []

  head_wide : width head_fields ≡ 16
  unfolding width
  head_wide = refl

  stands : StandsAt d 16 (filled (cells (entries_fields es)))
  stands =
      let f = lies_filled d 0 (cells (front_fields p)) (loud_front p) (h.1.lies 0 (front_fields p) front) in
      let e : filled (cells (front_fields p)) ≡ filled (cells head_fields) ++ filled (cells (entries_fields es)) =
      ap filled (cells_append head_fields (entries_fields es)) ∙ filled_append (cells head_fields) (cells (entries_fields es)) in
      stands_back d 0 16 (filled (cells head_fields)) (filled (cells (entries_fields es))) (omega (arith, length_filled (cells head_fields), length_cells head_fields, head_wide)) (subst (StandsAt d 0) e f)

  words_read : (j : ℕ) → j < length es → (record_answer d (0 + j)).words ≡ (get_or es j no_entry).words
  words_read j l = let q : 0 + j ≡ j = omega arith in rw q (ap (λ (a : RecordAnswer). a.words) (r.each j l))

  pub records_stored : records_read d ≡ bytes_at d 16 (32 * stored_count d)
  records_stored =
      let c : stored_count d ≡ length es = (opens_says d p h.0 h.1).count in
      let n : length (filled (cells (entries_fields es))) ≡ 32 * stored_count d =
      omega (arith, length_filled (cells (entries_fields es)), length_cells (entries_fields es), entries_width es, c) in
      ap (records_from d 0) c ∙ rows_read d 0 es words_read ∙ taken_out d 16 (32 * stored_count d) (filled (cells (entries_fields es))) n stands

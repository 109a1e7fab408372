-- What it means that reading answers a used length: every test passes.
use Rattle.std.specs.Prelude.{Ok}
use Prim.Native.Nat.{ℕ, ◌-◌, ◌<◌}
use mathlib.Core.Path.{◌≡◌, sym, ap, ◌∙◌}
use mathlib.Core.Bool.{true}
use mathlib.Core.List.{List}
use native.Mathlib.Nat.{zero-add}
use Rattle.refusals.specs.Refusals.{STRING, unless}
use Rattle.handover_format.specs.PayloadDecoding.{stored_agent, stored_size, stored_count, stored_table}
use Rattle.refusals.proofs.Chains.{passed, not_refused, both_done}
use Rattle.handover_reading.specs.PayloadReading.{head_check, record_check, closes, named_check, each_of, body_answer, reading_of}
use Rattle.handover_reading.proofs.HeadLaws.{HeadHolds, head_holds, head_passes}
use Rattle.handover_reading.proofs.EachLaws.{each_clear, each_done}
use Rattle.handover_reading.proofs.AnswerLaws.{body_strings, head_goes_on}

abbrev pub stored_length : List ℕ → ℕ
stored_length b = stored_size b - stored_table b

pub record Accepted (b : List ℕ) (n : ℕ) : Type 0 where
  pub head : HeadHolds b
  pub words : (i : ℕ) → i < stored_count b → record_check b (stored_count b) i ≡ 0
  pub agent : closes b (stored_table b) (stored_length b) (stored_agent b) ≡ true
  pub strings : (i : ℕ) → i < stored_count b → named_check b (stored_table b) (stored_length b) i ≡ 0
  pub used : n ≡ stored_size b

module _ (b : List ℕ) (n : ℕ) where
  pub accepted : reading_of b ≡ Ok n → Accepted b n
  unfolding reading_of body_answer
  accepted e =
      let p = not_refused (head_check b) 0 _ n e in
      let q = both_done (each_of (record_check b (stored_count b)) (stored_size b) 0 (stored_count b)) _ n p.1 in
      let r = not_refused (unless (closes b (stored_table b) (stored_length b) (stored_agent b)) STRING 0) 0 _ n q.1 in
      let w = each_clear (record_check b (stored_count b)) (stored_size b) 0 (stored_count b) q.0.0 q.0.1 in
      let s = each_clear (named_check b (stored_table b) (stored_length b)) (stored_size b) 0 (stored_count b) n r.1 in
      record {
        head = head_holds b p.0;
        words = λ i h. rw zero-add at (w.0 i h);
        agent = (passed (closes b (stored_table b) (stored_length b) (stored_agent b)) _ _ r.0).0;
        strings = λ i h. rw zero-add at (s.0 i h);
        used = s.1;
      }

  pub accepting : Accepted b n → reading_of b ≡ Ok n
  accepting a =
      let h = a.head in
      sym (head_goes_on b (sym (head_passes b h.room h.first h.some h.most h.least h.within)))
      ∙ sym (body_strings b (stored_count b) (stored_size b) _ (each_done (record_check b (stored_count b)) (stored_size b) 0 (stored_count b) (λ i l. rw zero-add (a.words i l))) a.agent)
      ∙ each_done (named_check b (stored_table b) (stored_length b)) (stored_size b) 0 (stored_count b) (λ i l. rw zero-add (a.strings i l))
      ∙ ap Ok (sym a.used)

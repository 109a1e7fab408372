-- Reading gives each number exactly under its condition, with its offset.
use Rattle.std.specs.Prelude.{Ok}
use Prim.Native.Nat.{ℕ, ◌<◌}
use mathlib.Core.Path.{◌≡◌, refl, sym, ap, ◌∙◌}
use mathlib.Core.Logic.{⊎_elim}
use mathlib.Core.Bool.{Bool, true, false}
use mathlib.Core.List.{List}
use native.Mathlib.Omega.{arith}
use native.Mathlib.Nat.{zero-add}
use Rattle.refusals.specs.Refusals.{STRING}
use Rattle.refusals.specs.Order.{First, NoneBreaks}
use Rattle.refusals.specs.Answers.{refused, number_of, value_of}
use Rattle.handover_format.specs.Payloads.{record_start}
use Rattle.handover_format.specs.PayloadDecoding.{stored_agent, stored_size, stored_count, stored_table}
use Rattle.handover_reading.specs.PayloadReading.{head_check, record_check, closes, named_check, each_of, reading_of}
use Rattle.handover_reading.proofs.EachLaws.{each_done}
use Rattle.handover_reading.proofs.AnswerLaws.{body_refused, body_agent, body_strings, head_refuses, head_goes_on}
use Rattle.handover_reading.proofs.Accepted.{stored_length}
use Rattle.handover_acceptance.specs.PayloadRefusals.{HeadBreaks, RecordBreaks, StringBreaks, head_order, record_order, ClearTo, Refuses, Refuses.head, Refuses.row, Refuses.agent, Refuses.string, RefusesExactly}
use Rattle.refusals.proofs.Order.{AllFine, Chain, said_first, said_none}
use Rattle.handover_acceptance.proofs.FirstBreak.{FirstBreak, each_at, each_settled}
use Rattle.handover_acceptance.proofs.Conditions.{head_chain, head_none, record_chain, record_none, closes_said, closes_by, fails_closes, closes_fails, strings_settled}

fine_of : (ms : List ℕ) (breaks : ℕ → Type 0) (v : ℕ) → Chain ms breaks v → v ≡ 0 → AllFine ms breaks
fine_of ms breaks v c z = ⊎_elim (λ a. a.1) (λ a. absurd (a.0 z)) c

first_of : (ms : List ℕ) (breaks : ℕ → Type 0) (v : ℕ) → Chain ms breaks v → (v ≡ 0 → ⊥) → First ms breaks v
first_of ms breaks v c n = ⊎_elim (λ a. absurd (n a.0)) (λ a. a.1) c

not_zero : (x : ℕ) → x ≡ STRING → x ≡ 0 → ⊥
not_zero x e z = omega arith

module _ (b : List ℕ) where
  abbrev words : ℕ → ℕ
  words = record_check b (stored_count b)

  abbrev named : ℕ → ℕ
  named = named_check b (stored_table b) (stored_length b)

  -- ---- from the condition to the answer
  head_clear : NoneBreaks (HeadBreaks b) → head_check b ≡ 0
  head_clear h = said_none (HeadBreaks b) head_order (head_check b) (head_chain b) h

  row_clear : (i : ℕ) → NoneBreaks (RecordBreaks b i) → words i ≡ 0
  row_clear i h = said_none (RecordBreaks b i) record_order (words i) (record_chain b i) h

  rows_done : ClearTo b (stored_count b) → each_of words (stored_size b) 0 (stored_count b) ≡ Ok (stored_size b)
  rows_done c = each_done words (stored_size b) 0 (stored_count b) (λ j h. rw zero-add (row_clear j (c.1 j h)))

  string_clear : (i : ℕ) → (StringBreaks b i → ⊥) → named i ≡ 0
  string_clear i h = ⊎_elim (λ a. a.0) (λ a. absurd (h a.1)) (strings_settled b i)

  string_given_law : (i : ℕ) → StringBreaks b i → named i ≡ STRING
  string_given_law i h = ⊎_elim (λ a. absurd (a.1 h)) (λ a. a.0) (strings_settled b i)

  gives : (n o : ℕ) → Refuses b n o → reading_of b ≡ refused n o
  gives n o (head m f) =
      let s = said_first (HeadBreaks b) head_order (head_check b) m (head_chain b) f in
      sym (head_refuses b (λ z. s.1 (sym s.0 ∙ z))) ∙ ap (λ (k : ℕ). refused k 0) s.0
  gives n o (row m i l c f) =
      let s = said_first (RecordBreaks b i) record_order (words i) m (record_chain b i) f in
      let e = each_at words (stored_size b) (stored_count b) i l (λ j h. row_clear j (c.1 j h)) (λ z. s.1 (sym s.0 ∙ z)) in
      sym (head_goes_on b (head_clear c.0)) ∙ sym (body_refused b (stored_count b) (stored_size b) _ e) ∙ ap (λ (k : ℕ). refused k (record_start i)) s.0
  gives n o (agent c h) = sym (head_goes_on b (head_clear c.0)) ∙ sym (body_agent b (stored_count b) (stored_size b) _ (rows_done c) (fails_closes b (stored_agent b) h))
  gives n o (string i l c a p h) =
      let q = string_given_law i h in
      sym (head_goes_on b (head_clear c.0)) ∙ sym (body_strings b (stored_count b) (stored_size b) _ (rows_done c) (closes_by b (stored_agent b) a))
      ∙ each_at named (stored_size b) (stored_count b) i l (λ j m. string_clear j (p j m)) (not_zero (named i) q) ∙ ap (λ (k : ℕ). refused k (record_start i)) q

  -- ---- from the answer to the condition
  module _ (n o : ℕ) (e : reading_of b ≡ refused n o) where
    met : (m p : ℕ) → Refuses b m p → Refuses b n o
    met m p r =
        let q = sym (gives m p r) ∙ e in
        let x : m ≡ n = ap number_of q in
        let y : p ≡ o = ap value_of q in
        rw (x, y) at r

    not_done : reading_of b ≡ Ok (stored_size b) → ⊥
    not_done q = let z : Ok (stored_size b) ≡ refused n o = sym q ∙ e in let w : ◌≡◌ {A = ℕ} 0 1 = cc in omega arith

    module _ (c : ClearTo b (stored_count b)) where
      no_string : closes b (stored_table b) (stored_length b) (stored_agent b) ≡ true → ((j : ℕ) → j < stored_count b → named j ≡ 0) → Refuses b n o
      no_string a h =
          absurd (not_done (sym (head_goes_on b (head_clear c.0)) ∙ sym (body_strings b (stored_count b) (stored_size b) _ (rows_done c) a)
          ∙ each_done named (stored_size b) 0 (stored_count b) (λ j l. rw zero-add (h j l))))

      broken : (i : ℕ) → (named i ≡ 0 → ⊥) → StringBreaks b i
      broken i h = ⊎_elim (λ a. absurd (h a.0)) (λ a. a.1) (strings_settled b i)

      whole : (i : ℕ) → named i ≡ 0 → StringBreaks b i → ⊥
      whole i z = ⊎_elim (λ a. a.1) (λ a. absurd (not_zero (named i) a.0 z)) (strings_settled b i)

      a_string : closes b (stored_table b) (stored_length b) (stored_agent b) ≡ true → FirstBreak named (stored_size b) (stored_count b) → Refuses b n o
      a_string a f = met STRING (record_start f.i) (string f.i f.below c (closes_said b (stored_agent b) a) (λ j h. whole j (f.before j h)) (broken f.i f.here))

      by_agent : (t : Bool) → closes b (stored_table b) (stored_length b) (stored_agent b) ≡ t → Refuses b n o
      by_agent true a = ⊎_elim (no_string a) (a_string a) (each_settled named (stored_size b) (stored_count b))
      by_agent false a = met STRING 0 (agent c (closes_fails b (stored_agent b) a))

    row_none : (i : ℕ) → words i ≡ 0 → NoneBreaks (RecordBreaks b i)
    row_none i z = record_none b i (fine_of record_order (RecordBreaks b i) (words i) (record_chain b i) z)

    module _ (h : NoneBreaks (HeadBreaks b)) where
      no_row : ((j : ℕ) → j < stored_count b → words j ≡ 0) → Refuses b n o
      no_row f = by_agent (h, λ j l. row_none j (f j l)) (closes b (stored_table b) (stored_length b) (stored_agent b)) refl

      a_row : FirstBreak words (stored_size b) (stored_count b) → Refuses b n o
      a_row f =
          met (words f.i) (record_start f.i)
          (row (words f.i) f.i f.below (h, λ j l. row_none j (f.before j l)) (first_of record_order (RecordBreaks b f.i) (words f.i) (record_chain b f.i) f.here))

    is_met : Refuses b n o
    is_met =
        ⊎_elim (λ a. let h = head_none b a.1 in ⊎_elim (no_row h) (a_row h) (each_settled words (stored_size b) (stored_count b)))
        (λ a. met (head_check b) 0 (head (head_check b) a.1)) (head_chain b)

pub refuses_exactly : RefusesExactly
refuses_exactly b r = (is_met b r.number r.offset, gives b r.number r.offset)

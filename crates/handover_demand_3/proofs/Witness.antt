-- The payload whose strings share bytes is held by its bytes, and the calls answer what was written out by hand.
use Rattle.std.specs.Prelude.{Ok}
use Prim.Native.Nat.{ℕ, zero, suc, ◌+◌, ◌-◌, ◌≤◌, ◌<◌}
use mathlib.Core.Path.{◌≡◌, refl, sym, ap, ◌∙◌, subst}
use mathlib.Core.Logic.{◌↔◌, ◌⊎◌, inl, inr, ⊎_elim}
use mathlib.Core.Bool.{Bool, true, false, ◌&&◌}
use mathlib.Core.List.{List, [], ◌∷◌}
use native.Mathlib.Omega.{arith}
use lib.ListN.{length, get_or, get_or-append}
use lib.Seq.{get_or-append-add}
use lib.Dec.{ltb}
use borrow.Author.Tests.{ltb-true, ltb-false}
use Rattle.words.specs.Words.{number_at}
use Rattle.byte_layout.specs.Stored.{Bytes, bytes_at, text_at}
use Rattle.lent_buffers.specs.Room.{room_of}
use Rattle.lent_buffers.specs.LentParts.{PartOf}
use Rattle.refusals.proofs.Chains.{both_hold}
use Rattle.handover_format.specs.Payloads.{names_name, names_meta, entry_in, words_in, Named, Named.agent, Named.name, Named.meta}
use Rattle.handover_format.specs.PayloadLayouts.{Silent}
use Rattle.handover_format.specs.PayloadDecoding.{entries_from, payload_of}
use Rattle.handover_format.specs.Silence.{Outside}
use Rattle.handover_format.specs.RecordTests.{if_named}
use Rattle.handover_format.proofs.Silence.{silent_plainly}
use Rattle.handover_reading.specs.PayloadReading.{head_check, words_check, closes, strings_check, each_of, body_answer, reading_of}
use Rattle.handover_questions.specs.declared.AgentAnswer.{AgentAnswer}
use Rattle.handover_questions.specs.declared.RecordAnswer.{RecordAnswer}
use Rattle.handover_questions.specs.Questions.{AgentHandedBack, NameHandedBack, MetaHandedBack}
use Rattle.handover_acceptance.specs.PayloadAcceptance.{HoldsPayload}
use Rattle.handover_acceptance.proofs.PayloadAcceptance.{sound}
use Rattle.handover_demand_3.specs.PayloadDemand3.{DiffersInSilence, ReadingIs}
use Rattle.handover_demand_3.specs.Witness.{front, shared_bytes, other_bytes, shared, lent_at, Witnessed}
use Rattle.handover_demand_3.proofs.PayloadDemand3.{payload_demand_3}

-- ---- all are bytes
unfoldable pub all_bytes_law : List ℕ → Bool
all_bytes_law [] = true
all_bytes_law (x ∷ l) = ltb x 256 && all_bytes_law l

pub are_bytes : (l : List ℕ) → all_bytes_law l ≡ true → Bytes l
unfolding all_bytes_law
are_bytes [] e i = omega arith
are_bytes (x ∷ l) e zero = ltb-true x 256 (both_hold (ltb x 256) (all_bytes_law l) e).0
are_bytes (x ∷ l) e (suc i) = are_bytes l (both_hold (ltb x 256) (all_bytes_law l) e).1 i

bytes : Bytes shared_bytes
unfolding all_bytes_law
bytes = are_bytes shared_bytes refl

-- ---- it is held
read : reading_of shared_bytes ≡ Ok 185
unfolding reading_of head_check body_answer each_of words_check strings_check closes if_named number_at text_at
read = refl

decoded : payload_of shared_bytes ≡ shared
unfolding payload_of entries_from number_at text_at
decoded = refl

holds : HoldsPayload shared_bytes shared
holds = subst (HoldsPayload shared_bytes) decoded (sound shared_bytes 185 bytes read)

is : ReadingIs shared_bytes shared
is = payload_demand_3.reads shared_bytes shared holds

-- ---- indices below five
five : (P : ℕ → Type 0) → P 0 → P 1 → P 2 → P 3 → P 4 → (i : ℕ) → i < 5 → P i
five P a b c d e zero h = a
five P a b c d e (suc zero) h = b
five P a b c d e (suc (suc zero)) h = c
five P a b c d e (suc (suc (suc zero))) h = d
five P a b c d e (suc (suc (suc (suc zero)))) h = e
five P a b c d e (suc (suc (suc (suc (suc i))))) h = absurd (omega arith)

no : {X : Type 0} → false ≡ true → X
no e = absurd (let z : ◌≡◌ {A = ℕ} 0 1 = cc in omega arith)

-- ---- silence
-- every string closes at 3, or lies in the two bytes from 5 on
abbrev Placed : ℕ → List ℕ → Type 0
Placed o l = (o + length l ≡ 3) ⊎ ((5 ≤ o) × (o + length l ≡ 6))

strings_placed : (o : ℕ) (l : List ℕ) → Named shared o l → Placed o l
strings_placed o l agent = inl refl
strings_placed o l (name i k t) =
    five (λ (i : ℕ). names_name (words_in shared i).tag ≡ true → Placed (words_in shared i).name (entry_in shared i).name)
    (λ e. inl refl) (λ e. no e) (λ e. no e) (λ e. inr (omega arith, refl)) (λ e. no e) i k t
strings_placed o l (meta i k t) =
    five (λ (i : ℕ). names_meta (words_in shared i).tag ≡ true → Placed (words_in shared i).meta (entry_in shared i).meta)
    (λ e. inl refl) (λ e. inl refl) (λ e. no e) (λ e. inr (omega arith, refl)) (λ e. no e) i k t

module _ (i : ℕ) where
  plainly : Silent shared i ↔ Outside shared i
  plainly = (silent_plainly (room_of shared_bytes) shared holds.0 i).0

  slack : Silent shared i → (i ≡ 180) ⊎ (183 ≤ i)
  slack s =
      let o = plainly.0 s in
      ⊎_elim (λ a. absurd (omega (arith, o.0, a)))
      (λ a. ⊎_elim (λ c. inl (omega (arith, a, c))) (λ c. inr c) (o.1 5 (100 ∷ []) (name 3 (omega arith) refl)))
      (o.1 0 (97 ∷ 98 ∷ 99 ∷ []) (meta 1 (omega arith) refl))

  in_slack : (i ≡ 180) ⊎ (183 ≤ i) → Silent shared i
  in_slack h =
      plainly.1 (
        ⊎_elim (λ a. omega arith) (λ a. omega arith) h,
        λ o l n. ⊎_elim (λ a. inr (⊎_elim (λ c. omega arith) (λ c. omega arith) h))
            (λ a. ⊎_elim (λ c. inl (omega (arith, a.0, c))) (λ c. inr (omega (arith, a.1, c))) h) (strings_placed o l n),
      )

-- ---- byte by byte from 180 on
abbrev tail : List ℕ
tail = 165 ∷ 100 ∷ 0 ∷ 165 ∷ 165 ∷ 165 ∷ 165 ∷ []

abbrev other_tail : List ℕ
other_tail = 0 ∷ 100 ∷ 0 ∷ 0 ∷ 98 ∷ []

noisy : (i : ℕ) → i < 187 → Silent shared i → get_or shared_bytes i 0 ≡ 165
noisy i h s =
    ⊎_elim (λ a. rw a) (λ a. let q : i ≡ length front + (3 + (i - 183)) = omega arith in rw q (get_or-append-add front tail (3 + (i - 183)) 0 ∙ four (i - 183) (omega arith)))
    (slack i s)
  where
    four : (k : ℕ) → k < 4 → get_or tail (3 + k) 0 ≡ 165
    four zero h = refl
    four (suc zero) h = refl
    four (suc (suc zero)) h = refl
    four (suc (suc (suc zero))) h = refl
    four (suc (suc (suc (suc k)))) h = absurd (omega arith)

-- the two buffers, from 180 on
module _ (P : ℕ → ℕ → ℕ → Type 0) (a : P 180 165 0) (b : P 181 100 100) (c : P 182 0 0) (d : P 183 165 0) (e : P 184 165 98) where
  each_tail : (k : ℕ) → k < 5 → P (180 + k) (get_or tail k 0) (get_or other_tail k 0)
  each_tail = five (λ (k : ℕ). P (180 + k) (get_or tail k 0) (get_or other_tail k 0)) a b c d e

  tails : (i k : ℕ) → i ≡ length front + k → k < 5 → P i (get_or shared_bytes i 0) (get_or other_bytes i 0)
  tails i k q l = rw (q, get_or-append-add front tail k 0, get_or-append-add front other_tail k 0) (each_tail k l)

  from_there : (i : ℕ) → 180 ≤ i → i < 185 → P i (get_or shared_bytes i 0) (get_or other_bytes i 0)
  from_there i h l = tails i (i - 180) (omega arith) (omega arith)

-- before 180 they are the same
same_front : (i : ℕ) → i < 180 → get_or other_bytes i 0 ≡ get_or shared_bytes i 0
same_front i h = get_or-append front other_tail 0 i h ∙ sym (get_or-append front tail 0 i h)

loud_same : (i : ℕ) → i < 185 → (Silent shared i → ⊥) → get_or other_bytes i 0 ≡ get_or shared_bytes i 0
loud_same i h n = go (ltb i 180) refl
  where
    go : (t : Bool) → ltb i 180 ≡ t → get_or other_bytes i 0 ≡ get_or shared_bytes i 0
    go true e = same_front i (ltb-true i 180 e)
    go false e =
        from_there (λ (j x y : ℕ). (Silent shared j → ⊥) → y ≡ x)
        (λ m. absurd (m (in_slack 180 (inl refl)))) (λ m. refl) (λ m. refl) (λ m. absurd (m (in_slack 183 (inr (omega arith))))) (λ m. absurd (m (in_slack 184 (inr (omega arith)))))
        i (ltb-false i 180 e) h n

different : (i : ℕ) → i < 185 → Silent shared i → get_or other_bytes i 0 ≡ get_or shared_bytes i 0 → ⊥
different i h s =
    from_there (λ (j x y : ℕ). Silent shared j → y ≡ x → ⊥)
    (λ z e. omega arith) (λ z e. not_slack 181 (slack 181 z) (omega arith) (omega arith)) (λ z e. not_slack 182 (slack 182 z) (omega arith) (omega arith)) (λ z e. omega arith) (λ z e. omega arith)
    i (⊎_elim (λ a. omega arith) (λ a. omega arith) (slack i s)) h s
  where
    not_slack : (j : ℕ) → (j ≡ 180) ⊎ (183 ≤ j) → 181 ≤ j → j ≤ 182 → ⊥
    not_slack j a l m = ⊎_elim (λ c. omega arith) (λ c. omega arith) a

differs : DiffersInSilence shared shared_bytes other_bytes
differs = (omega arith, loud_same)

holds_other_law : HoldsPayload other_bytes shared
holds_other_law = (payload_demand_3.silent shared_bytes other_bytes shared holds differs).0

differs_back_law : DiffersInSilence shared other_bytes shared_bytes
differs_back_law = (omega arith, λ i h n. sym (loud_same i h n))

-- ---- slices
agent_slice_law : AgentHandedBack (lent_at 4273 (98 ∷ 99 ∷ [])) (lent_at 4096 shared_bytes)
unfolding bytes_at
agent_slice_law =
    subst (PartOf (lent_at 4273 (98 ∷ 99 ∷ [])) (lent_at 4096 shared_bytes)) (sym (ap (λ (a : AgentAnswer). a.name) is.agent))
    (record { block = refl; offset = refl; within = omega arith; has = refl })

name_slice_law : NameHandedBack (lent_at 4274 (99 ∷ [])) (lent_at 4096 shared_bytes) 0
unfolding bytes_at
name_slice_law =
    subst (PartOf (lent_at 4274 (99 ∷ [])) (lent_at 4096 shared_bytes)) (sym (ap (λ (a : RecordAnswer). a.name) (is.each 0 (omega arith))))
    (record { block = refl; offset = refl; within = omega arith; has = refl })

meta_slice_law : MetaHandedBack (lent_at 4272 (97 ∷ 98 ∷ 99 ∷ [])) (lent_at 4096 shared_bytes) 1
unfolding bytes_at
meta_slice_law =
    subst (PartOf (lent_at 4272 (97 ∷ 98 ∷ 99 ∷ [])) (lent_at 4096 shared_bytes)) (sym (ap (λ (a : RecordAnswer). a.meta) (is.each 1 (omega arith))))
    (record { block = refl; offset = refl; within = omega arith; has = refl })

no_slice_law : NameHandedBack (lent_at 4096 []) (lent_at 4096 shared_bytes) 5
unfolding bytes_at
no_slice_law =
    subst (PartOf (lent_at 4096 []) (lent_at 4096 shared_bytes)) (sym (ap (λ (a : RecordAnswer). a.name) (is.past 5 (omega arith))))
    (record { block = refl; offset = refl; within = omega arith; has = refl })

pub witnessed : Witnessed
witnessed =
    record {
      bytes = bytes;
      holds = holds;
      whole = read;
      agent = is.agent;
      each = five _ (is.each 0 (omega arith)) (is.each 1 (omega arith)) (is.each 2 (omega arith)) (is.each 3 (omega arith)) (is.each 4 (omega arith));
      past = is.past;
      nothing_beside = λ r. (refl, refl);
      agent_slice = agent_slice_law;
      name_slice = name_slice_law;
      meta_slice = meta_slice_law;
      no_slice = no_slice_law;
      any_agent = λ lent s e o. let x = is.agent_slice lent s e o in (x.1.0, x.1.1, x.2);
      any_name = λ lent s e o. let x = is.name_slices lent s 0 e (omega arith) o in (x.1.0, x.1.1, x.2);
      any_meta = λ lent s e o. let x = is.meta_slices lent s 1 e (omega arith) o in (x.1.0, x.1.1, x.2);
      any_past = λ lent s i e k o. is.no_metas lent s i e k o;
      silent = λ i. (slack i, in_slack i);
      noisy = noisy;
      differs = differs;
      different = different;
      same = (payload_demand_3.silent shared_bytes other_bytes shared holds differs).1;
      holds_other = holds_other_law;
      differs_back = differs_back_law;
      same_back = (payload_demand_3.silent other_bytes shared_bytes shared holds_other_law differs_back_law).1;
    }

-- A reading, lent to be written: the records and strings that are given so are those of the payload that was read.
use Prim.Native.Nat.{ℕ, zero, suc, ◌+◌, ◌*◌, ◌≤◌, ◌<◌}
use mathlib.Core.Path.{◌≡◌, refl, sym, ap, ap₂, ◌∙◌}
use mathlib.Core.Bool.{Bool, true, false}
use mathlib.Core.List.{List, [], ◌∷◌}
use native.Mathlib.Omega.{arith}
use native.Mathlib.Nat.{not-suc-le-zero, add-zero, zero-add}
use lib.ListN.{length, get_or}
use lib.Seq.{ext_get_or}
use Rattle.words.specs.Words.{number_at}
use Rattle.byte_layout.specs.Stored.{bytes_at}
use Rattle.byte_layout.proofs.Copies.{length_stored, bytes_at_law}
use Rattle.lent_buffers.specs.Room.{room_of}
use Rattle.lent_buffers.specs.LentParts.{no_part}
use Rattle.lent_buffers.specs.declared.Part.{Part}
use Rattle.refusals.specs.Order.{NoneBreaks}
use Rattle.handover_format.specs.declared.records.Record.{Record}
use Rattle.handover_format.specs.Payloads.{names_name, names_meta, Payload, count, no_entry, entry_in, words_in, table, Named, Named.agent, Named.name, Named.meta}
use Rattle.handover_format.specs.PayloadRules.{Meets}
use Rattle.handover_format.specs.PayloadDecoding.{pick, stored_count, stored_record}
use Rattle.handover_format.specs.WrittenForm.{payload_size}
use Rattle.handover_format.proofs.PayloadRows.{Says, opens_says}
use Rattle.handover_questions.specs.Questions.{string_part, agent_answer, record_answer}
use Rattle.handover_acceptance.specs.PayloadAcceptance.{HoldsPayload}
use Rattle.handover_demand_3.specs.PayloadDemand3.{ReadingIs}
use Rattle.handover_arguments.specs.PayloadGiven.{count_given, record_given, agent_part, name_part, meta_part, start_given, length_given, string_given, agent_given, entry_given, entries_given}
use Rattle.handover_arguments.proofs.GivenLaws.{length_entries}
use Rattle.handover_written.specs.WritingRefusals.{StringBreaks, StringBreaks.unlent, StringBreaks.passes, StringBreaks.zero_byte, WritingBreaks, WritingBreaks.none, WritingBreaks.many, WritingBreaks.misplaced, WritingBreaks.missing, WritingBreaks.range, WritingBreaks.agent, WritingBreaks.name, WritingBreaks.meta, WritingBreaks.past}
use Rattle.handover_written.specs.WritesAgain.{records_read, parts_from, parts_read}
use Rattle.handover_written.proofs.RecordsRead.{records_stored}
use Rattle.handover_written.proofs.SoundGiven.{entry_at}

-- ---- a number in bytes that were taken out
number_taken : (d : List ℕ) (o n q v k : ℕ) → v ≡ o + q → q + k ≤ n → number_at (bytes_at d o n) q k ≡ number_at d v k
unfolding number_at
number_taken d o n q v zero e h = refl
number_taken d o n q v (suc k) e h =
    ap₂ (λ (x y : ℕ). x + 256 * y) (bytes_at_law d o n q (omega arith) ∙ ap (λ (j : ℕ). get_or d j 0) (sym e)) (number_taken d o n (q + 1) (v + 1) k (omega arith) (omega arith))

-- ---- the numbers of the parts
module _ (d : List ℕ) where
  abbrev four : ℕ → List ℕ
  four i = let a = record_answer d i in a.name.start ∷ a.name.length ∷ a.meta.start ∷ a.meta.length ∷ []

  length_parts : (i n : ℕ) → length (parts_from d i n) ≡ 4 * n
  unfolding parts_from
  length_parts i zero = refl
  length_parts i (suc n) = omega (arith, length_parts (suc i) n)

  first_four : (i n c : ℕ) → c < 4 → get_or (parts_from d i (suc n)) c 0 ≡ get_or (four i) c 0
  unfolding parts_from
  first_four i n zero h = refl
  first_four i n (suc zero) h = refl
  first_four i n (suc (suc zero)) h = refl
  first_four i n (suc (suc (suc zero))) h = refl
  first_four i n (suc (suc (suc (suc c)))) h = absurd (omega arith)

  next_four : (i n c : ℕ) → get_or (parts_from d i (suc n)) (suc (suc (suc (suc c)))) 0 ≡ get_or (parts_from d (suc i) n) c 0
  unfolding parts_from
  next_four i n c = refl

  part_number : (i n j c : ℕ) → j < n → c < 4 → get_or (parts_from d i n) (4 * j + c) 0 ≡ get_or (four (i + j)) c 0
  part_number i zero j c h l = absurd (not-suc-le-zero h)
  part_number i (suc n) zero c h l = let q : 4 * 0 + c ≡ c = omega arith in rw q (first_four i n c l ∙ ap (λ (k : ℕ). get_or (four k) c 0) (sym (add-zero i)))
  part_number i (suc n) (suc j) c h l =
      let q : 4 * suc j + c ≡ suc (suc (suc (suc (4 * j + c)))) = omega arith in
      let r : i + suc j ≡ suc i + j = omega arith in
      rw q (next_four i n (4 * j + c) ∙ part_number (suc i) n j c (omega arith) l ∙ ap (λ (k : ℕ). get_or (four k) c 0) (sym r))

  -- after the agent's two
  number_read : (i k c : ℕ) → i < stored_count d → c < 4 → k ≡ 4 * i + c + 2 → get_or (parts_read d) k 0 ≡ get_or (four i) c 0
  number_read i k c h l e =
      let q : k ≡ suc (suc (4 * i + c)) = omega arith in
      rw q (part_number 0 (stored_count d) i c h l ∙ ap (λ (j : ℕ). get_or (four j) c 0) (zero-add i))

-- ---- a string where it is named
picked_only : (t : Bool) (l k : List ℕ) → (t ≡ true → l ≡ k) → (t ≡ false → k ≡ []) → pick t l [] ≡ k
picked_only true l k h g = h refl
picked_only false l k h g = sym (g refl)

named_part : (t : Bool) (q : Part) → t ≡ true → pick t q no_part ≡ q
named_part true q e = refl
named_part false q e = absurd (let z : ◌≡◌ {A = ℕ} 0 1 = cc in omega arith)

module _ (d : List ℕ) (p : Payload) (h : HoldsPayload d p) (r : ReadingIs d p) where
  abbrev rs : List ℕ
  rs = records_read d

  abbrev ps : List ℕ
  ps = parts_read d

  meets : Meets (room_of d) p
  meets = h.0

  says : Says d p
  says = opens_says d p h.0 h.1

  count_read : stored_count d ≡ count p
  count_read = says.count

  -- ---- the records
  stored : rs ≡ bytes_at d 16 (32 * stored_count d)
  stored = records_stored d p h r

  count_again : count_given rs ≡ count p
  count_again = omega (arith, ap (λ (l : List ℕ). length l) stored, length_stored d 16 (32 * stored_count d), count_read)

  taken : (i : ℕ) → i < count p → record_given (bytes_at d 16 (32 * stored_count d)) i ≡ stored_record d i
  taken i k =
      let n = 32 * stored_count d in
      let t : (q v w : ℕ) → v ≡ 16 + q → q + w ≤ n → number_at (bytes_at d 16 n) q w ≡ number_at d v w = λ q v w. number_taken d 16 n q v w in
      let c = count_read in
      λ j. record {
        tag = t (32 * i) (16 + 32 * i) 4 (omega arith) (omega arith) j;
        flags = t (32 * i + 4) (16 + 32 * i + 4) 4 (omega arith) (omega arith) j;
        start = t (32 * i + 8) (16 + 32 * i + 8) 8 (omega arith) (omega arith) j;
        size = t (32 * i + 16) (16 + 32 * i + 16) 8 (omega arith) (omega arith) j;
        name = t (32 * i + 24) (16 + 32 * i + 24) 4 (omega arith) (omega arith) j;
        meta = t (32 * i + 28) (16 + 32 * i + 28) 4 (omega arith) (omega arith) j;
      }

  record_again : (i : ℕ) → i < count p → record_given rs i ≡ words_in p i
  record_again i k = ap (λ (l : List ℕ). record_given l i) stored ∙ taken i k ∙ sym (says.words i k)

  -- ---- the parts
  number : (i k c : ℕ) → i < count p → c < 4 → k ≡ 4 * i + c + 2 → get_or ps k 0 ≡ get_or (four d i) c 0
  number i k c l m e = number_read d i k c (omega (arith, count_read)) m e

  name_start : (i : ℕ) → i < count p → start_given ps (name_part i) ≡ (record_answer d i).name.start
  name_start i k = number i (name_part i) 0 k (omega arith) (omega arith)

  name_length : (i : ℕ) → i < count p → length_given ps (name_part i) ≡ (record_answer d i).name.length
  name_length i k = number i (name_part i + 1) 1 k (omega arith) (omega arith)

  meta_start : (i : ℕ) → i < count p → start_given ps (meta_part i) ≡ (record_answer d i).meta.start
  meta_start i k = number i (meta_part i) 2 k (omega arith) (omega arith)

  meta_length : (i : ℕ) → i < count p → length_given ps (meta_part i) ≡ (record_answer d i).meta.length
  meta_length i k = number i (meta_part i + 1) 3 k (omega arith) (omega arith)

  name_again : (i : ℕ) → i < count p → string_given ps d (name_part i) ≡ (entry_in p i).name
  name_again i k = ap₂ (bytes_at d) (name_start i k) (name_length i k) ∙ r.names i k

  meta_again : (i : ℕ) → i < count p → string_given ps d (meta_part i) ≡ (entry_in p i).meta
  meta_again i k = ap₂ (bytes_at d) (meta_start i k) (meta_length i k) ∙ r.metas i k

  pub agent_again : agent_given ps d ≡ p.agent_name
  agent_again = r.agent_name

  -- ---- the entries
  entry_again : (i : ℕ) → i < count p → entry_given rs ps d i ≡ entry_in p i
  entry_again i k =
      let e = record_again i k in
      let n : pick (names_name (record_given rs i).tag) (string_given ps d (name_part i)) [] ≡ (entry_in p i).name =
      picked_only (names_name (record_given rs i).tag) _ _ (λ t. name_again i k) (λ t. meets.nameless i k (ap (λ (w : Record). names_name w.tag) (sym e) ∙ t)) in
      let m : pick (names_meta (record_given rs i).tag) (string_given ps d (meta_part i)) [] ≡ (entry_in p i).meta =
      picked_only (names_meta (record_given rs i).tag) _ _ (λ t. meta_again i k) (λ t. meets.metaless i k (ap (λ (w : Record). names_meta w.tag) (sym e) ∙ t)) in
      λ j. record { words = e j; name = n j; meta = m j }

  length_again : length (entries_given rs ps d) ≡ count p
  length_again = length_entries rs ps d 0 (count_given rs) ∙ count_again

  pub entries_again : entries_given rs ps d ≡ p.entries
  entries_again =
      ext_get_or no_entry (entries_given rs ps d) p.entries length_again
      (λ i l. entry_at rs ps d i (omega (arith, count_again, length_again)) ∙ entry_again i (omega (arith, length_again)))

  -- ---- no condition is met
  fine : (k o : ℕ) (l : List ℕ) → Named p o l → k + 2 ≤ length ps → start_given ps k ≡ table p + o → length_given ps k ≡ length l → string_given ps d k ≡ l → StringBreaks ps d k → ⊥
  fine k o l m a s n e (unlent q) = omega arith
  fine k o l m a s n e (passes q) = omega (arith, (meets.strings o l m).closes, h.1.within)
  fine k o l m a s n e (zero_byte j q z) =
      let x : get_or l j 0 ≡ 0 = ap (λ (y : List ℕ). get_or y j 0) (sym e) ∙ bytes_at_law d (start_given ps k) (length_given ps k) j q ∙ z in
      omega (arith, (meets.strings o l m).bytes j (omega arith))

  length_read : length ps ≡ 4 * count p + 2
  length_read = omega (arith, length_parts d 0 (stored_count d), count_read)

  agent_part_law : (agent_answer d).name ≡ string_part (table p) p.agent p.agent_name
  agent_part_law = ap (λ a. a.name) r.agent

  name_part_law : (i : ℕ) → i < count p → names_name (words_in p i).tag ≡ true → (record_answer d i).name ≡ string_part (table p) (words_in p i).name (entry_in p i).name
  name_part_law i k t = ap (λ a. a.name) (r.each i k) ∙ named_part _ _ t

  meta_part_law : (i : ℕ) → i < count p → names_meta (words_in p i).tag ≡ true → (record_answer d i).meta ≡ string_part (table p) (words_in p i).meta (entry_in p i).meta
  meta_part_law i k t = ap (λ a. a.meta) (r.each i k) ∙ named_part _ _ t

  abbrev start_of : Part → ℕ
  start_of q = q.start

  abbrev length_of : Part → ℕ
  length_of q = q.length

  agent_fine : StringBreaks ps d agent_part → ⊥
  agent_fine = fine agent_part p.agent p.agent_name agent (omega arith) (ap start_of agent_part_law) (ap length_of agent_part_law) agent_again

  name_fine : (i : ℕ) → i < count p → names_name (words_in p i).tag ≡ true → StringBreaks ps d (name_part i) → ⊥
  name_fine i k t =
      let q = name_part_law i k t in
      fine (name_part i) (words_in p i).name (entry_in p i).name (name i k t) (omega (arith, length_read)) (name_start i k ∙ ap start_of q) (name_length i k ∙ ap length_of q) (name_again i k)

  meta_fine : (i : ℕ) → i < count p → names_meta (words_in p i).tag ≡ true → StringBreaks ps d (meta_part i) → ⊥
  meta_fine i k t =
      let q = meta_part_law i k t in
      fine (meta_part i) (words_in p i).meta (entry_in p i).meta (meta i k t) (omega (arith, length_read)) (meta_start i k ∙ ap start_of q) (meta_length i k ∙ ap length_of q) (meta_again i k)

  tag_again : (i : ℕ) → i < count p → (record_given rs i).tag ≡ (words_in p i).tag
  tag_again i k = ap (λ (w : Record). w.tag) (record_again i k)

  size_again : payload_size (agent_given ps d) (entries_given rs ps d) ≡ payload_size p.agent_name p.entries
  size_again = ap₂ payload_size agent_again entries_again

  pub none_again : (room : ℕ) → payload_size p.agent_name p.entries ≤ room → NoneBreaks (WritingBreaks rs ps d room)
  none_again room f m (none q) = omega (arith, count_again, meets.some)
  none_again room f m (many q) = omega (arith, count_again, meets.most)
  none_again room f m (misplaced i l t q) =
      let k : i < count p = omega (arith, count_again) in
      q ((meets.last i k).0 (sym (tag_again i k) ∙ t) ∙ sym count_again)
  none_again room f m (missing i l t q) =
      let k : i < count p = omega (arith, count_again) in
      t (tag_again i k ∙ (meets.last i k).1 (q ∙ count_again))
  none_again room f m (range i l q) =
      let k : i < count p = omega (arith, count_again) in
      omega (arith, meets.ranges i k, ap (λ (w : Record). w.start) (record_again i k), ap (λ (w : Record). w.size) (record_again i k))
  none_again room f m (agent q) = agent_fine q
  none_again room f m (name i l t q) =
      let k : i < count p = omega (arith, count_again) in
      name_fine i k (ap names_name (sym (tag_again i k)) ∙ t) q
  none_again room f m (meta i l t q) =
      let k : i < count p = omega (arith, count_again) in
      meta_fine i k (ap names_meta (sym (tag_again i k)) ∙ t) q
  none_again room f m (past q) = omega (arith, size_again)

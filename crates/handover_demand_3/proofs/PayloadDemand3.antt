-- Demand 3 holds over Handover payloads. The one payload that a buffer can hold is the one that is decoded from it, and the calls answer by
-- that one.
use Rattle.std.specs.Prelude.{Ok, Err}
use Prim.Native.Nat.{ℕ, zero, suc, ◌+◌, ◌-◌, ◌≤◌, ◌<◌}
use mathlib.Core.Path.{◌≡◌, refl, sym, ap, ap₂, ◌∙◌, subst}
use mathlib.Core.Bool.{Bool, true, false}
use mathlib.Core.List.{List, []}
use native.Mathlib.Omega.{arith}
use lib.ListN.{length}
use denote.Ref.{Bor}
use lib.Seq.{ext_get_or}
use lib.Dec.{ltb, leb}
use borrow.Author.Tests.{ltb-true, ltb-false, lt-ltb, le-ltb, leb-true, leb-false}
use Rattle.byte_layout.specs.Fields.{width}
use Rattle.byte_layout.specs.Placed.{PlacedWithin}
use Rattle.byte_layout.proofs.PlacedLaws.{placed_over}
use Rattle.byte_layout.specs.Stored.{Bytes, bytes_at}
use Rattle.byte_layout.proofs.Copies.{text_bytes}
use Rattle.refusals.specs.Refusals.{COUNT, STRING, unless}
use Rattle.refusals.specs.Answers.{Answer, refused, number_of, value_of, or_refused, and_then}
use Rattle.handover_format.specs.Payloads.{names_name, names_meta, Entry, Payload, count, no_entry, entry_in, words_in, table, table_length, Named.agent, Named.name, Named.meta}
use Rattle.lent_buffers.specs.Room.{room_of}
use Rattle.handover_format.specs.PayloadLayouts.{string_fields, RowOf, RowOf.front, RowOf.string}
use Rattle.handover_format.specs.PayloadRules.{StringMeets, Meets}
use Rattle.handover_format.specs.PayloadDecoding.{pick, string_at, stored_agent, stored_size, stored_count, stored_table, payload_of}
use Rattle.refusals.specs.declared.Refusal.{Refusal}
use Rattle.handover_format.proofs.PayloadRows.{width_front, Says, opens_says}
use Rattle.handover_format.proofs.PayloadDecoded.{decoded_only}
use Rattle.handover_reading.specs.PayloadReading.{head_check, closes, named_check, each_of, body_answer, reading_of}
use Rattle.handover_questions.specs.declared.AgentAnswer.{AgentAnswer}
use Rattle.handover_questions.specs.declared.RecordAnswer.{RecordAnswer}
use Rattle.lent_buffers.specs.declared.Part.{Part}
use Rattle.lent_buffers.specs.LentParts.{no_part, PartOf}
use Rattle.handover_questions.specs.Questions.{string_part, agent_answered, entry_answered, record_answered, record_refused, with_agent, with_record, size_or_count, agent_answer, index_answer, record_answer}
use Rattle.handover_acceptance.specs.PayloadAcceptance.{HoldsPayload}
use Rattle.handover_acceptance.proofs.PayloadAcceptance.{sound, complete}
use Rattle.handover_demand_3.specs.PayloadDemand3.{DiffersInSilence, part_in, IsPart, ReadingIs, SameReading, PayloadDemand3}

-- ---- the one list
is_decoded : (b : List ℕ) (p : Payload) → HoldsPayload b p → p ≡ payload_of b
is_decoded b p h = decoded_only (room_of b) b p h.0 h.1

-- ---- the answers, by the payload that the buffer holds
module _ (b : List ℕ) (p : Payload) (h : HoldsPayload b p) where
  held_agent : agent_answer b ≡ agent_answered p
  unfolding agent_answer
  held_agent = ap₂ with_agent (sym (is_decoded b p h)) (complete b p h)

  held_record : (i : ℕ) → record_answer b i ≡ with_record p i (size_or_count p i)
  unfolding record_answer index_answer
  held_record i = (λ j. with_record (sym (is_decoded b p h) j) i (and_then (complete b p h j) (size_or_count (sym (is_decoded b p h) j) i)))

  below : (i : ℕ) → i < count p → record_answer b i ≡ record_answered p i
  below i k = rw (lt-ltb i (count p) k) at (held_record i)

  beyond : (i : ℕ) → count p ≤ i → record_answer b i ≡ record_refused (refused COUNT p.size)
  beyond i k = rw (le-ltb i (count p) k) at (held_record i)

  -- the bytes of a string's part are the string
  string_bytes : (o : ℕ) (l : List ℕ) → string_at b (table p) (table_length p) o ≡ l → part_in b (string_part (table p) o l) ≡ l
  string_bytes o l e = subst (λ (m : List ℕ). bytes_at b (table p + o) (length m) ≡ m) e (text_bytes b (table p + o) (table_length p - o))

  named_bytes : (t : Bool) (o : ℕ) (l : List ℕ) → (t ≡ true → string_at b (table p) (table_length p) o ≡ l) → (t ≡ false → l ≡ []) → part_in b (pick t (string_part (table p) o l) no_part) ≡ l
  unfolding bytes_at
  named_bytes true o l e f = string_bytes o l (e refl)
  named_bytes false o l e f = sym (f refl)

  says : Says b p
  says = opens_says b p h.0 h.1

  agent_name_law : part_in b (agent_answer b).name ≡ p.agent_name
  agent_name_law = ap (λ (a : AgentAnswer). part_in b a.name) held_agent ∙ string_bytes p.agent p.agent_name (says.strings _ _ agent)

  names : (i : ℕ) → i < count p → part_in b (record_answer b i).name ≡ (entry_in p i).name
  names i k =
      ap (λ (a : RecordAnswer). part_in b a.name) (below i k)
      ∙ named_bytes (names_name (words_in p i).tag) (words_in p i).name (entry_in p i).name (λ t. says.strings _ _ (name i k t)) (h.0.nameless i k)

  metas : (i : ℕ) → i < count p → part_in b (record_answer b i).meta ≡ (entry_in p i).meta
  metas i k =
      ap (λ (a : RecordAnswer). part_in b a.meta) (below i k)
      ∙ named_bytes (names_meta (words_in p i).tag) (words_in p i).meta (entry_in p i).meta (λ t. says.strings _ _ (meta i k t)) (h.0.metaless i k)

  -- a slice of a buffer with these bytes, by the part that is answered
  handed : (lent s : Bor (List ℕ)) (of : List ℕ → Part) (q : Part) (l : List ℕ) → s.now ≡ b → of b ≡ q → part_in b (of b) ≡ l → PartOf lent s (of s.now) → IsPart lent s q l
  handed lent s of q l e g k o =
      let x : PartOf lent s q = subst (PartOf lent s) (ap of e ∙ g) o in
      (x, (x.block, x.offset), x.has ∙ ap (λ (m : List ℕ). part_in m q) e ∙ ap (part_in b) (sym g) ∙ k)

  none_past : (of : RecordAnswer → Part) → of (record_refused (refused COUNT p.size)) ≡ no_part → (i : ℕ) → count p ≤ i → part_in b (of (record_answer b i)) ≡ []
  unfolding bytes_at
  none_past of z i k = ap (λ (a : RecordAnswer). part_in b (of a)) (beyond i k) ∙ ap (part_in b) z

  reads : ReadingIs b p
  reads =
      record {
        whole = complete b p h;
        agent = held_agent;
        each = below;
        past = beyond;
        agent_name = agent_name_law;
        names = names;
        metas = metas;
        agent_slice = λ lent s e o. handed lent s (λ m. (agent_answer m).name) _ _ e (ap (λ (a : AgentAnswer). a.name) held_agent) agent_name_law o;
        name_slices = λ lent s i e k o. handed lent s (λ m. (record_answer m i).name) _ _ e (ap (λ (a : RecordAnswer). a.name) (below i k)) (names i k) o;
        meta_slices = λ lent s i e k o. handed lent s (λ m. (record_answer m i).meta) _ _ e (ap (λ (a : RecordAnswer). a.meta) (below i k)) (metas i k) o;
        no_names = λ lent s i e k o. (handed lent s (λ m. (record_answer m i).name) _ _ e refl (none_past (λ a. a.name) refl i k) o).2;
        no_metas = λ lent s i e k o. (handed lent s (λ m. (record_answer m i).meta) _ _ e refl (none_past (λ a. a.meta) refl i k) o).2;
      }

-- ---- two buffers that hold one payload are read alike
module _ (b d : List ℕ) (p : Payload) (g : HoldsPayload b p) (h : HoldsPayload d p) where
  part_same : (of : RecordAnswer → Part) (l : ℕ → List ℕ) → ((i : ℕ) → i < count p → part_in b (of (record_answer b i)) ≡ l i) → ((i : ℕ) → i < count p → part_in d (of (record_answer d i)) ≡ l i)
      → of (record_refused (refused COUNT p.size)) ≡ no_part → (i : ℕ) (t : Bool) → ltb i (count p) ≡ t → part_in d (of (record_answer d i)) ≡ part_in b (of (record_answer b i))
  unfolding bytes_at
  part_same of l u v z i true e = let k = ltb-true i (count p) e in v i k ∙ sym (u i k)
  part_same of l u v z i false e =
      let k = ltb-false i (count p) e in
      ap (λ (a : RecordAnswer). part_in d (of a)) (beyond d p h i k) ∙ ap (part_in d) z ∙ sym (ap (λ (a : RecordAnswer). part_in b (of a)) (beyond b p g i k) ∙ ap (part_in b) z)

  same : SameReading b d
  same =
      let r = reads b p g in
      let s = reads d p h in
      record {
        whole = s.whole ∙ sym r.whole;
        agent = s.agent ∙ sym r.agent;
        agent_name = s.agent_name ∙ sym r.agent_name;
        each = λ i. held_record d p h i ∙ sym (held_record b p g i);
        names = λ i. part_same (λ a. a.name) (λ i. (entry_in p i).name) r.names s.names refl i (ltb i (count p)) refl;
        metas = λ i. part_same (λ a. a.meta) (λ i. (entry_in p i).meta) r.metas s.metas refl i (ltb i (count p)) refl;
      }

-- ---- silent bytes
-- every row ends by the size
string_ends : (p : Payload) (o : ℕ) (l : List ℕ) → table p ≤ p.size → StringMeets (table_length p) o l → table p + o + width (string_fields (table_length p) o l) ≤ p.size
unfolding width
string_ends p o l h m = omega (arith, m.closes)

rows_end : {room : ℕ} (p : Payload) → Meets room p → PlacedWithin p.size (RowOf p)
rows_end p m o fs front = omega (arith, width_front p, m.least)
rows_end p m o fs (string q l h) = string_ends p q l m.least (m.strings q l h)

rehoused : {room other : ℕ} {p : Payload} → Meets room p → p.size ≤ other → Meets other p
rehoused m h =
    record {
      fits = m.fits;
      some = m.some;
      most = m.most;
      least = m.least;
      within = h;
      last = m.last;
      ranges = m.ranges;
      strings = m.strings;
      nameless = m.nameless;
      metaless = m.metaless;
    }

still_held : (b d : List ℕ) (p : Payload) → HoldsPayload b p → DiffersInSilence p b d → HoldsPayload d p
still_held b d p h s = (
  rehoused h.0 (omega (arith, h.0.within, s.0)),
  placed_over b d p.size (RowOf p) h.1 (rows_end p h.0) s.0 s.1,
)

-- ---- a refusal's number is not 0
abbrev Numbered : Answer → Type 0
Numbered a = (r : Refusal) → a ≡ Err r → r.number ≡ 0 → ⊥

done_numbered : (v : ℕ) → Numbered (Ok v)
done_numbered v r e z = let w : ◌≡◌ {A = ℕ} 0 1 = cc in omega arith

or_numbered : (n o : ℕ) (rest : Answer) → Numbered rest → Numbered (or_refused n o rest)
or_numbered zero o rest h r e z = h r e z
or_numbered (suc n) o rest h r e z = let q : r.number ≡ suc n = number_of_law n o r e in omega arith
  where
    number_of_law : (n o : ℕ) (r : Refusal) → refused (suc n) o ≡ Err r → r.number ≡ suc n
    number_of_law n o r e = cc

then_numbered : (a rest : Answer) → Numbered a → Numbered rest → Numbered (and_then a rest)
then_numbered (Ok v) rest g h = h
then_numbered (Err r) rest g h = g

each_numbered : (f : ℕ → ℕ) (v i n : ℕ) → Numbered (each_of f v i n)
unfolding each_of
each_numbered f v i zero = done_numbered v
each_numbered f v i (suc n) = or_numbered (f i) _ _ (each_numbered f v (suc i) n)

reading_numbered : (b : List ℕ) → Numbered (reading_of b)
unfolding reading_of body_answer
reading_numbered b =
    or_numbered (head_check b) 0 _
    (then_numbered (each_of _ (stored_size b) 0 (stored_count b)) _ (each_numbered _ (stored_size b) 0 (stored_count b))
    (or_numbered (unless (closes b (stored_table b) (stored_size b - stored_table b) (stored_agent b)) STRING 0) 0 _ (each_numbered (named_check b (stored_table b) (stored_size b - stored_table b)) (stored_size b) 0 (stored_count b))))

number_held : (b : List ℕ) → Bytes b → (a : Answer) → reading_of b ≡ a → number_of a ≡ 0 → (p : Payload) × HoldsPayload b p
number_held b y (Ok n) e z = (payload_of b, sound b n y e)
number_held b y (Err r) e z = absurd (reading_numbered b r e z)

-- ---- the reading determines the list
no_refusal : (s t n : ℕ) (e : Entry) → entry_answered s t e ≡ record_refused (refused COUNT n) → ⊥
no_refusal s t n e q = let z : ◌≡◌ {A = ℕ} 0 COUNT = ap (λ (r : RecordAnswer). number_of r.answer) q in omega arith

-- where answers are the same, there is none past the other's count
no_more : (b d : List ℕ) (p q : Payload) → ReadingIs b p → ReadingIs d q → ((i : ℕ) → record_answer d i ≡ record_answer b i) → count q ≤ count p
no_more b d p q g h s = go (leb (count q) (count p)) refl
  where
    go : (t : Bool) → leb (count q) (count p) ≡ t → count q ≤ count p
    go true e = leb-true (count q) (count p) e
    go false e =
        absurd (no_refusal q.size (table q) p.size (entry_in q (count p))
        (sym (h.each (count p) (leb-false (count q) (count p) e)) ∙ s (count p) ∙ g.past (count p) (omega arith)))

module _ (b d : List ℕ) (p q : Payload) (g : ReadingIs b p) (h : ReadingIs d q) (s : SameReading b d) where
  same_count : count p ≡ count q
  same_count = omega (arith, no_more b d p q g h s.each, no_more d b q p h g (λ i. sym (s.each i)))

  same_entry : (i : ℕ) → i < count p → entry_in p i ≡ entry_in q i
  same_entry i k =
      let l : i < count q = omega (arith, same_count) in
      let w = ap (λ (a : RecordAnswer). a.words) (sym (g.each i k) ∙ sym (s.each i) ∙ h.each i l) in
      let n = sym (g.names i k) ∙ sym (s.names i) ∙ h.names i l in
      let m = sym (g.metas i k) ∙ sym (s.metas i) ∙ h.metas i l in
      λ j. record { words = w j; name = n j; meta = m j }

  determined : p ≡ q
  determined =
      let a = sym g.agent ∙ sym s.agent ∙ h.agent in
      let n = sym g.agent_name ∙ sym s.agent_name ∙ h.agent_name in
      let l = ext_get_or no_entry p.entries q.entries same_count same_entry in
      let z = ap value_of (sym g.whole ∙ sym s.whole ∙ h.whole) in
      λ j. record { agent = (a j).offset; agent_name = n j; entries = l j; size = z j }

pub payload_demand_3 : PayloadDemand3
payload_demand_3 =
    record {
      accepts = λ b y. (λ e. number_held b y (reading_of b) refl e, λ h. ap number_of (complete b h.0 h.1));
      one_list = λ b p q g h. is_decoded b p g ∙ sym (is_decoded b q h);
      one_length = λ b p n h e. ap value_of (sym e ∙ complete b p h);
      reads = reads;
      silent = λ b d p h s. let k = still_held b d p h s in (k, same b d p h k);
      faithful = λ b d p q g h s. determined b d p q (reads b p g) (reads d q h) s;
    }

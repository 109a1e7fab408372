-- Reading accepts exactly the payloads that are held, with their size.
use Rattle.std.specs.Prelude.{Ok, Err}
use Prim.Native.Nat.{ℕ, ◌+◌, ◌-◌, ◌≤◌, ◌<◌}
use mathlib.Core.Path.{◌≡◌, refl, sym, ap, ap₂, ◌∙◌, subst}
use mathlib.Core.Logic.{◌↔◌, ◌⊎◌, inl, inr}
use mathlib.Core.Bool.{true, false}
use mathlib.Core.List.{List, []}
use native.Mathlib.Omega.{arith}
use lib.Dec.{eqb}
use borrow.Author.Tests.{leb-true, le-leb}
use Rattle.byte_layout.specs.Stored.{Bytes}
use Rattle.handover_format.specs.Payloads.{handover_end, names_name, names_meta, Entry, Payload, count, entry_in, words_in, record_start, table, table_length, Named, Named.agent, Named.name, Named.meta}
use Rattle.lent_buffers.specs.Room.{room_of}
use Rattle.handover_format.specs.PayloadRules.{StringMeets, Meets}
use Rattle.handover_format.specs.PayloadDecoding.{stored_agent, stored_count, stored_table, stored_record, stored_entry, payload_of}
use Rattle.handover_format.specs.declared.records.Record.{Record}
use Rattle.refusals.specs.Answers.{Answer, number_of, value_of}
use Rattle.refusals.specs.declared.Refusal.{Refusal}
use Rattle.handover_format.proofs.PayloadRows.{Says, opens_says, says_fits, says_opens}
use Rattle.handover_format.proofs.PayloadDecoded.{count_decoded, entry_decoded, table_decoded, length_decoded, says_decoded}
use Rattle.handover_reading.specs.PayloadReading.{closes, words_check, record_check, strings_check, named_check, reading_of}
use Rattle.handover_reading.proofs.RecordLaws.{words_hold, words_pass, strings_hold, strings_pass}
use Rattle.handover_reading.proofs.Accepted.{stored_length, Accepted, accepted, accepting}
use Rattle.handover_acceptance.specs.PayloadRefusals.{Refuses}
use Rattle.handover_acceptance.specs.PayloadAcceptance.{HoldsPayload, AcceptsExactly, EveryReading}
use Rattle.handover_acceptance.proofs.PayloadRefusals.{refuses_exactly}
use Rattle.handover_acceptance.proofs.TestLaws.{end_said, end_suits_law, string_meets, string_closes, named_meets, named_closes, no_string}

-- ---- from reading to the rules
module _ (b : List ℕ) (n : ℕ) (y : Bytes b) (a : Accepted b n) where
  -- what holds of each entry that is stored holds of each that is decoded
  entries : (P : ℕ → Entry → Type 0) → ((i : ℕ) → i < stored_count b → P i (stored_entry b i)) → (i : ℕ) → i < count (payload_of b) → P i (entry_in (payload_of b) i)
  entries P h i k = let l : i < stored_count b = rw count_decoded at k in subst (P i) (sym (entry_decoded b i l)) (h i l)

  stored_last : (i : ℕ) → i < stored_count b → ((stored_record b i).tag ≡ handover_end) ↔ (i + 1 ≡ stored_count b)
  stored_last i h = end_said i (stored_count b) (stored_record b i).tag (words_hold _ (stored_record b i) (a.words i h)).0

  stored_range : (i : ℕ) → i < stored_count b → (stored_record b i).start + (stored_record b i).size ≤ 18446744073709551616
  stored_range i h = leb-true _ _ (words_hold _ (stored_record b i) (a.words i h)).1

  -- the tests on strings, at an entry that is stored
  name_meets : (i : ℕ) → i < stored_count b → names_name (stored_record b i).tag ≡ true → StringMeets (stored_length b) (stored_record b i).name (stored_entry b i).name
  name_meets i h =
      named_meets b (stored_table b) (stored_length b) (stored_record b i).name y _ (strings_hold b (stored_table b) (stored_length b) (stored_record b i) (a.strings i h)).0

  meta_meets : (i : ℕ) → i < stored_count b → names_meta (stored_record b i).tag ≡ true → StringMeets (stored_length b) (stored_record b i).meta (stored_entry b i).meta
  meta_meets i h =
      named_meets b (stored_table b) (stored_length b) (stored_record b i).meta y _ (strings_hold b (stored_table b) (stored_length b) (stored_record b i) (a.strings i h)).1

  string_holds : (o : ℕ) (l : List ℕ) → Named (payload_of b) o l → StringMeets (stored_length b) o l
  unfolding payload_of
  string_holds o l agent = string_meets b (stored_table b) (stored_length b) (stored_agent b) y a.agent
  string_holds o l (name i k t) = entries (λ i e. names_name e.words.tag ≡ true → StringMeets (stored_length b) e.words.name e.name) name_meets i k t
  string_holds o l (meta i k t) = entries (λ i e. names_meta e.words.tag ≡ true → StringMeets (stored_length b) e.words.meta e.meta) meta_meets i k t

  decoded_meets : Meets (room_of b) (payload_of b)
  unfolding payload_of
  decoded_meets =
      let q = count_decoded b in
      let h = a.head in
      record {
        fits = says_fits b (payload_of b) y (says_decoded b h.first);
        some = rw q h.some;
        most = rw q h.most;
        least = rw table_decoded h.least;
        within = h.within;
        last = entries (λ i e. (e.words.tag ≡ handover_end) ↔ (i + 1 ≡ count (payload_of b))) (λ i l. rw q (stored_last i l));
        ranges = entries (λ i e. e.words.start + e.words.size ≤ 18446744073709551616) stored_range;
        strings = λ o l g. rw length_decoded (string_holds o l g);
        nameless = entries (λ i e. names_name e.words.tag ≡ false → e.name ≡ []) (λ i l. no_string _ _);
        metaless = entries (λ i e. names_meta e.words.tag ≡ false → e.meta ≡ []) (λ i l. no_string _ _);
      }

-- an accepted buffer's payload meets the rules and opens it, with the used length that reading answers
pub sound : (b : List ℕ) (n : ℕ) → Bytes b → reading_of b ≡ Ok n → HoldsPayload b (payload_of b)
sound b n y e =
    let a = accepted b n e in
    let m = decoded_meets b n y a in
    (m, says_opens b (payload_of b) y (omega (arith, m.within)) (says_decoded b a.head.first))

-- ---- from the rules to reading
module _ (b : List ℕ) (p : Payload) (m : Meets (room_of b) p) (s : Says b p) where
  stored_words : (i : ℕ) → i < count p → record_check b (stored_count b) i ≡ 0
  stored_words i k =
      ap₂ (λ (n : ℕ) (r : Record). words_check (eqb (i + 1) n) r) s.count (sym (s.words i k))
      ∙ sym (words_pass (eqb (i + 1) (count p)) (words_in p i) (end_suits_law i (count p) (words_in p i).tag (m.last i k)) (le-leb _ _ (m.ranges i k)))

  stored_strings : (i : ℕ) → i < count p → named_check b (stored_table b) (stored_length b) i ≡ 0
  stored_strings i k =
      (λ j. strings_check b (record_start (s.count j)) (s.size j - record_start (s.count j)) (sym (s.words i k) j))
      ∙ sym (strings_pass b (table p) (table_length p) (words_in p i)
      (named_closes b (table p) (table_length p) (words_in p i).name _ (entry_in p i).name (λ t. m.strings _ _ (name i k t)) (λ t. s.strings _ _ (name i k t)))
      (named_closes b (table p) (table_length p) (words_in p i).meta _ (entry_in p i).meta (λ t. m.strings _ _ (meta i k t)) (λ t. s.strings _ _ (meta i k t))))

  held_accepted : Accepted b p.size
  held_accepted =
      let n = s.count in
      let z = s.size in
      record {
        head = record { room = omega (arith, m.least, m.within); first = s.first; some = omega (arith, m.some); most = omega (arith, m.most); least = omega (arith, m.least); within = omega (arith, m.within) };
        words = λ i h. stored_words i (omega arith);
        agent = (λ j. closes b (record_start (n j)) (z j - record_start (n j)) (s.agent j)) ∙ string_closes b (table p) (table_length p) p.agent p.agent_name (m.strings _ _ agent) (s.strings _ _ agent);
        strings = λ i h. stored_strings i (omega arith);
        used = sym z;
      }

-- whatever meets the rules and opens a buffer is accepted, with its size
pub complete : (b : List ℕ) (p : Payload) → HoldsPayload b p → reading_of b ≡ Ok p.size
complete b p h = accepting b p.size (held_accepted b p h.0 (opens_says b p h.0 h.1))

pub accepts_exactly : AcceptsExactly
accepts_exactly b n y =
    (λ e. (payload_of b, sound b n y e, ap value_of (sym e ∙ complete b (payload_of b) (sound b n y e))), λ h. complete b h.0 h.1 ∙ ap Ok (sym h.2))

pub every_reading : EveryReading
every_reading b y = go (reading_of b) refl
  where
    go : (a : Answer) → reading_of b ≡ a
        → ((p : Payload) × HoldsPayload b p × (reading_of b ≡ Ok p.size))
        ⊎ ((r : Refusal) × (reading_of b ≡ Err r) × Refuses b (number_of (Err r)) (value_of (Err r)) × ((p : Payload) → HoldsPayload b p → ⊥))
    go (Ok n) e = let h = sound b n y e in inl (payload_of b, h, complete b (payload_of b) h)
    go (Err r) e = inr (r, e, (refuses_exactly b r).0 e, λ p h. absurd (let z : Ok p.size ≡ Err r = sym (complete b p h) ∙ e in let w : ◌≡◌ {A = ℕ} 0 1 = cc in omega arith))

-- The payload that is decoded from a buffer is the only one that the buffer can hold.
use Prim.Native.Nat.{ℕ, zero, suc, ◌+◌, ◌-◌, ◌<◌}
use mathlib.Core.Path.{◌≡◌, refl, sym, ap, ◌∙◌, subst}
use mathlib.Core.Bool.{Bool, true, false}
use mathlib.Core.List.{List, []}
use native.Mathlib.Omega.{arith}
use native.Mathlib.Nat.{not-suc-le-zero, le_of_suc-le-suc, add-zero, zero-add}
use lib.ListN.{length, get_or}
use lib.Seq.{ext_get_or}
use Rattle.words.specs.Words.{u32_at}
use Rattle.handover_format.specs.declared.records.Record.{Record}
use Rattle.handover_format.specs.Payloads.{names_name, names_meta, Entry, Payload, count, no_entry, entry_in, words_in, record_start, table, table_length, Named, Named.agent, Named.name, Named.meta}
use Rattle.handover_format.specs.PayloadLayouts.{magic, Opens}
use Rattle.handover_format.specs.PayloadRules.{Meets}
use Rattle.handover_format.specs.PayloadDecoding.{pick, stored_agent, stored_size, stored_count, string_at, stored_table, stored_string, stored_entry, entries_from, payload_of}
use Rattle.handover_format.proofs.PayloadRows.{Says, opens_says}

-- ---- the entries that are decoded
entries_length : (b : List ℕ) (i n : ℕ) → length (entries_from b i n) ≡ n
unfolding entries_from
entries_length b i zero = refl
entries_length b i (suc n) = ap suc (entries_length b (suc i) n)

entries_at : (b : List ℕ) (i n j : ℕ) → j < n → get_or (entries_from b i n) j no_entry ≡ stored_entry b (i + j)
unfolding entries_from
entries_at b i zero j h = absurd (not-suc-le-zero h)
entries_at b i (suc n) zero h = rw add-zero
entries_at b i (suc n) (suc j) h =
    let q : suc i + j ≡ i + suc j = omega arith in
    rw (← q) (entries_at b (suc i) n j (le_of_suc-le-suc h))

module _ (b : List ℕ) where
  pub count_decoded : count (payload_of b) ≡ stored_count b
  unfolding payload_of
  count_decoded = entries_length b 0 (stored_count b)

  pub entry_decoded : (i : ℕ) → i < stored_count b → entry_in (payload_of b) i ≡ stored_entry b i
  unfolding payload_of
  entry_decoded i h = rw zero-add at (entries_at b 0 (stored_count b) i h)

  pub table_decoded : table (payload_of b) ≡ stored_table b
  table_decoded = ap record_start count_decoded

  pub size_decoded : (payload_of b).size ≡ stored_size b
  unfolding payload_of
  size_decoded = refl

  pub length_decoded : table_length (payload_of b) ≡ stored_size b - stored_table b
  unfolding payload_of
  length_decoded = rw table_decoded

-- ---- a string that is there only where it is named
module _ (l m : List ℕ) where
  named : (t : Bool) → t ≡ true → l ≡ pick t l m
  named true e = refl
  named false e = absurd (let z : ◌≡◌ {A = ℕ} 0 1 = cc in omega arith)

  only_named : (t : Bool) (k : List ℕ) → (t ≡ true → l ≡ k) → (t ≡ false → k ≡ m) → k ≡ pick t l m
  only_named true k h g = sym (h refl)
  only_named false k h g = g refl

module _ (b : List ℕ) where
  same_table : (p : Payload) → stored_count b ≡ count p → stored_size b ≡ p.size → (o : ℕ) → string_at b (table p) (table_length p) o ≡ stored_string b o
  same_table p n z o = rw (← n, ← z)

  decoded_table : (o : ℕ) → string_at b (table (payload_of b)) (table_length (payload_of b)) o ≡ stored_string b o
  decoded_table o = same_table (payload_of b) (sym (count_decoded b)) (sym (size_decoded b)) o

  -- a buffer with the magic says the payload that is decoded from it
  pub says_decoded : u32_at b 0 ≡ magic → Says b (payload_of b)
  unfolding payload_of
  says_decoded e =
      record {
        first = e;
        agent = refl;
        size = refl;
        count = sym (count_decoded b);
        words = λ i k. ap (λ (x : Entry). x.words) (at i k);
        strings = strings;
      }
    where
      at : (i : ℕ) → i < count (payload_of b) → entry_in (payload_of b) i ≡ stored_entry b i
      at i k = entry_decoded b i (rw count_decoded at k)

      strings : (o : ℕ) (l : List ℕ) → Named (payload_of b) o l → string_at b (table (payload_of b)) (table_length (payload_of b)) o ≡ l
      strings o l agent = decoded_table (stored_agent b)
      strings o l (name i k t) =
          subst (λ (x : Entry). names_name x.words.tag ≡ true → string_at b (table (payload_of b)) (table_length (payload_of b)) x.words.name ≡ x.name) (sym (at i k)) (λ t. decoded_table _ ∙ named _ _ _ t) t
      strings o l (meta i k t) =
          subst (λ (x : Entry). names_meta x.words.tag ≡ true → string_at b (table (payload_of b)) (table_length (payload_of b)) x.words.meta ≡ x.meta) (sym (at i k)) (λ t. decoded_table _ ∙ named _ _ _ t) t

  -- any payload that a buffer says, with no string where none is named
  module _ (p : Payload) (s : Says b p) where
    slot : (t : ℕ → Bool) (w : Record) (o : Record → ℕ) (l : List ℕ) → (t w.tag ≡ true → string_at b (table p) (table_length p) (o w) ≡ l) → (t w.tag ≡ false → l ≡ [])
        → l ≡ pick (t w.tag) (stored_string b (o w)) []
    slot t w o l h g = only_named (stored_string b (o w)) [] (t w.tag) l (λ e. sym (same_table p s.count s.size (o w)) ∙ h e) g

    only : ((i : ℕ) → i < count p → (names_name (words_in p i).tag ≡ false → (entry_in p i).name ≡ []) × (names_meta (words_in p i).tag ≡ false → (entry_in p i).meta ≡ [])) → p ≡ payload_of b
    unfolding payload_of
    only k =
        let l = ext_get_or no_entry p.entries (payload_of b).entries (sym (count_decoded b ∙ s.count)) (λ i h. same i h ∙ sym (entry_decoded b i (omega (arith, s.count)))) in
        λ j. record {
          agent = sym s.agent j;
          agent_name = (sym (s.strings _ _ agent) ∙ same_table p s.count s.size p.agent ∙ ap (stored_string b) (sym s.agent)) j;
          entries = l j;
          size = sym s.size j;
        }
      where
        same : (i : ℕ) → i < count p → entry_in p i ≡ stored_entry b i
        same i h =
            let e = s.words i h in
            let n = slot names_name (words_in p i) (λ r. r.name) (entry_in p i).name (λ t. s.strings _ _ (name i h t)) (k i h).0 in
            let m = slot names_meta (words_in p i) (λ r. r.meta) (entry_in p i).meta (λ t. s.strings _ _ (meta i h t)) (k i h).1 in
            λ j. record {
              words = e j;
              name = (n ∙ ap (λ (w : Record). pick (names_name w.tag) (stored_string b w.name) []) e) j;
              meta = (m ∙ ap (λ (w : Record). pick (names_meta w.tag) (stored_string b w.meta) []) e) j;
            }

-- whatever meets the rules and opens a buffer is the payload that is decoded from it
pub decoded_only : (room : ℕ) (b : List ℕ) (p : Payload) → Meets room p → Opens b p → p ≡ payload_of b
decoded_only room b p m o = only b p (opens_says b p m o) (λ i h. (m.nameless i h, m.metaless i h))

-- Where no condition of a refusal is met, what is lent makes sound records.
use Prim.Native.Nat.{ℕ, zero, suc, ◌+◌, ◌*◌, ◌≤◌, ◌<◌}
use mathlib.Core.Path.{◌≡◌, refl, sym, subst}
use mathlib.Core.Logic.{◌↔◌}
use mathlib.Core.Bool.{Bool, true, false}
use mathlib.Core.List.{List, []}
use native.Mathlib.Omega.{arith}
use native.Mathlib.Nat.{not-suc-le-zero, le_of_suc-le-suc, lt_of_not-le, add-zero, zero-add}
use lib.ListN.{length, get_or}
use lib.Dec.{eqb}
use borrow.Author.Tests.{eqb-true, eqb-false}
use Rattle.byte_layout.specs.Fields.{Fits}
use Rattle.byte_layout.specs.Stored.{Bytes}
use Rattle.byte_layout.proofs.Copies.{length_stored, bytes_at_law}
use Rattle.byte_layout.proofs.FieldLaws.{number_fits}
use Rattle.refusals.specs.Order.{NoneBreaks}
use Rattle.handover_format.specs.Payloads.{handover_end, names_name, names_meta, Entry, no_entry}
use Rattle.handover_format.specs.PayloadLayouts.{record_fields}
use Rattle.handover_format.specs.PayloadDecoding.{pick}
use Rattle.handover_acceptance.proofs.TestLaws.{no_string}
use Rattle.handover_arguments.specs.PayloadGiven.{count_given, record_given, agent_part, name_part, meta_part, start_given, length_given, string_given, agent_given, entry_given, entries_from, entries_given}
use Rattle.handover_arguments.proofs.GivenLaws.{length_entries}
use Rattle.handover_written.specs.Placing.{Text, Sound, SoundRecords}
use Rattle.handover_written.specs.WritingRefusals.{StringBreaks, StringBreaks.zero_byte, WritingBreaks, WritingBreaks.none, WritingBreaks.many, WritingBreaks.misplaced, WritingBreaks.missing, WritingBreaks.range, WritingBreaks.agent, WritingBreaks.name, WritingBreaks.meta}

-- what is not above is at most
pub not_over : (k m : ℕ) → (m < k → ⊥) → k ≤ m
not_over k m f = le_of_suc-le-suc (lt_of_not-le f)

-- ---- strings
no_text : Text []
no_text i h = absurd (not-suc-le-zero h)

string_text : (ps run : List ℕ) → Bytes run → (k : ℕ) → (StringBreaks ps run k → ⊥) → Text (string_given ps run k)
string_text ps run w k h i l =
    let s = start_given ps k in
    let n = length_given ps k in
    let m : i < n = omega (arith, length_stored run s n) in
    rw (bytes_at_law run s n i m) (positive (get_or run (s + i) 0) (λ z. h (zero_byte i m z)), w (s + i))
  where
    positive : (x : ℕ) → (x ≡ 0 → ⊥) → 0 < x
    positive zero g = absurd (g refl)
    positive (suc x) g = omega arith

picked_text : (t : Bool) (l : List ℕ) → (t ≡ true → Text l) → Text (pick t l [])
picked_text true l h = h refl
picked_text false l h = no_text

-- ---- the entries, one by one
entries_at : (rs ps run : List ℕ) (i n j : ℕ) → j < n → get_or (entries_from rs ps run i n) j no_entry ≡ entry_given rs ps run (i + j)
unfolding entries_from
entries_at rs ps run i zero j h = absurd (not-suc-le-zero h)
entries_at rs ps run i (suc n) zero h = rw add-zero
entries_at rs ps run i (suc n) (suc j) h =
    let q : suc i + j ≡ i + suc j = omega arith in
    rw (← q) (entries_at rs ps run (suc i) n j (le_of_suc-le-suc h))

pub entry_at : (rs ps run : List ℕ) (i : ℕ) → i < count_given rs → get_or (entries_given rs ps run) i no_entry ≡ entry_given rs ps run i
entry_at rs ps run i h = rw zero-add at (entries_at rs ps run 0 (count_given rs) i h)

-- ---- all of them
module _ (rs ps run : List ℕ) (room : ℕ) (y : Bytes rs) (w : Bytes run) (h : NoneBreaks (WritingBreaks rs ps run room)) where
  words_fit : (i : ℕ) → Fits (record_fields (record_given rs i))
  unfolding Fits
  words_fit i = let f = number_fits rs y in (f (32 * i) 4, (f (32 * i + 4) 4, (f (32 * i + 8) 8, (f (32 * i + 16) 8, (f (32 * i + 24) 4, (f (32 * i + 28) 4, tt))))))

  entry_sound : (i : ℕ) → i < count_given rs → Sound (entry_given rs ps run i)
  entry_sound i l =
      record {
        fits = words_fit i;
        range = not_over _ 18446744073709551616 (λ q. h _ (range i l q));
        name_text = picked_text (names_name (record_given rs i).tag) _ (λ t. string_text ps run w (name_part i) (λ q. h _ (name i l t q)));
        meta_text = picked_text (names_meta (record_given rs i).tag) _ (λ t. string_text ps run w (meta_part i) (λ q. h _ (meta i l t q)));
        nameless = no_string (names_name (record_given rs i).tag) _;
        metaless = no_string (names_meta (record_given rs i).tag) _;
      }

  last_by : (i : ℕ) → i < count_given rs → (s t : Bool) → eqb (record_given rs i).tag handover_end ≡ s → eqb (i + 1) (count_given rs) ≡ t
      → ((record_given rs i).tag ≡ handover_end) ↔ (i + 1 ≡ count_given rs)
  last_by i l true true e f = (λ q. eqb-true (i + 1) (count_given rs) f, λ q. eqb-true (record_given rs i).tag handover_end e)
  last_by i l true false e f = absurd (h _ (misplaced i l (eqb-true _ _ e) (eqb-false _ _ f)))
  last_by i l false true e f = absurd (h _ (missing i l (eqb-false _ _ e) (eqb-true _ _ f)))
  last_by i l false false e f = (λ q. absurd (eqb-false _ _ e q), λ q. absurd (eqb-false _ _ f q))

  length_is : length (entries_given rs ps run) ≡ count_given rs
  length_is = length_entries rs ps run 0 (count_given rs)

  given : (P : ℕ → Entry → Type 0) → ((i : ℕ) → i < count_given rs → P i (entry_given rs ps run i)) → (i : ℕ) → i < length (entries_given rs ps run) → P i (get_or (entries_given rs ps run) i no_entry)
  given P f i k = let l : i < count_given rs = omega (arith, length_is) in subst (P i) (sym (entry_at rs ps run i l)) (f i l)

  pub sound_given : SoundRecords (entries_given rs ps run)
  sound_given =
      record {
        some = omega (arith, length_is, not_over 1 (count_given rs) (λ q. h _ (none q)));
        most = omega (arith, length_is, not_over (count_given rs) 1024 (λ q. h _ (many q)));
        each = given (λ i e. Sound e) entry_sound;
        last =
            given (λ i e. (e.words.tag ≡ handover_end) ↔ (i + 1 ≡ length (entries_given rs ps run)))
            (λ i l. rw length_is (last_by i l (eqb (record_given rs i).tag handover_end) (eqb (i + 1) (count_given rs)) refl refl));
      }

  pub agent_given_law : Text (agent_given ps run)
  agent_given_law = string_text ps run w agent_part (λ q. h _ (agent q))

-- Each test of reading fails just under its condition.
use Prim.Native.Nat.{ℕ, ◌+◌, ◌-◌, ◌<◌}
use mathlib.Core.Path.{◌≡◌, refl, sym, ap, ◌∙◌}
use mathlib.Core.Logic.{◌↔◌, ◌⊎◌, inl, inr}
use mathlib.Core.Bool.{Bool, true, false, not, ◌&&◌}
use mathlib.Core.List.{List, [], ◌∷◌}
use native.Mathlib.Omega.{arith}
use lib.ListN.{length}
use lib.Dec.{leb, eqb}
use borrow.Author.Tests.{leb-false, lt-leb, ltb-true, lt-ltb, eqb-true, eqb-false, eq-eqb, ne_eqb, not-false}
use Rattle.words.specs.Words.{u32_at}
use Rattle.byte_layout.proofs.Texts.{text_zero, zero_text}
use Rattle.refusals.specs.Refusals.{unless, SHORT, COUNT, RANGE, MAGIC, PAYLOAD, STRING, END}
use Rattle.handover_format.specs.Payloads.{handover_end}
use Rattle.lent_buffers.specs.Room.{room_of}
use Rattle.handover_format.specs.PayloadLayouts.{magic}
use Rattle.handover_format.specs.PayloadDecoding.{stored_size, stored_count, stored_table, stored_record, string_at}
use Rattle.address_ranges.specs.Ranges.{range_fits}
use Rattle.handover_format.specs.RecordTests.{end_suits, if_named}
use Rattle.handover_reading.specs.PayloadReading.{head_check, words_check, record_check, closes, strings_check, named_check}
use Rattle.handover_reading.proofs.RecordLaws.{name_suits, meta_suits}
use Rattle.handover_reading.proofs.Accepted.{stored_length}
use Rattle.handover_acceptance.specs.PayloadRefusals.{HeadBreaks, HeadBreaks.short, HeadBreaks.foreign, HeadBreaks.count, HeadBreaks.extent, RecordBreaks, RecordBreaks.misplaced, RecordBreaks.missing, RecordBreaks.range, Closes, StringBreaks, StringBreaks.name, StringBreaks.meta, head_order, record_order}
use Rattle.refusals.specs.Order.{NoneBreaks}
use Rattle.refusals.proofs.Order.{clash, AllFine, Chain, ends, link, one_number, either_fails}

below : (a b : ℕ) → (leb a b ≡ false) ↔ (b < a)
below a b = (leb-false a b, lt-leb a b)

differs : (a b : ℕ) → (eqb a b ≡ false) ↔ (a ≡ b → ⊥)
differs a b = (eqb-false a b, ne_eqb a b)

through : {A B C : Type 0} → A ↔ B → (B → C) → (C → B) → A ↔ C
through f g h = (λ a. g (f.0 a), λ c. f.1 (h c))

-- ---- the head
module _ (b : List ℕ) where
  of_short : HeadBreaks b SHORT → room_of b < 16
  of_short (short h) = h

  of_foreign : HeadBreaks b MAGIC → u32_at b 0 ≡ magic → ⊥
  of_foreign (foreign h) = h

  of_count : HeadBreaks b COUNT → (stored_count b < 1) ⊎ (1024 < stored_count b)
  of_count (count h) = h

  of_extent : HeadBreaks b PAYLOAD → (stored_size b < stored_table b) ⊎ (room_of b < stored_size b)
  of_extent (extent h) = h

  pub head_chain : Chain head_order (HeadBreaks b) (head_check b)
  unfolding head_check
  head_chain =
      rw (one_number (leb 1 (stored_count b)) (leb (stored_count b) 1024) COUNT, one_number (leb (stored_table b) (stored_size b)) (leb (stored_size b) (room_of b)) PAYLOAD)
      (link (HeadBreaks b) (leb 16 (room_of b)) 0 _ (MAGIC ∷ COUNT ∷ PAYLOAD ∷ []) (through (below 16 (room_of b)) short of_short)
      (link (HeadBreaks b) (eqb (u32_at b 0) magic) 19 _ (COUNT ∷ PAYLOAD ∷ []) (through (differs (u32_at b 0) magic) foreign of_foreign)
      (link (HeadBreaks b) (leb 1 (stored_count b) && leb (stored_count b) 1024) 2 _ (PAYLOAD ∷ []) (through (either_fails _ _ (below 1 (stored_count b)) (below (stored_count b) 1024)) count of_count)
      (link (HeadBreaks b) (leb (stored_table b) (stored_size b) && leb (stored_size b) (room_of b)) 20 _ [] (through (either_fails _ _ (below (stored_table b) (stored_size b)) (below (stored_size b) (room_of b))) extent of_extent)
      (ends (HeadBreaks b))))))

  pub head_none : AllFine head_order (HeadBreaks b) → NoneBreaks (HeadBreaks b)
  head_none f m (short h) = f.0 (short h)
  head_none f m (foreign h) = f.1.0 (foreign h)
  head_none f m (count h) = f.1.1.0 (count h)
  head_none f m (extent h) = f.1.1.1.0 (extent h)

-- ---- record i
module _ (b : List ℕ) (i : ℕ) where
  end_fails : (t : Bool) → eqb (i + 1) (stored_count b) ≡ t → (end_suits t (stored_record b i).tag ≡ false) ↔ RecordBreaks b i END
  end_fails true e = (λ h. missing (eqb-false _ _ h) (eqb-true (i + 1) (stored_count b) e), back)
    where
      back : RecordBreaks b i END → eqb (stored_record b i).tag handover_end ≡ false
      back (misplaced x y) = absurd (y (eqb-true (i + 1) (stored_count b) e))
      back (missing x y) = ne_eqb _ _ x
  end_fails false e = (λ h. misplaced (eqb-true _ _ (not-false _ h)) (eqb-false (i + 1) (stored_count b) e), back)
    where
      back : RecordBreaks b i END → not (eqb (stored_record b i).tag handover_end) ≡ false
      back (misplaced x y) = ap not (eq-eqb _ _ x)
      back (missing x y) = absurd (eqb-false (i + 1) (stored_count b) e y)

  of_range : RecordBreaks b i RANGE → 18446744073709551616 < (stored_record b i).start + (stored_record b i).size
  of_range (range h) = h

  pub record_chain : Chain record_order (RecordBreaks b i) (record_check b (stored_count b) i)
  unfolding words_check
  record_chain =
      link (RecordBreaks b i) (end_suits (eqb (i + 1) (stored_count b)) (stored_record b i).tag) 22 _ (RANGE ∷ []) (end_fails (eqb (i + 1) (stored_count b)) refl)
      (link (RecordBreaks b i) (range_fits (stored_record b i).start (stored_record b i).size) 14 _ [] (through (below _ 18446744073709551616) range of_range)
      (ends (RecordBreaks b i)))

  pub record_none : AllFine record_order (RecordBreaks b i) → NoneBreaks (RecordBreaks b i)
  record_none f m (misplaced x y) = f.0 (misplaced x y)
  record_none f m (missing x y) = f.0 (missing x y)
  record_none f m (range h) = f.1.0 (range h)

-- ---- strings
module _ (b : List ℕ) (o : ℕ) where
  pub closes_said : closes b (stored_table b) (stored_length b) o ≡ true → Closes b o
  unfolding closes
  closes_said e =
      let h = ltb-true (length (string_at b (stored_table b) (stored_length b) o)) (stored_length b - o) e in
      (length (string_at b (stored_table b) (stored_length b) o), omega arith, text_zero b (stored_table b + o) (stored_length b - o) h)

  pub closes_by : Closes b o → closes b (stored_table b) (stored_length b) o ≡ true
  unfolding closes
  closes_by c = lt-ltb _ (stored_length b - o) (zero_text b (stored_table b + o) (stored_length b - o) c.0 (omega (arith, c.1)) c.2)

  pub closes_fails : closes b (stored_table b) (stored_length b) o ≡ false → Closes b o → ⊥
  closes_fails e c = clash (sym (closes_by c) ∙ e)

  pub fails_closes : (Closes b o → ⊥) → closes b (stored_table b) (stored_length b) o ≡ false
  fails_closes n = go (closes b (stored_table b) (stored_length b) o) refl
    where
      go : (t : Bool) → closes b (stored_table b) (stored_length b) o ≡ t → closes b (stored_table b) (stored_length b) o ≡ false
      go true e = absurd (n (closes_said e))
      go false e = e

-- a string that counts only where it is named
module _ (b : List ℕ) (o : ℕ) where
  named_fails : (t : Bool) → if_named t (closes b (stored_table b) (stored_length b) o) ≡ false → (t ≡ true) × (Closes b o → ⊥)
  unfolding if_named
  named_fails true e = (refl, closes_fails b o e)
  named_fails false e = clash e

  named_closes : (t : Bool) → if_named t (closes b (stored_table b) (stored_length b) o) ≡ true → t ≡ true → Closes b o
  unfolding if_named
  named_closes true e q = closes_said b o e
  named_closes false e q = clash (sym q)

-- the strings of record i
module _ (b : List ℕ) (i : ℕ) where
  abbrev number : ℕ
  number = named_check b (stored_table b) (stored_length b) i

  settled : (s t : Bool) → name_suits b (stored_table b) (stored_length b) (stored_record b i) ≡ s → meta_suits b (stored_table b) (stored_length b) (stored_record b i) ≡ t
      → ((unless s STRING (unless t STRING 0) ≡ 0) × (StringBreaks b i → ⊥)) ⊎ ((unless s STRING (unless t STRING 0) ≡ STRING) × StringBreaks b i)
  settled true true e f = inl (refl, none)
    where
      none : StringBreaks b i → ⊥
      none (name q n) = n (named_closes b (stored_record b i).name _ e q)
      none (meta q n) = n (named_closes b (stored_record b i).meta _ f q)
  settled true false e f = let p = named_fails b (stored_record b i).meta _ f in inr (refl, meta p.0 p.1)
  settled false t e f = let p = named_fails b (stored_record b i).name _ e in inr (refl, name p.0 p.1)

  pub strings_settled : ((number ≡ 0) × (StringBreaks b i → ⊥)) ⊎ ((number ≡ STRING) × StringBreaks b i)
  unfolding strings_check
  strings_settled = settled (name_suits b (stored_table b) (stored_length b) (stored_record b i)) (meta_suits b (stored_table b) (stored_length b) (stored_record b i)) refl refl

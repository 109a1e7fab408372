-- Runs and decoding agree: what a payload's runs, lying in a buffer, say of what is stored there, and back.
use Prim.Native.Nat.{ℕ, zero, suc, ◌+◌, ◌-◌, ◌*◌, ◌≤◌, ◌<◌}
use mathlib.Core.Path.{◌≡◌, refl, sym, ap}
use mathlib.Core.List.{List, [], ◌∷◌}
use native.Mathlib.Omega.{arith}
use native.Mathlib.Nat.{not-suc-le-zero, le_of_suc-le-suc, add-zero}
use lib.ListN.{length, get_or}
use Rattle.words.specs.Words.{u32_at}
use Rattle.byte_layout.specs.Fields.{Field, Field.text, cells, width, Fits, FieldFits}
use Rattle.byte_layout.specs.Stored.{Bytes, text_at}
use Rattle.byte_layout.proofs.Cells.{along, index}
use Rattle.byte_layout.proofs.FieldLaws.{Holds, shift, holds_front, holds_append, holds_fit, from_cells, to_cells}
use Rattle.handover_format.specs.declared.records.Record.{Record}
use Rattle.handover_format.specs.Payloads.{Entry, Payload, count, no_entry, words_in, table, table_length, Named}
use Rattle.handover_format.specs.PayloadLayouts.{magic, record_fields, entries_fields, front_fields, string_fields, RowOf, RowOf.front, RowOf.string, Opens}
use Rattle.byte_layout.specs.Placed.{LiesAt}
use Rattle.handover_format.specs.PayloadRules.{StringMeets, Meets}
use Rattle.handover_format.specs.PayloadDecoding.{record_at, stored_record, string_at}

-- ---- widths
wide_record : (r : Record) → width (record_fields r) ≡ 32
unfolding width
wide_record r = refl

pub entries_width : (es : List Entry) → width (entries_fields es) ≡ 32 * length es
unfolding entries_fields width
entries_width [] = refl
entries_width (e ∷ es) = let r = entries_width es in omega arith

pub width_front : (p : Payload) → width (front_fields p) ≡ table p
unfolding width
width_front p = let e = entries_width p.entries in omega arith

-- ---- records in a row
abbrev at : List Entry → ℕ → Entry
at es i = get_or es i no_entry

module _ (b : List ℕ) where
  record_from : (q : ℕ) (r : Record) → Holds b q 0 (record_fields r) → r ≡ record_at b q
  record_from q r h =
      let t : u32_at b q ≡ r.tag = rw add-zero at h.0 in
      λ i. record { tag = sym t i; flags = sym h.1.0 i; start = sym h.1.1.0 i; size = sym h.1.1.1.0 i; name = sym h.1.1.1.1.0 i; meta = sym h.1.1.1.1.1.0 i }

  record_to : (q : ℕ) (r : Record) → r ≡ record_at b q → Holds b q 0 (record_fields r)
  record_to q r e = (
    rw add-zero (ap (λ (x : Record). x.tag) (sym e)),
    (
      ap (λ (x : Record). x.flags) (sym e),
      (
        ap (λ (x : Record). x.start) (sym e),
        (
          ap (λ (x : Record). x.size) (sym e),
          (ap (λ (x : Record). x.name) (sym e), (ap (λ (x : Record). x.meta) (sym e), tt)),
        ),
      ),
    ),
  )

  each : (es : List Entry) (o j : ℕ) → Holds b o j (entries_fields es) → (i : ℕ) → i < length es → (at es i).words ≡ record_at b (o + j + 32 * i)
  unfolding entries_fields
  each [] o j h i k = absurd (not-suc-le-zero k)
  each (e ∷ es) o j h zero k =
      record_from (o + j + 32 * 0) e.words
      (shift b o j (o + j + 32 * 0) 0 (record_fields e.words) (omega arith) (holds_front b o j (j + 32) (record_fields e.words) (entries_fields es) (omega (arith, wide_record e.words)) h).0)
  each (e ∷ es) o j h (suc i) k =
      let q : o + j + 32 * suc i ≡ o + (j + 32) + 32 * i = omega arith in
      rw q (each es o (j + 32) (holds_front b o j (j + 32) (record_fields e.words) (entries_fields es) (omega (arith, wide_record e.words)) h).1 i (le_of_suc-le-suc k))

  all : (es : List Entry) (o j : ℕ) → ((i : ℕ) → i < length es → (at es i).words ≡ record_at b (o + j + 32 * i)) → Holds b o j (entries_fields es)
  unfolding entries_fields
  all [] o j h = tt
  all (e ∷ es) o j h =
      holds_append b o j (j + 32) (record_fields e.words) (entries_fields es) (omega (arith, wide_record e.words))
      (shift b (o + j + 32 * 0) 0 o j (record_fields e.words) (omega arith) (record_to (o + j + 32 * 0) e.words (h 0 (omega arith))))
      (all es o (j + 32) (λ i k.
      let q : o + j + 32 * suc i ≡ o + (j + 32) + 32 * i = omega arith in
      rw q at (h (suc i) (omega arith))))

  -- ---- strings
  string_from : (q n o : ℕ) (l : List ℕ) → StringMeets n o l → LiesAt b q (cells (string_fields n o l)) → text_at b q (n - o) ≡ l
  unfolding Fits
  string_from q n o l m h =
      let f : FieldFits (text (n - o) l) = (omega (arith, m.closes), m.bytes) in
      rw add-zero at (from_cells b q 0 q (string_fields n o l) (sym (add-zero q)) (f, tt) (along b q (cells (string_fields n o l)) h)).0

  string_to : Bytes b → (q n o : ℕ) (l : List ℕ) → text_at b q (n - o) ≡ l → LiesAt b q (cells (string_fields n o l))
  string_to y q n o l e = index b q (cells (string_fields n o l)) (to_cells b y q 0 q (string_fields n o l) (sym (add-zero q)) (rw add-zero e, tt))

-- ---- what the runs of a payload say of a buffer
pub record Says (b : List ℕ) (p : Payload) : Type 0 where
  pub first : u32_at b 0 ≡ magic
  pub agent : u32_at b 4 ≡ p.agent
  pub size : u32_at b 8 ≡ p.size
  pub count : u32_at b 12 ≡ count p
  pub words : (i : ℕ) → i < length p.entries → words_in p i ≡ stored_record b i
  pub strings : (o : ℕ) (l : List ℕ) → Named p o l → string_at b (table p) (table_length p) o ≡ l

module _ (b : List ℕ) (p : Payload) where
  pub opens_says : {room : ℕ} → Meets room p → Opens b p → Says b p
  opens_says m o =
      let h = from_cells b 0 0 0 (front_fields p) refl m.fits (along b 0 (cells (front_fields p)) (o.lies 0 (front_fields p) front)) in
      record {
        first = h.0;
        agent = h.1.0;
        size = h.1.1.0;
        count = h.1.1.1.0;
        words = each b p.entries 0 16 h.1.1.1.1;
        strings = λ q l h. string_from b (table p + q) (table_length p) q l (m.strings q l h) (o.lies _ _ (string q l h));
      }

  says_holds : Says b p → Holds b 0 0 (front_fields p)
  says_holds s = (s.first, (s.agent, (s.size, (s.count, all b p.entries 0 16 s.words))))

  pub says_fits : Bytes b → Says b p → Fits (front_fields p)
  says_fits y s = holds_fit b y 0 0 (front_fields p) (says_holds s)

  pub says_opens : Bytes b → p.size ≤ length b → Says b p → Opens b p
  says_opens y w s = record { within = w; lies = lies }
    where
      lies : (o : ℕ) (fs : List Field) → RowOf p o fs → LiesAt b o (cells fs)
      lies o fs front = index b 0 (cells (front_fields p)) (to_cells b y 0 0 0 (front_fields p) refl (says_holds s))
      lies o fs (string q l h) = string_to b y (table p + q) (table_length p) q l (s.strings q l h)

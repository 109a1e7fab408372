-- Laws of filling: one string, one record's strings and one record more, of what is given.
use Prim.Native.Nat.{ℕ, ◌+◌, ◌≤◌, ◌<◌}
use mathlib.Core.Path.{◌≡◌, sym, ap, ◌∙◌}
use mathlib.Core.Bool.{Bool, true}
use mathlib.Core.List.{List, [], ◌∷◌, ◌++◌}
use native.Mathlib.Omega.{arith}
use lib.ListN.{length, length-append}
use Rattle.words.specs.Words.{replaced}
use Rattle.byte_layout.specs.Fields.{cells, filled}
use Rattle.byte_layout.specs.Stored.{bytes_at, closed}
use Rattle.byte_layout.proofs.Copies.{length_stored}
use Rattle.handover_format.specs.Payloads.{names_name, names_meta, record_start}
use Rattle.handover_format.specs.PayloadLayouts.{record_fields}
use Rattle.handover_format.specs.WrittenForm.{closed_if, strings_of, strings, words_at, rows_bytes}
use Rattle.handover_format.proofs.WrittenLaws.{length_closed, closed_named, strings_none, strings_one, strings_append, rows_none, rows_one, rows_append, length_rows}
use Rattle.handover_arguments.specs.PayloadGiven.{record_given, name_part, meta_part, string_given, agent_given, entry_given, entries_from}
use Rattle.handover_arguments.specs.Measures.{name_width, strings_start}
use Rattle.handover_arguments.proofs.GivenLaws.{entries_none, length_entries, entries_more, strings_given}
use Rattle.handover_arguments.proofs.MeasureLaws.{start_below, length_name, length_both, start_length}
use Rattle.handover_writing.specs.Stores.{put}
use Rattle.handover_writing.proofs.StoreLaws.{put_none, stored, put_then}

-- ---- one string
pub length_named : (t : Bool) (run : List ℕ) (s n : ℕ) → t ≡ true → length (closed_if t (bytes_at run s n)) ≡ n + 1
length_named t run s n h =
    ap length (closed_named t (bytes_at run s n) h) ∙ length_closed (bytes_at run s n) ∙ ap (λ (k : ℕ). k + 1) (length_stored run s n)

module _ (rs ps run : List ℕ) where
  -- ---- a record's strings, told whether they are named
  module _ (i : ℕ) (t u : Bool) (f : t ≡ names_name (record_given rs i).tag) (g : u ≡ names_meta (record_given rs i).tag) where
    abbrev name : List ℕ
    name = closed_if t (string_given ps run (name_part i))

    abbrev meta : List ℕ
    meta = closed_if u (string_given ps run (meta_part i))

    both_given : name ++ meta ≡ strings_of (entry_given rs ps run i)
    both_given =
        (λ j. closed_if (f j) (string_given ps run (name_part i)) ++ closed_if (g j) (string_given ps run (meta_part i)))
        ∙ sym (strings_given rs ps run i)

    pub both_length : length name + length meta ≡ length (strings_of (entry_given rs ps run i))
    both_length = sym (length-append name meta) ∙ ap length both_given

    pub both_stored : (e q r : List ℕ) (a b : ℕ) → b ≡ a + length name → b ≤ length e → q ≡ put e a name → r ≡ put q b meta → r ≡ put e a (strings_of (entry_given rs ps run i))
    both_stored e q r a b p h s k = put_then e q r name meta a b p h s k ∙ ap (put e a) both_given

  -- ---- one record's strings more
  pub strings_below : (n i : ℕ) → i < n → length (strings (entries_from rs ps run 0 i)) + length (strings_of (entry_given rs ps run i)) ≤ length (strings (entries_from rs ps run 0 n))
  strings_below n i h = omega (arith, start_below rs ps n i h, start_length rs ps run i, start_length rs ps run n, length_both rs ps run i)

  strings_more : (i : ℕ) → strings (entries_from rs ps run 0 (i + 1)) ≡ strings (entries_from rs ps run 0 i) ++ strings_of (entry_given rs ps run i)
  strings_more i =
      let e = entry_given rs ps run i in
      ap strings (entries_more rs ps run i) ∙ strings_append (entries_from rs ps run 0 i) (e ∷ [])
      ∙ ap (λ (l : List ℕ). strings (entries_from rs ps run 0 i) ++ l) (strings_one e)

  pub first_strings : (e : List ℕ) (a : ℕ) → (a ≡ a + length (strings (entries_from rs ps run 0 0))) × (e ≡ put e a (strings (entries_from rs ps run 0 0)))
  first_strings e a =
      let z = ap strings (entries_none rs ps run 0) ∙ strings_none in
      (omega (arith, ap length z), put_none e a ∙ ap (put e a) (sym z))

  pub next_strings : (e q r : List ℕ) (a i at to : ℕ) → at ≡ a + length (strings (entries_from rs ps run 0 i)) → to ≡ at + length (strings_of (entry_given rs ps run i)) → at ≤ length e
      → q ≡ put e a (strings (entries_from rs ps run 0 i)) → r ≡ put q at (strings_of (entry_given rs ps run i))
      → (to ≡ a + length (strings (entries_from rs ps run 0 (i + 1)))) × (r ≡ put e a (strings (entries_from rs ps run 0 (i + 1))))
  next_strings e q r a i at to p m h s t =
      let x = strings (entries_from rs ps run 0 i) in
      let y = strings_of (entry_given rs ps run i) in
      (omega (arith, ap length (strings_more i), length-append x y), put_then e q r x y a at p h s t ∙ ap (put e a) (sym (strings_more i)))

  -- ---- one record more
  -- where the records' strings start
  abbrev first : ℕ
  first = length (closed (agent_given ps run))

  pub first_rows : (e : List ℕ) → e ≡ put e 16 (rows_bytes first (entries_from rs ps run 0 0))
  first_rows e = put_none e 16 ∙ ap (put e 16) (sym (ap (rows_bytes first) (entries_none rs ps run 0) ∙ rows_none first))

  row_given : (i at : ℕ) → at ≡ strings_start rs ps i → filled (cells (record_fields (words_at (record_given rs i) at (at + name_width rs ps i))))
      ≡ rows_bytes (first + length (strings (entries_from rs ps run 0 i))) (entry_given rs ps run i ∷ [])
  row_given i at p =
      let e = entry_given rs ps run i in
      let q = p ∙ start_length rs ps run i in
      let n = sym (length_name rs ps run i) in
      (λ j. filled (cells (record_fields (words_at (record_given rs i) (q j) (q j + n j)))))
      ∙ sym (rows_one (first + length (strings (entries_from rs ps run 0 i))) e)

  pub next_rows : (e q r : List ℕ) (i at : ℕ) → at ≡ strings_start rs ps i → record_start i ≤ length e
      → q ≡ put e 16 (rows_bytes first (entries_from rs ps run 0 i))
      → r ≡ replaced q (record_start i) 32 (filled (cells (record_fields (words_at (record_given rs i) at (at + name_width rs ps i)))))
      → r ≡ put e 16 (rows_bytes first (entries_from rs ps run 0 (i + 1)))
  next_rows e q r i at p h s t =
      let es = entries_from rs ps run 0 i in
      let new = entry_given rs ps run i ∷ [] in
      let x = rows_bytes first es in
      let y = rows_bytes (first + length (strings es)) new in
      let f : record_start i ≡ 16 + length x = omega (arith, length_rows first es, length_entries rs ps run 0 i) in
      let k : r ≡ put q (record_start i) y = stored q r y (record_start i) 32 (length_rows (first + length (strings es)) new) (t ∙ ap (replaced q (record_start i) 32) (row_given i at p)) in
      put_then e q r x y 16 (record_start i) f h s k
      ∙ ap (put e 16) (sym (ap (rows_bytes first) (entries_more rs ps run i) ∙ rows_append first es new))

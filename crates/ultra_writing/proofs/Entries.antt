-- A map's numbers, three to an entry, are its entries' fields.
use Prim.Native.Nat.{ℕ, ◌+◌, ◌*◌, ◌/◌, ◌%◌, ◌<◌}
use mathlib.Core.Path.{◌≡◌, refl, sym, ap, ap₂, ◌∙◌}
use mathlib.Core.List.{List, [], ◌∷◌, ◌++◌, append_assoc}
use native.Mathlib.Omega.{arith}
use native.Mathlib.Numerals.{add-one}
use lib.ListN.{length, take, get_or}
use lib.Seq.{take-suc}
use Rattle.words.specs.Words.{little_endian, replaced, numbers_in, numbers_bytes}
use Rattle.words.proofs.Numbers.{length_numbers, bytes_back}
use Rattle.byte_layout.specs.Fields.{Field, field_cells, cells, width, filled}
use Rattle.byte_layout.specs.Fields.{Field.number}
use Rattle.byte_layout.specs.Stored.{Bytes, over}
use Rattle.byte_layout.proofs.Cells.{length_filled}
use Rattle.byte_layout.proofs.FieldLaws.{length_cells}
use Rattle.byte_layout.proofs.Written.{Front, next, more, field_written_law, filled_append}
use Rattle.ultra_format.specs.Layouts.{entries_fields}
use Rattle.ultra_format.specs.Plain.{written_size}
use Rattle.ultra_format.specs.Additions.{entries_given, body_given, size_given, map_of, new_bytes}
use Rattle.ultra_format.specs.Additions.{Addition.add_map}
use Rattle.ultra_writing.specs.Leading.{header_fields}

abbrev pub numbers_fields : List ℕ → List Field
numbers_fields [] = []
numbers_fields (n ∷ ns) = number 8 n ∷ numbers_fields ns

pub entries_numbers : (ns : List ℕ) → length ns % 3 ≡ 0 → entries_fields (entries_given ns) ≡ numbers_fields ns
unfolding entries_fields entries_given
entries_numbers [] h = refl
entries_numbers (a ∷ []) h = absurd (omega arith)
entries_numbers (a ∷ s ∷ []) h = absurd (omega arith)
entries_numbers (a ∷ s ∷ t ∷ ns) h = ap (λ (fs : List Field). number 8 a ∷ number 8 s ∷ number 8 t ∷ fs) (entries_numbers ns (omega arith))

entries_count : (ns : List ℕ) → length (entries_given ns) ≡ length ns / 3
unfolding entries_given
entries_count [] = refl
entries_count (a ∷ []) = omega arith
entries_count (a ∷ s ∷ []) = omega arith
entries_count (a ∷ s ∷ t ∷ ns) = omega (arith, entries_count ns)

pub map_size_law : (ns : List ℕ) → size_given (add_map ns) ≡ 8 + 24 * (length ns / 3)
unfolding body_given written_size
map_size_law ns = omega (arith, entries_count ns)

numbers_append : (xs ys : List ℕ) → numbers_fields (xs ++ ys) ≡ numbers_fields xs ++ numbers_fields ys
numbers_append [] ys = refl
numbers_append (x ∷ xs) ys = ap (λ (fs : List Field). number 8 x ∷ fs) (numbers_append xs ys)

-- one number more after the first i
pub number_more : {e q r : List ℕ} (fs : List Field) (ns : List ℕ) (i : ℕ) → i < length ns
    → Front e (8 + 8 * i) (fs ++ numbers_fields (take i ns)) q → r ≡ replaced q (8 + 8 * i) 8 (little_endian 8 (get_or ns i 0))
    → Front e (8 + 8 * (i + 1)) (fs ++ numbers_fields (take (i + 1) ns)) r
number_more fs ns i h t s =
    let x = get_or ns i 0 in
    let o : 8 + 8 * (i + 1) ≡ 8 + 8 * i + 8 = omega arith in
    let l : take (i + 1) ns ≡ take i ns ++ (x ∷ []) = rw add-one (take-suc ns i 0 h) in
    let z : fs ++ numbers_fields (take (i + 1) ns) ≡ (fs ++ numbers_fields (take i ns)) ++ (number 8 x ∷ []) =
    rw (l, numbers_append (take i ns) (x ∷ [])) (sym (append_assoc fs (numbers_fields (take i ns)) (number 8 x ∷ []))) in
    rw (o, z) (next (number 8 x) t s)

-- ---- a map as bytes
numbers_written : (ns : List ℕ) → filled (cells (numbers_fields ns)) ≡ numbers_bytes ns
unfolding cells filled numbers_bytes
numbers_written [] = refl
numbers_written (n ∷ ns) =
    filled_append (field_cells (number 8 n)) (cells (numbers_fields ns)) ∙ ap₂ (λ (l m : List ℕ). l ++ m) (field_written_law (number 8 n)) (numbers_written ns)

module _ (b : List ℕ) (h : length b % 24 ≡ 0) where
  bytes_size : written_size (map_of b) ≡ 8 + length b
  unfolding body_given
  bytes_size = omega (arith, map_size_law (numbers_in b), length_numbers b 0 (length b / 8))

  -- bytes stored after the header are the entries' fields
  pub bytes_stored : {e q r : List ℕ} → Bytes b → Front e 8 (header_fields 3 (8 + length b)) q → r ≡ replaced q 8 (length b) b → r ≡ over (new_bytes (map_of b)) e
  bytes_stored {e} {q} {r} y t s =
      let ns = numbers_in b in
      let fs = entries_fields (entries_given ns) in
      let n : length ns % 3 ≡ 0 = omega (arith, length_numbers b 0 (length b / 8)) in
      let w : filled (cells fs) ≡ b = ap (λ (gs : List Field). filled (cells gs)) (entries_numbers ns n) ∙ numbers_written ns ∙ bytes_back b y (omega arith) in
      let k : width fs ≡ length b = sym (length_cells fs) ∙ sym (length_filled (cells fs)) ∙ ap length w in
      let f : r ≡ replaced q 8 (length b) (filled (cells fs)) = rw w s in
      rw bytes_size (more fs k t f).front

-- Laws of the lines of attributes, as the writers meet them.
use Prim.Native.Nat.{ℕ, zero, suc, ◌+◌, ◌-◌, ◌*◌, ◌≤◌, ◌<◌}
use mathlib.Core.Path.{◌≡◌, refl, sym, ap}
use mathlib.Core.List.{List, [], ◌∷◌, ◌++◌}
use native.Mathlib.Omega.{arith}
use native.Mathlib.Nat.{add-zero, zero-add}
use native.Mathlib.Numerals.{add-one}
use lib.ListN.{length, get_or}
use Rattle.words.specs.Words.{number_at}
use Rattle.byte_layout.specs.Stored.{bytes_at}
use Rattle.text_output.specs.Output.{State, puts}
use Rattle.key_value_text.specs.Lines.{line_bytes}
use Rattle.key_value_text.specs.LineOutput.{put_lines}
use Rattle.key_value_text.proofs.LinePuts.{lines_append}
use Rattle.ultra_format.specs.Contexts.{Body, Body.other, used}
use Rattle.ultra_format.specs.Decoding.{decoded, entry_at, entries_at, start, stored_type, stored_size, stored_count, stored_attribute, attributes_from, context_of}
use Rattle.ultra_format.proofs.Bodies.{Rowless, by_type}
use Rattle.ultra_format.proofs.Decoded.{count_decoded}
use Rattle.listing_format.specs.Listing.{commas, dotted, range_line, range_lines, body_lines, attributes_lines, context_lines}

-- a number of one byte is the byte
pub byte_number : (b : List ℕ) (o : ℕ) → get_or b o 0 ≡ number_at b o 1
unfolding number_at
byte_number b o = sym (add-zero (get_or b o 0))

-- bytes side by side
bytes_append : (b : List ℕ) (o m n : ℕ) → bytes_at b o (m + n) ≡ bytes_at b o m ++ bytes_at b (o + m) n
unfolding bytes_at
bytes_append b o zero n = rw (zero-add n, add-zero o)
bytes_append b o (suc m) n =
    let q : suc m + n ≡ suc (m + n) = omega arith in
    let r : o + suc m ≡ o + 1 + m = omega arith in
    rw (q, r) (ap (λ (l : List ℕ). get_or b o 0 ∷ l) (bytes_append b (o + 1) m n))

-- the two GUIDs of a kernel
pub guid_bytes : (b : List ℕ) (o : ℕ) → bytes_at b (o + 40) 32 ≡ bytes_at b (o + 40) 16 ++ bytes_at b (o + 56) 16
guid_bytes b o = let q : o + 40 + 16 ≡ o + 56 = omega arith in rw (← q) (bytes_append b (o + 40) 16 16)

pub length_entries : (b : List ℕ) (o n : ℕ) → length (entries_at b o n) ≡ n
unfolding entries_at
length_entries b o zero = refl
length_entries b o (suc n) = ap suc (length_entries b (o + 24) n)

-- ---- the ranges from entry i of n on, as the loop meets them
module _ (b : List ℕ) (o n i : ℕ) where
  pub range_next : (s t : State) → i < n → t ≡ puts s (line_bytes (range_line (entry_at b (o + 24 * i))))
      → put_lines t (range_lines (entries_at b (o + 24 * (i + 1)) (n - (i + 1)))) ≡ put_lines s (range_lines (entries_at b (o + 24 * i) (n - i)))
  unfolding entries_at range_lines
  range_next s t h e =
      let q : n - i ≡ suc (n - (i + 1)) = omega arith in
      let r : o + 24 * i + 24 ≡ o + 24 * (i + 1) = omega arith in
      rw (q, r, e)

  pub range_end : (s : State) → n ≤ i → put_lines s (range_lines (entries_at b (o + 24 * i) (n - i))) ≡ s
  unfolding entries_at range_lines
  range_end s h = let q : n - i ≡ 0 = omega arith in rw q

-- ---- the attributes from attribute i of n on
module _ (b : List ℕ) (n i : ℕ) where
  pub attribute_next : (s t : State) → i < n → t ≡ put_lines s (body_lines (stored_attribute b i).size (stored_attribute b i).body)
      → put_lines t (attributes_lines (attributes_from b (i + 1) (n - (i + 1)))) ≡ put_lines s (attributes_lines (attributes_from b i (n - i)))
  unfolding attributes_from attributes_lines
  attribute_next s t h e =
      let q : n - i ≡ suc (n - (i + 1)) = omega arith in
      rw (q, add-one i, e, lines_append)

  pub attribute_end : (s : State) → n ≤ i → put_lines s (attributes_lines (attributes_from b i (n - i))) ≡ s
  unfolding attributes_from attributes_lines
  attribute_end s h = let q : n - i ≡ 0 = omega arith in rw q

-- attribute i, where its start, size and type are known by another name
module _ (b : List ℕ) (i o s t : ℕ) (e : o ≡ start b i) (f : s ≡ stored_size b i) (g : t ≡ stored_type b i) where
  pub lines_at : body_lines s (decoded b o s t) ≡ body_lines (stored_size b i) (stored_attribute b i).body
  lines_at = rw (e, f, g)

-- ---- a type without a row
pub decoded_other : (b : List ℕ) (o s t : ℕ) → Rowless t → decoded b o s t ≡ other t
decoded_other b o s t (n1, n2, n3, n4, n5, n6) =
    by_type (λ (x : Body). x ≡ other t) b o s t (λ e. absurd (n1 e)) (λ e. absurd (n2 e)) (λ e. absurd (n3 e)) (λ e. absurd (n4 e)) (λ e. absurd (n5 e)) (λ e. absurd (n6 e)) (λ n. refl)

-- ---- the lines of the context that a buffer holds
pub context_lines_law : (b : List ℕ)
    → context_lines (context_of b) ≡ dotted "version" (get_or b 0 0) (get_or b 1 0) ∷ commas "attributes" (stored_count b ∷ []) ∷ (attributes_lines (attributes_from b 0 (stored_count b)) ++ (commas "used" (used (context_of b) ∷ []) ∷ []))
unfolding context_lines context_of
context_lines_law b = rw (count_decoded b)

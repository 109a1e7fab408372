-- How long a listing can be: at most eight bytes for each byte of an attribute.
use Rattle.std.specs.Prelude.{Ok, Err}
use Prim.Native.Nat.{ℕ, zero, suc, ◌+◌, ◌-◌, ◌*◌, ◌/◌, ◌≤◌, ◌<◌}
use mathlib.Core.Path.{◌≡◌, refl, sym}
use mathlib.Core.Bool.{Bool, true, false}
use mathlib.Core.List.{List, [], ◌∷◌, ◌++◌}
use native.Mathlib.Omega.{arith}
use native.Mathlib.Nat.{add-zero, zero-add}
use lib.ListN.{length, get_or, length-append}
use lib.Dec.{eqb}
use Rattle.byte_layout.proofs.Copies.{text_short, length_stored}
use Rattle.text_output.specs.Spelling.{ascii, each}
use Rattle.key_value_text.specs.Lines.{Line, line, Value.hex, lines_bytes}
use Rattle.key_value_text.proofs.Lengths.{line_most, lines_most, lines_short, lines_append}
use Rattle.ultra_format.specs.Contexts.{Member, Member.present, Member.absent, Entry, Body, used}
use Rattle.ultra_format.specs.Members.{size_suits}
use Rattle.ultra_format.specs.Decoding.{pick, platform_at, kernel_at, entries_at, decoded, start, stored_type, stored_size, stored_count, stored_attribute, attributes_from, context_of}
use Rattle.ultra_format.proofs.Bodies.{by_type}
use Rattle.ultra_format.proofs.Sizes.{platform_least, kernel_least, module_least, framebuffer_least, line_least, map_size_law}
use Rattle.refusals.specs.Answers.{Answer}
use Rattle.ultra_reading.specs.Reading.{used_length}
use Rattle.ultra_locating.specs.Passing.{Accepts}
use Rattle.ultra_locating.proofs.Located.{inside}
use Rattle.listing_format.specs.Listing.{commas, dotted, textual, member, guid_lines, range_lines, body_lines, attributes_lines, context_lines, refused_lines, lines_when, lines_of, ListingFits}
use Rattle.listing_format.proofs.LineLaws.{context_lines_law}

member_most : (k : List ℕ) (m : Member) → line_most (member k m) ≤ length k + 23
member_most k (present n) = omega arith
member_most k absent = omega arith

guids_most : (l : List ℕ) (t : Bool) → lines_most (pick t (line (ascii "guids") (hex l) ∷ []) []) ≤ 7 + 2 * length l
guids_most l true = omega arith
guids_most l false = omega arith

ranges_most : (es : List Entry) → lines_most (range_lines es) ≡ 70 * length es
unfolding range_lines
ranges_most [] = refl
ranges_most (e ∷ es) = let r = ranges_most es in omega arith

most_append : (l m : List Line) → lines_most (l ++ m) ≡ lines_most l + lines_most m
most_append [] m = sym (zero-add (lines_most m))
most_append (x ∷ l) m = let r = most_append l m in omega arith

-- ---- one attribute
module _ (b : List ℕ) (o s t : ℕ) (l : 8 ≤ s) (h : size_suits s (decoded b o s t) ≡ true) where
  body_most : lines_most (body_lines s (decoded b o s t)) ≤ 8 * s
  unfolding body_lines
  body_most =
      by_type (λ (x : Body). lines_most (body_lines s x) ≤ 8 * s) b o s t
      (λ e.
      let p = platform_at b o s in
      let g = platform_least b o s t e h in
      omega (
        arith,
        text_short b (o + 16) 32,
        member_most (ascii "half") p.higher_half_base,
        member_most (ascii "depth") p.depth,
        member_most (ascii "dtb") p.dtb,
        member_most (ascii "smbios") p.smbios,
      ))
      (λ e.
      let k = kernel_at b o in
      let g = kernel_least b o s t e h in
      omega (
        arith,
        text_short b (o + 80) 256,
        most_append (guid_lines k) (textual "path" k.path ∷ []),
        guids_most (k.disk_guid ++ k.partition_guid) (eqb k.partition_type 3),
        length-append k.disk_guid k.partition_guid,
        length_stored b (o + 40) 16,
        length_stored b (o + 56) 16,
      ))
      (λ e.
      let g = map_size_law b o s t e h in
      let r = ranges_most (entries_at b (o + 8) ((s - 8) / 24)) in
      omega arith)
      (λ e. let g = module_least b o s t e h in omega (arith, text_short b (o + 16) 64))
      (λ e. let g = line_least b o s t e h in omega (arith, text_short b (o + 8) (s - 8)))
      (λ e. let g = framebuffer_least b o s t e h in omega arith)
      (λ n. omega arith)

-- ---- the attributes of an accepted buffer
module _ (b : List ℕ) (a : Accepts b) where
  attribute_most : (i : ℕ) → i < stored_count b → length (lines_bytes (body_lines (stored_size b i) (stored_attribute b i).body)) ≤ 8 * stored_size b i
  attribute_most i h =
      let k = inside b a i h in
      omega (arith, lines_short (body_lines (stored_size b i) (stored_attribute b i).body), body_most b (start b i) (stored_size b i) (stored_type b i) k.least k.suits)

  -- n of them from attribute i on
  attributes_most : (i n : ℕ) → i + n ≤ stored_count b → length (lines_bytes (attributes_lines (attributes_from b i n))) + 8 * start b i ≤ 8 * start b (i + n)
  unfolding attributes_from attributes_lines start each
  attributes_most i zero h = rw (add-zero i) (omega arith)
  attributes_most i (suc n) h =
      let q : i + suc n ≡ suc i + n = omega arith in
      let r = attributes_most (suc i) n (omega arith) in
      rw (q, lines_append (body_lines (stored_size b i) (stored_attribute b i).body) (attributes_lines (attributes_from b (suc i) n)))
      (omega (arith, attribute_most i (omega arith)))

  -- where they end
  end_most : (n : ℕ) → n ≡ stored_count b → start b n ≤ 65536
  unfolding start
  end_most zero e = omega arith
  end_most (suc i) e = omega (arith, (inside b a i (omega arith)).small)

  context_most : length (lines_bytes (context_lines (context_of b))) ≤ 524352
  unfolding start
  context_most =
      let n = stored_count b in
      let z : 0 + n ≡ n = zero-add n in
      let h : List Line = dotted "version" (get_or b 0 0) (get_or b 1 0) ∷ commas "attributes" (n ∷ []) ∷ [] in
      let m : List Line = attributes_lines (attributes_from b 0 n) in
      let u : List Line = commas "used" (used (context_of b) ∷ []) ∷ [] in
      rw (context_lines_law b)
      (omega (
        arith,
        lines_append h (m ++ u),
        lines_append m u,
        lines_short h,
        lines_short u,
        rw z at (attributes_most 0 n (omega arith)),
        end_most n refl,
      ))

-- ---- every buffer
by_answer : (b : List ℕ) (r : Answer) → used_length 2 b ≡ r → length (lines_bytes (lines_when (context_of b) r)) ≤ 524352
by_answer b (Ok n) e = context_most b (n, e)
by_answer b (Err r) e = omega (arith, lines_short (refused_lines r))

pub listing_fits : ListingFits
unfolding lines_of
listing_fits b = by_answer b (used_length 2 b) refl

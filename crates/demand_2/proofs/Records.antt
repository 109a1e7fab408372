-- An attribute's body and the addition that gives it: what the attribute question answers of a body is that addition, which is of its
-- types and breaks no rule where the body meets the rules and is written in its own size.
use Prim.Native.Nat.{ℕ, zero, suc, ◌-◌, ◌*◌, ◌/◌, ◌%◌, ◌<◌}
use mathlib.Core.Path.{◌≡◌, refl, ap, ◌∙◌}
use mathlib.Core.Bool.{true}
use mathlib.Core.List.{List, [], ◌∷◌}
use native.Mathlib.Omega.{arith}
use lib.ListN.{length, get_or}
use borrow.Author.Tests.{eqb-true, eq-eqb}
use Rattle.byte_layout.specs.Fields.{padded, FieldFits, Fits, cells, filled}
use Rattle.byte_layout.specs.Fields.{Field.text, Field.padding}
use Rattle.byte_layout.specs.Stored.{Bytes}
use Rattle.byte_layout.proofs.FieldLaws.{length_padded, fits_front}
use Rattle.ultra_format.specs.Contexts.{Member, Entry, Body, type_of}
use Rattle.ultra_format.specs.Contexts.{Member.present, Member.absent, Body.platform, Body.kernel, Body.memory_map, Body.module_info, Body.command_line, Body.framebuffer, Body.other}
use Rattle.ultra_format.specs.Layouts.{member_fields, depth_fields, entries_fields, body_fields}
use Rattle.ultra_format.specs.Rules.{TypeSuits, AttributeMeets}
use Rattle.ultra_format.specs.Plain.{written_size}
use Rattle.ultra_format.specs.Records.{optional, records_of}
use Rattle.ultra_format.specs.Members.{body_check}
use Rattle.ultra_format.specs.Additions.{Addition, entries_given, body_given, formed, addition_check, given_check}
use Rattle.ultra_format.specs.Additions.{Addition.add_platform, Addition.add_kernel, Addition.add_map, Addition.add_module, Addition.add_command_line, Addition.add_framebuffer}
use Rattle.refusals.proofs.Chains.{passed}
use Rattle.ultra_format.proofs.Bodies.{late_fields, entries_written, length_written}
use Rattle.ultra_format.proofs.Attributes.{attribute}
use Rattle.ultra_format.proofs.Given.{platform_given_law, kernel_given_law, module_given_law, platform_back, kernel_back, module_back}
use Rattle.ultra_acceptance.proofs.Walked.{body_passes}
use Rattle.ultra_questions.specs.Parts.{part_bytes}
use Rattle.ultra_questions.specs.AttributeQuestion.{answered}
use Rattle.words.specs.Words.{numbers_at}
use Rattle.ultra_map_question.specs.MapQuestion.{numbers}
use Rattle.ultra_map_question.proofs.MapLaws.{numbers_stored}
use Rattle.demand_2.specs.Arguments.{WideTyped, NarrowTyped, NumbersTyped, ArrayTyped, AdditionTyped}
use Rattle.demand_2.specs.Model.{giving}
use Rattle.demand_2.specs.Demand2.{record_back}

-- ---- the numbers of a map
length_numbers : (es : List Entry) → length (numbers es) ≡ 3 * length es
unfolding numbers
length_numbers [] = refl
length_numbers (e ∷ es) = let r = length_numbers es in omega arith

pub numbers_given : (es : List Entry) → entries_given (numbers es) ≡ es
unfolding numbers entries_given
numbers_given [] = refl
numbers_given (e ∷ es) = ap (λ (l : List Entry). e ∷ l) (numbers_given es)

numbers_back : (ns : List ℕ) → length ns % 3 ≡ 0 → numbers (entries_given ns) ≡ ns
unfolding numbers entries_given
numbers_back [] h = refl
numbers_back (a ∷ []) h = absurd (omega arith)
numbers_back (a ∷ s ∷ []) h = absurd (omega arith)
numbers_back (a ∷ s ∷ t ∷ ns) h = ap (λ (l : List ℕ). a ∷ s ∷ t ∷ l) (numbers_back ns (omega arith))

numbers_written : (es : List Entry) → Fits (entries_fields es) → let w = filled (cells (entries_fields es)) in numbers_at w 0 (length w / 8) ≡ numbers es
numbers_written es f =
    let w = filled (cells (entries_fields es)) in
    let n : length w / 8 ≡ 3 * length es = omega (arith, length_written es) in
    ap (numbers_at w 0) n ∙ numbers_stored w 0 (length es) ∙ ap numbers (entries_written es f)

-- ---- back and forth
pub record_answered_law : (o s : ℕ) (x : Body) → TypeSuits x → type_of x < 7 → Fits (body_fields s x) → record_back (answered o (attribute s x)) (part_bytes x) ≡ giving x ∷ []
unfolding record_back giving records_of part_bytes
record_answered_law o s (platform p) u h f = refl
record_answered_law o s (kernel k) u h f = refl
record_answered_law o s (memory_map es) u h f = ap (λ (l : List ℕ). add_map l ∷ []) (numbers_written es f)
record_answered_law o s (module_info m) u h f = refl
record_answered_law o s (command_line t) u h f = refl
record_answered_law o s (framebuffer b) u h f = refl
record_answered_law o s (other t) u h f = absurd (omega arith)

pub giving_body : (s : ℕ) (x : Body) → TypeSuits x → type_of x < 7 → Fits (body_fields s x) → body_given (giving x) ≡ x
unfolding giving body_given Fits
giving_body s (platform p) u h f = ap platform (platform_given_law p f.1.1.1.0)
giving_body s (kernel k) u h f = ap kernel (kernel_given_law k f.1.1.1.1.1.1.1.1.0)
giving_body s (memory_map es) u h f = ap memory_map (numbers_given es)
giving_body s (module_info m) u h f = ap module_info (module_given_law m f.1.1.0)
giving_body s (command_line t) u h f = refl
giving_body s (framebuffer b) u h f = refl
giving_body s (other t) u h f = absurd (omega arith)

pub giving_given : (g : Addition) → AdditionTyped g → addition_check g ≡ 0 → giving (body_given g) ≡ g
unfolding giving body_given given_check
giving_given (add_platform r) t e = ap add_platform (platform_back r t.name.0)
giving_given (add_kernel r) t e = ap add_kernel (kernel_back r t.path.0)
giving_given (add_map ns) t e = ap add_map (numbers_back ns (eqb-true (length ns % 3) 0 (passed (formed (add_map ns)) _ _ e).0))
giving_given (add_module r) t e = ap add_module (module_back r t.name.0)
giving_given (add_command_line l) t e = refl
giving_given (add_framebuffer r) t e = refl

-- ---- the addition is of its types
all_bytes : (l : List ℕ) → ((i : ℕ) → i < length l → get_or l i 0 < 256) → Bytes l
all_bytes [] h i = omega arith
all_bytes (x ∷ l) h zero = h 0 (omega arith)
all_bytes (x ∷ l) h (suc i) = all_bytes l (λ j k. h (suc j) (omega arith)) i

padded_bytes : (k : ℕ) (l : List ℕ) → Bytes l → Bytes (padded k l)
padded_bytes zero l y i = omega arith
padded_bytes (suc k) [] y zero = omega arith
padded_bytes (suc k) [] y (suc i) = padded_bytes k [] y i
padded_bytes (suc k) (x ∷ l) y zero = y 0
padded_bytes (suc k) (x ∷ l) y (suc i) = padded_bytes k l (λ j. y (suc j)) i

text_bytes : (k : ℕ) (t : List ℕ) → FieldFits (text k t) → Bytes t
text_bytes k t f = all_bytes t (λ i h. (f.1 i h).1)

text_array : (k : ℕ) (t : List ℕ) → FieldFits (text k t) → ArrayTyped k (padded k t)
text_array k t f = (length_padded k t, padded_bytes k t (text_bytes k t f))

wide_typed : (m : Member) → Fits (member_fields 8 m) → WideTyped (optional m)
unfolding Fits
wide_typed (present n) f = f.0
wide_typed absent f = tt

narrow_typed : (m : Member) → Fits (depth_fields m) → NarrowTyped (optional m)
unfolding Fits
narrow_typed (present n) f = f.0
narrow_typed absent f = tt

late_split : (s : ℕ) (half depth dtb smbios : Member) → Fits (late_fields s half depth dtb smbios)
    → Fits (member_fields 8 half) × Fits (depth_fields depth) × Fits (member_fields 8 dtb) × Fits (member_fields 8 smbios)
late_split s half depth dtb smbios f =
    let l = fits_front _ (padding (s - 88) ∷ []) f in
    let m = fits_front _ (member_fields 8 smbios) l.0 in
    let t = fits_front _ (member_fields 8 dtb) m.0 in
    let d = fits_front (member_fields 8 half) (depth_fields depth) t.0 in
    (d.0, d.1, t.1, m.1)

numbers_typed : (es : List Entry) → Fits (entries_fields es) → NumbersTyped (numbers es)
unfolding Fits entries_fields numbers
numbers_typed [] f = tt
numbers_typed (e ∷ es) f = (f.0, (f.1.0, (f.1.1.0, numbers_typed es f.1.1.1)))

pub giving_typed : (s : ℕ) (x : Body) → Fits (body_fields s x) → AdditionTyped (giving x)
unfolding giving Fits
giving_typed s (platform p) f =
    let l = late_split s p.higher_half_base p.depth p.dtb p.smbios f.1.1.1.1.1 in
    record {
      kind = f.0;
      loader_major = f.1.0;
      loader_minor = f.1.1.0;
      name = text_array 32 p.name f.1.1.1.0;
      rsdp = f.1.1.1.1.0;
      higher_half_base = wide_typed p.higher_half_base l.0;
      depth = narrow_typed p.depth l.1;
      dtb = wide_typed p.dtb l.2;
      smbios = wide_typed p.smbios l.3;
    }
giving_typed s (kernel k) f =
    let g = f.1.1.1.1 in
    record {
      physical_base = f.0;
      virtual_base = f.1.0;
      size = f.1.1.0;
      partition_type = f.1.1.1.0;
      disk_guid = raw_array 16 k.disk_guid g.0;
      partition_guid = raw_array 16 k.partition_guid g.1.0;
      disk_index = g.1.1.0;
      partition_index = g.1.1.1.0;
      path = text_array 256 k.path g.1.1.1.1.0;
    }
  where
    raw_array : (n : ℕ) (l : List ℕ) → (length l ≡ n) × ((i : ℕ) → i < n → get_or l i 0 < 256) → ArrayTyped n l
    raw_array n l r = (r.0, all_bytes l (λ i h. r.1 i (omega (arith, r.0))))
giving_typed s (memory_map es) f = numbers_typed es f
giving_typed s (module_info m) f = record { kind = f.1.0; name = text_array 64 m.name f.1.1.0; address = f.1.1.1.0; size = f.1.1.1.1.0 }
giving_typed s (command_line t) f = text_bytes _ t f.0
giving_typed s (framebuffer b) f =
    record { width = f.0; height = f.1.0; pitch = f.1.1.0; bpp = f.1.1.1.0; format = f.1.1.1.1.0; address = f.1.1.1.1.1.0 }
giving_typed s (other t) f = λ i. omega arith

-- ---- and breaks no rule
pub giving_formed : (x : Body) → formed (giving x) ≡ true
unfolding giving
giving_formed (platform p) = refl
giving_formed (kernel k) = refl
giving_formed (memory_map es) = eq-eqb (length (numbers es) % 3) 0 (omega (arith, length_numbers es))
giving_formed (module_info m) = refl
giving_formed (command_line t) = refl
giving_formed (framebuffer f) = refl
giving_formed (other t) = refl

pub giving_clear : (s : ℕ) (x : Body) → AttributeMeets s x → s ≡ written_size x → body_given (giving x) ≡ x → addition_check (giving x) ≡ 0
unfolding given_check body_check
giving_clear s x m z e =
    let q = body_passes s x (record { suits = m.suits; values_hold = m.values_hold; texts_hold = m.texts_hold; ranges_hold = m.ranges_hold; in_order = m.in_order }) in
    rw (giving_formed x, e, ← z) q

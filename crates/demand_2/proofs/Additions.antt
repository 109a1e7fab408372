-- What an add is given becomes an attribute that meets the rules and fits its fields, where it breaks none of 12 to 16.
use Rattle.std.specs.Prelude.{Option, Some, None}
use Prim.Native.Nat.{ℕ, zero, suc, ◌-◌, ◌≤◌, ◌<◌, ◌%◌}
use mathlib.Core.Path.{◌≡◌, refl, ◌∙◌}
use mathlib.Core.Bool.{Bool, true, ◌&&◌}
use mathlib.Core.List.{List, [], ◌∷◌}
use native.Mathlib.Omega.{arith}
use native.Mathlib.Nat.{not-suc-le-zero, le_of_suc-le-suc}
use lib.ListN.{length, get_or}
use lib.Dec.{ltb, eqb}
use borrow.Author.Tests.{ltb-true, eqb-false, not-true}
use Rattle.byte_layout.specs.Fields.{FieldFits, Fits, width}
use Rattle.byte_layout.specs.Fields.{Field.raw, Field.text, Field.padding}
use Rattle.byte_layout.specs.Stored.{Bytes}
use Rattle.ultra_format.specs.Layouts.{member_fields, depth_fields, entries_fields, body_fields, attribute_fields}
use Rattle.ultra_format.specs.Members.{every, nonzero, ascii, ascii_text, path_text, texts}
use Rattle.ultra_format.specs.Rules.{TypeSuits, AttributeMeets}
use Rattle.ultra_format.specs.Records.{member_of, unless_trailing, trimmed}
use Rattle.ultra_format.specs.Additions.{Addition, entries_given, body_given, type_given, size_given, attribute_given, addition_check, bytes_given, formed}
use Rattle.ultra_format.specs.Additions.{Addition.add_platform, Addition.add_kernel, Addition.add_map, Addition.add_module, Addition.add_command_line, Addition.add_framebuffer}
use Rattle.ultra_format.specs.declared.records.PlatformRecord.{PlatformRecord}
use Rattle.refusals.proofs.Chains.{both_hold}
use Rattle.ultra_format.proofs.Bodies.{late_fields}
use Rattle.ultra_adding.proofs.Adding.{given_holds}
use Rattle.ultra_format.specs.Plain.{written_size}
use Rattle.ultra_format.proofs.Attributes.{width_attribute}
use Rattle.byte_layout.proofs.Cells.{length_filled}
use Rattle.byte_layout.proofs.FieldLaws.{length_cells, fits_append}
use Rattle.demand_2.specs.Arguments.{WideTyped, NarrowTyped, ArrayTyped, PlatformTyped, NumbersTyped, AdditionTyped}

-- ---- texts
-- a test that every byte passes says of it that it is no zero; that it is a byte is said by the test or the type
letters : (p : ℕ → Bool) (t : List ℕ) → every p t ≡ true → ((x : ℕ) → p x ≡ true → 0 < x) → (i : ℕ) → i < length t → 0 < get_or t i 0
unfolding every
letters p [] e f i h = absurd (not-suc-le-zero h)
letters p (x ∷ t) e f zero h = f x (both_hold (p x) (every p t) e).0
letters p (x ∷ t) e f (suc i) h = letters p t (both_hold (p x) (every p t) e).1 f i (le_of_suc-le-suc h)

positive : (x : ℕ) → nonzero x ≡ true → 0 < x
positive x e = let n = eqb-false x 0 (not-true _ e) in omega arith

pub ascii_fits : (k : ℕ) (t : List ℕ) → Bytes t → ascii_text k t ≡ true → FieldFits (text k t)
unfolding ascii_text
ascii_fits k t y e =
    let p = both_hold (ltb (length t) k) _ e in
    (omega (arith, ltb-true (length t) k p.0), λ i h. (letters ascii t p.1 (λ x q. ltb-true 0 x (both_hold (ltb 0 x) _ q).0) i h, y i))

pub path_fits : (k : ℕ) (t : List ℕ) → Bytes t → path_text k t ≡ true → FieldFits (text k t)
unfolding path_text
path_fits k t y e =
    let p = both_hold (ltb (length t) k && eqb (get_or t 0 0) 47) _ e in
    (omega (arith, ltb-true (length t) k (both_hold (ltb (length t) k) _ p.0).0), λ i h. (letters nonzero t p.1 positive i h, y i))

-- the bytes of an array are those of its text
kept : (x : ℕ) (l : List ℕ) → x < 256 → Bytes l → Bytes (unless_trailing x l)
kept zero [] h y i = omega arith
kept zero (x ∷ l) h y zero = omega arith
kept zero (x ∷ l) h y (suc i) = y i
kept (suc x) l h y zero = h
kept (suc x) l h y (suc i) = y i

trimmed_bytes : (l : List ℕ) → Bytes l → Bytes (trimmed l)
unfolding trimmed
trimmed_bytes [] y = y
trimmed_bytes (x ∷ l) y = kept x (trimmed l) (y 0) (trimmed_bytes l (λ i. y (suc i)))

-- ---- arrays, members and entries
array_fits : (k : ℕ) (l : List ℕ) → ArrayTyped k l → FieldFits (raw k l)
array_fits k l y = (y.0, λ i h. y.1 i)

wide_fits : (o : Option ℕ) → WideTyped o → Fits (member_fields 8 (member_of o))
unfolding Fits
wide_fits (Some n) y = (y, tt)
wide_fits None y = tt

depth_fits : (o : Option ℕ) → NarrowTyped o → Fits (depth_fields (member_of o))
unfolding Fits
depth_fits (Some n) y = (y, (tt, tt))
depth_fits None y = tt

padding_fits : (k : ℕ) → Fits (padding k ∷ [])
unfolding Fits
padding_fits k = (tt, tt)

late_fits : (s : ℕ) (r : PlatformRecord) → PlatformTyped r
    → Fits (late_fields s (member_of r.higher_half_base) (member_of r.depth) (member_of r.dtb) (member_of r.smbios))
late_fits s r y =
    fits_append _ _ (fits_append _ _ (fits_append _ _ (fits_append _ _ (wide_fits r.higher_half_base y.higher_half_base) (depth_fits r.depth y.depth))
    (wide_fits r.dtb y.dtb)) (wide_fits r.smbios y.smbios)) (padding_fits (s - 88))

pub entries_fit : (ns : List ℕ) → NumbersTyped ns → Fits (entries_fields (entries_given ns))
unfolding Fits entries_fields entries_given
entries_fit [] y = tt
entries_fit (a ∷ []) y = tt
entries_fit (a ∷ s ∷ []) y = tt
entries_fit (a ∷ s ∷ t ∷ ns) y = (y.0, (y.1.0, (y.1.1.0, entries_fit ns y.1.1.1)))

-- ---- the body
given_fits : (g : Addition) → AdditionTyped g → texts (size_given g) (body_given g) ≡ true → Fits (body_fields (size_given g) (body_given g))
unfolding Fits body_given texts
given_fits (add_platform r) y e =
    (y.kind, (y.loader_major, (y.loader_minor, (ascii_fits 32 (trimmed r.name) (trimmed_bytes _ y.name.1) e, (y.rsdp, late_fits (size_given (add_platform r)) r y)))))
given_fits (add_kernel r) y e =
    let p = path_fits 256 (trimmed r.path) (trimmed_bytes _ y.path.1) e in
    let u = array_fits 16 r.disk_guid y.disk_guid in
    let v = array_fits 16 r.partition_guid y.partition_guid in
    (y.physical_base, (y.virtual_base, (y.size, (y.partition_type, (u, (v, (y.disk_index, (y.partition_index, (p, (tt, tt))))))))))
given_fits (add_map ns) y e = entries_fit ns y
given_fits (add_module r) y e =
    (tt, (y.kind, (ascii_fits 64 (trimmed r.name) (trimmed_bytes _ y.name.1) e, (y.address, (y.size, (tt, tt))))))
given_fits (add_command_line t) y e = (ascii_fits (size_given (add_command_line t) - 8) t y e, tt)
given_fits (add_framebuffer r) y e = (y.width, (y.height, (y.pitch, (y.bpp, (y.format, (y.address, (tt, tt)))))))

-- "sizes as written" are multiples of 8
written_size_law : (g : Addition) → (size_given g % 8 ≡ 0) × (8 ≤ size_given g)
unfolding body_given written_size
written_size_law (add_platform r) = (refl, omega arith)
written_size_law (add_kernel r) = (refl, omega arith)
written_size_law (add_map ns) = (omega arith, omega arith)
written_size_law (add_module r) = (refl, omega arith)
written_size_law (add_command_line t) = (omega arith, omega arith)
written_size_law (add_framebuffer r) = (refl, omega arith)

-- every type that is added has a row in the table
pub given_type : (g : Addition) → TypeSuits (body_given g) × (0 < type_given g) × (type_given g < 7)
unfolding body_given
given_type (add_platform r) = (tt, omega arith, omega arith)
given_type (add_kernel r) = (tt, omega arith, omega arith)
given_type (add_map ns) = (tt, omega arith, omega arith)
given_type (add_module r) = (tt, omega arith, omega arith)
given_type (add_command_line t) = (tt, omega arith, omega arith)
given_type (add_framebuffer r) = (tt, omega arith, omega arith)

-- ---- the attribute
module _ (g : Addition) (e : addition_check g ≡ 0) where
  pub given_meets : AttributeMeets (size_given g) (body_given g)
  given_meets =
      let s = written_size_law g in
      let d = (given_holds (formed g) (body_given g) e).1 in
      record {
        eights = s.0;
        least = s.1;
        type_suits = (given_type g).0;
        suits = d.suits;
        values_hold = d.values_hold;
        texts_hold = d.texts_hold;
        ranges_hold = d.ranges_hold;
        in_order = d.in_order;
      }

  pub given_width : width (attribute_fields (attribute_given g)) ≡ size_given g
  given_width = let m = given_meets in width_attribute _ _ m.least m.eights m.suits

  pub given_length : length (bytes_given g) ≡ size_given g
  given_length = length_filled _ ∙ length_cells (attribute_fields (attribute_given g)) ∙ given_width

  pub attribute_fits : AdditionTyped g → size_given g ≤ 65536 → Fits (attribute_fields (attribute_given g))
  unfolding Fits
  attribute_fits y h = (omega (arith, given_type g), (omega arith, given_fits g y given_meets.texts_hold))

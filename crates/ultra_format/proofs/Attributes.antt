-- Layout and decoding agree on attributes in a row, each as wide as its size.
use Prim.Native.Nat.{ℕ, zero, suc, ◌+◌, ◌%◌, ◌≤◌, ◌<◌}
use mathlib.Core.Path.{◌≡◌, refl, sym, subst, ap₂, ◌∙◌}
use mathlib.Core.Bool.{true}
use mathlib.Core.List.{List, [], ◌∷◌}
use native.Mathlib.Omega.{arith}
use native.Mathlib.Nat.{not-suc-le-zero, le_of_suc-le-suc, add-zero}
use lib.ListN.{length, get_or, take}
use lib.Dec.{leb}
use borrow.Author.Tests.{leb-true, leb-false}
use Rattle.words.specs.Words.{number_at, u32_at}
use Rattle.byte_layout.specs.Fields.{cells, width, Fits}
use Rattle.byte_layout.specs.Stored.{Bytes}
use Rattle.byte_layout.proofs.Cells.{opens_at, at_opens}
use Rattle.byte_layout.proofs.FieldLaws.{Holds, shift, holds_front, holds_append, holds_fit, from_cells, to_cells, length_cells, fits_front, width_append}
use Rattle.ultra_format.specs.Contexts.{Member, Body, type_of, Attribute, Context, count, size_at, body_at, total, start_in, used}
use Rattle.ultra_format.specs.Contexts.{Body.platform, Body.kernel, Body.memory_map, Body.module_info, Body.command_line, Body.framebuffer, Body.other}
use Rattle.ultra_format.specs.Layouts.{body_fields, attribute_fields, attributes_fields, layout, Opens}
use Rattle.ultra_format.specs.Members.{size_suits}
use Rattle.ultra_format.specs.Rules.{Meets}
use Rattle.ultra_format.proofs.Bodies.{LateSuit, Late, Late.none, Late.to_half, Late.to_depth, Late.to_dtb, Late.to_smbios, late, late_suits, shown, hidden, late_fields, width_entries, map_size_law}

-- ---- one attribute
abbrev pub attribute : ℕ → Body → Attribute
attribute s x = record { size = s; body = x }

late_width : (s : ℕ) (half depth dtb smbios : Member) → 56 ≤ s → s % 8 ≡ 0 → Late half depth dtb smbios → LateSuit s half depth dtb smbios
    → 56 + width (late_fields s half depth dtb smbios) ≡ s
unfolding width
late_width s h d t m l e none q = omega (arith, leb-false 64 s (hidden (leb 64 s) q.0))
late_width s h d t m l e to_half q = omega (arith, leb-true 64 s (shown (leb 64 s) _ q.0), leb-false 65 s (hidden (leb 65 s) q.1))
late_width s h d t m l e to_depth q = omega (arith, leb-true 65 s (shown (leb 65 s) _ q.1), leb-false 80 s (hidden (leb 80 s) q.2))
late_width s h d t m l e to_dtb q = omega (arith, leb-true 80 s (shown (leb 80 s) _ q.2), leb-false 88 s (hidden (leb 88 s) q.3))
late_width s h d t m l e to_smbios q = omega (arith, leb-true 88 s (shown (leb 88 s) _ q.3))

pub width_attribute : (s : ℕ) (x : Body) → 8 ≤ s → s % 8 ≡ 0 → size_suits s x ≡ true → width (attribute_fields (attribute s x)) ≡ s
unfolding width size_suits
width_attribute s (platform p) l e q =
    let h = late_suits s p q in
    let w = late_width s p.higher_half_base p.depth p.dtb p.smbios h.0 e (late s _ _ _ _ h.1) h.1 in
    omega arith
width_attribute s (kernel k) l e q = omega (arith, leb-true 336 s q)
width_attribute s (memory_map es) l e q = omega (arith, width_entries es, map_size_law s es q)
width_attribute s (module_info m) l e q = omega (arith, leb-true 96 s q)
width_attribute s (command_line t) l e q = omega arith
width_attribute s (framebuffer f) l e q = omega (arith, leb-true 32 s q)
width_attribute s (other t) l e q = omega arith

-- ---- attributes in a row
abbrev pub at : List Attribute → ℕ → Attribute
at l i = get_or l i (attribute 0 (other 0))

abbrev pub Sized : List Attribute → Type 0
Sized l = (i : ℕ) → i < length l → width (attribute_fields (at l i)) ≡ (at l i).size

pub width_attributes : (l : List Attribute) → Sized l → width (attributes_fields l) ≡ total l
unfolding attributes_fields total width
width_attributes [] z = refl
width_attributes (a ∷ l) z =
    width_append (attribute_fields a) (attributes_fields l)
    ∙ ap₂ (λ (x y : ℕ). x + y) (z 0 (omega arith)) (width_attributes l (λ i h. z (suc i) (omega arith)))

each_fits : (l : List Attribute) → Fits (attributes_fields l) → (i : ℕ) → i < length l → Fits (attribute_fields (at l i))
unfolding attributes_fields
each_fits [] f i h = absurd (not-suc-le-zero h)
each_fits (a ∷ l) f zero h = (fits_front (attribute_fields a) (attributes_fields l) f).0
each_fits (a ∷ l) f (suc i) h = each_fits l (fits_front (attribute_fields a) (attributes_fields l) f).1 i (le_of_suc-le-suc h)

module _ (b : List ℕ) where
  each : (l : List Attribute) (o j : ℕ) → Sized l → Holds b o j (attributes_fields l)
      → (i : ℕ) → i < length l → Holds b (o + j + total (take i l)) 0 (attribute_fields (at l i))
  unfolding attributes_fields total
  each [] o j z h i k = absurd (not-suc-le-zero k)
  each (a ∷ l) o j z h zero k =
      shift b o j (o + j + 0) 0 (attribute_fields a) (omega arith) (holds_front b o j (j + a.size) (attribute_fields a) (attributes_fields l) (omega (arith, z 0 k)) h).0
  each (a ∷ l) o j z h (suc i) k =
      let q : o + j + (a.size + total (take i l)) ≡ o + (j + a.size) + total (take i l) = omega arith in
      subst (λ (x : ℕ). Holds b x 0 (attribute_fields (at l i))) (sym q)
      (each l o (j + a.size) (λ n m. z (suc n) (omega arith)) (holds_front b o j (j + a.size) (attribute_fields a) (attributes_fields l) (omega (arith, z 0 (omega arith))) h).1 i (le_of_suc-le-suc k))

  all : (l : List Attribute) (o j : ℕ) → Sized l
      → ((i : ℕ) → i < length l → Holds b (o + j + total (take i l)) 0 (attribute_fields (at l i))) → Holds b o j (attributes_fields l)
  unfolding attributes_fields total
  all [] o j z h = tt
  all (a ∷ l) o j z h =
      holds_append b o j (j + a.size) (attribute_fields a) (attributes_fields l) (omega (arith, z 0 (omega arith)))
      (shift b (o + j + 0) 0 o j (attribute_fields a) (omega arith) (h 0 (omega arith)))
      (all l o (j + a.size) (λ n m. z (suc n) (omega arith)) (λ i k.
      let q : o + j + (a.size + total (take i l)) ≡ o + (j + a.size) + total (take i l) = omega arith in
      subst (λ (x : ℕ). Holds b x 0 (attribute_fields (at l i))) q (h (suc i) (omega arith))))

-- ---- a context
pub sized : {fewest room : ℕ} {c : Context} → Meets fewest room c → Sized c.attributes
sized {c = c} m i h = let a = m.each i h in width_attribute (size_at c i) (body_at c i) a.least a.eights a.suits

pub width_layout : (c : Context) → Sized c.attributes → width (layout c) ≡ used c
unfolding width
width_layout c z = let e = width_attributes c.attributes z in omega arith

-- what the body at an index fits: its fields, after type and size
pub body_fits : {fewest room : ℕ} {c : Context} → Meets fewest room c → (i : ℕ) → i < count c → Fits (body_fields (size_at c i) (body_at c i))
unfolding Fits
body_fits {c = c} m i h = (each_fits c.attributes m.fits.1.1.1.1 i h).1.1

-- the fields of an attribute at `o`
pub record Stored (b : List ℕ) (o : ℕ) (a : Attribute) : Type 0 where
  pub kind : u32_at b o ≡ type_of a.body
  pub size : u32_at b (o + 4) ≡ a.size
  pub body : Holds b o 8 (body_fields a.size a.body)

-- what the layout of a context says of a buffer
pub record Says (b : List ℕ) (c : Context) : Type 0 where
  pub major : get_or b 0 0 ≡ c.major
  pub minor : get_or b 1 0 ≡ c.minor
  pub count : u32_at b 4 ≡ count c
  pub stored : (i : ℕ) → i < length c.attributes → Stored b (start_in c.attributes i) (at c.attributes i)

byte_at : (b : List ℕ) (o : ℕ) → number_at b o 1 ≡ get_or b o 0
unfolding number_at
byte_at b o = omega arith

pub opens_says : (b : List ℕ) (c : Context) → Fits (layout c) → Sized c.attributes → Opens b c → Says b c
opens_says b c f z o =
    let h = from_cells b 0 0 0 (layout c) refl f (opens_at b (cells (layout c)) o) in
    record {
      major = sym (byte_at b 0) ∙ h.0;
      minor = sym (byte_at b 1) ∙ h.1.0;
      count = h.1.1.1.0;
      stored = λ i l. let e = each b c.attributes 0 8 z h.1.1.1.1 i l in record { kind = rw add-zero at e.0; size = e.1.0; body = e.1.1 };
    }

says_holds : (b : List ℕ) (c : Context) → Sized c.attributes → Says b c → Holds b 0 0 (layout c)
says_holds b c z h =
    (byte_at b 0 ∙ h.major, (byte_at b 1 ∙ h.minor, (tt, (h.count, all b c.attributes 0 8 z (λ i l. let e = h.stored i l in (rw add-zero e.kind, (e.size, e.body)))))))

-- what is stored fits its fields, and opens the buffer
pub says_fits : (b : List ℕ) (c : Context) → Bytes b → Sized c.attributes → Says b c → Fits (layout c)
says_fits b c y z h = holds_fit b y 0 0 (layout c) (says_holds b c z h)

pub says_opens : (b : List ℕ) (c : Context) → Bytes b → Sized c.attributes → used c ≤ length b → Says b c → Opens b c
says_opens b c y z r h =
    let l = length_cells (layout c) ∙ width_layout c z in
    at_opens b (cells (layout c)) (omega arith) (to_cells b y 0 0 0 (layout c) refl (says_holds b c z h))

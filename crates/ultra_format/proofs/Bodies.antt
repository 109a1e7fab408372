-- Layout and decoding agree on a body: what is decoded from a buffer lies there by the layout, and a body that lies there is what is
-- decoded.
use Prim.Native.Nat.{ℕ, zero, suc, ◌+◌, ◌-◌, ◌*◌, ◌/◌, ◌≤◌}
use mathlib.Core.Path.{◌≡◌, refl, sym, ap, ap₂, ◌∙◌}
use mathlib.Core.Bool.{Bool, true, false, ◌&&◌}
use mathlib.Core.List.{List, [], ◌∷◌, ◌++◌}
use native.Mathlib.Omega.{arith}
use lib.ListN.{length}
use lib.Dec.{leb, eqb}
use borrow.Author.Tests.{leb-true, leb-false, eqb-true, eqb-false, ne_eqb}
use Rattle.words.specs.Words.{number_at}
use Rattle.byte_layout.specs.Fields.{Field, cells, width, Fits, filled}
use Rattle.byte_layout.specs.Fields.{Field.padding}
use Rattle.byte_layout.specs.Stored.{text_at}
use Rattle.byte_layout.proofs.Cells.{opens_at, length_filled, filled_opens}
use Rattle.byte_layout.proofs.FieldLaws.{Holds, length_cells, from_cells}
use Rattle.ultra_format.specs.Contexts.{Member, Platform, Entry, Body, type_of}
use Rattle.ultra_format.specs.Contexts.{Member.present, Member.absent, Body.platform, Body.kernel, Body.memory_map, Body.module_info, Body.command_line, Body.framebuffer, Body.other}
use Rattle.ultra_format.specs.Layouts.{member_fields, depth_fields, entries_fields, body_fields}
use Rattle.ultra_format.specs.Members.{present_if, size_suits}
use Rattle.ultra_format.specs.Rules.{TypeSuits}
use Rattle.ultra_format.specs.Decoding.{pick, member_when, member_at, platform_at, kernel_at, entries_at, module_at, framebuffer_at, decoded}
use Rattle.refusals.proofs.Chains.{both_hold}

-- ---- by the type
-- a type that the table has no row for
abbrev pub Rowless : ℕ → Type 0
Rowless t = (t ≡ 1 → ⊥) × (t ≡ 2 → ⊥) × (t ≡ 3 → ⊥) × (t ≡ 4 → ⊥) × (t ≡ 5 → ⊥) × (t ≡ 6 → ⊥)

module _ (P : Body → Type 0) where
  one : (t n : ℕ) (x y : Body) → (t ≡ n → P x) → ((t ≡ n → ⊥) → P y) → P (pick (eqb t n) x y)
  one t n x y h k = go (eqb t n) refl
    where
      go : (c : Bool) → eqb t n ≡ c → P (pick c x y)
      go true e = h (eqb-true t n e)
      go false e = k (eqb-false t n e)

  pub by_type : (b : List ℕ) (o s t : ℕ) → (t ≡ 1 → P (platform (platform_at b o s))) → (t ≡ 2 → P (kernel (kernel_at b o)))
      → (t ≡ 3 → P (memory_map (entries_at b (o + 8) ((s - 8) / 24)))) → (t ≡ 4 → P (module_info (module_at b o)))
      → (t ≡ 5 → P (command_line (text_at b (o + 8) (s - 8)))) → (t ≡ 6 → P (framebuffer (framebuffer_at b o)))
      → (Rowless t → P (other t)) → P (decoded b o s t)
  unfolding decoded
  by_type b o s t p1 p2 p3 p4 p5 p6 p7 =
      one t 1 _ _ p1 (λ n1. one t 2 _ _ p2 (λ n2. one t 3 _ _ p3 (λ n3. one t 4 _ _ p4 (λ n4. one t 5 _ _ p5 (λ n5. one t 6 _ _ p6 (λ n6. p7 (n1, n2, n3, n4, n5, n6)))))))

pub decoded_type : (b : List ℕ) (o s t : ℕ) → type_of (decoded b o s t) ≡ t
decoded_type b o s t = by_type (λ (x : Body). type_of x ≡ t) b o s t (λ e. sym e) (λ e. sym e) (λ e. sym e) (λ e. sym e) (λ e. sym e) (λ e. sym e) (λ n. refl)

-- ---- entries
pub width_entries : (es : List Entry) → width (entries_fields es) ≡ 24 * length es
unfolding entries_fields width
width_entries [] = refl
width_entries (e ∷ es) = let r = width_entries es in omega arith

entries_stored_law : (b : List ℕ) (o j n : ℕ) → Holds b o j (entries_fields (entries_at b (o + j) n))
unfolding entries_fields entries_at
entries_stored_law b o j zero = tt
entries_stored_law b o j (suc n) =
    let q : o + j + 24 ≡ o + (j + 24) = omega arith in
    let r = entries_stored_law b o (j + 24) n in
    (refl, (eight, (sixteen, rw (q, last) r)))
  where
    eight : number_at b (o + (j + 8)) 8 ≡ number_at b (o + j + 8) 8
    eight = let q : o + (j + 8) ≡ o + j + 8 = omega arith in rw q

    sixteen : number_at b (o + (j + 8 + 8)) 8 ≡ number_at b (o + j + 16) 8
    sixteen = let q : o + (j + 8 + 8) ≡ o + j + 16 = omega arith in rw q

    last : j + 8 + 8 + 8 ≡ j + 24
    last = omega arith

entries_only : (b : List ℕ) (o j : ℕ) (es : List Entry) → Holds b o j (entries_fields es) → es ≡ entries_at b (o + j) (length es)
unfolding entries_fields entries_at
entries_only b o j [] h = refl
entries_only b o j (e ∷ es) h =
    let q8 : o + j + 8 ≡ o + (j + 8) = omega arith in
    let q16 : o + j + 16 ≡ o + (j + 8 + 8) = omega arith in
    let q24 : o + j + 24 ≡ o + (j + 8 + 8 + 8) = omega arith in
    ap₂ (λ (x : Entry) (l : List Entry). x ∷ l) (rw (q8, q16, h.0, h.1.0, h.1.1.0)) (rw q24 (entries_only b o (j + 8 + 8 + 8) es h.1.1.1))

-- the bytes that are written of entries say those entries
pub entries_written : (es : List Entry) → Fits (entries_fields es) → entries_at (filled (cells (entries_fields es))) 0 (length es) ≡ es
entries_written es f =
    let cs = cells (entries_fields es) in
    sym (entries_only (filled cs) 0 0 es (from_cells (filled cs) 0 0 0 (entries_fields es) refl f (opens_at (filled cs) cs (filled_opens cs))))

pub length_written : (es : List Entry) → length (filled (cells (entries_fields es))) ≡ 24 * length es
length_written es = length_filled (cells (entries_fields es)) ∙ length_cells (entries_fields es) ∙ width_entries es

-- ---- the platform's late members: a member that ends at `e` is there just where the size reaches it
pub shown : (t : Bool) (n : ℕ) → present_if t (present n) ≡ true → t ≡ true
shown true n h = refl
shown false n h = absurd (let z : ◌≡◌ {A = ℕ} 0 1 = cc in omega arith)

pub hidden : (t : Bool) → present_if t absent ≡ true → t ≡ false
hidden true h = absurd (let z : ◌≡◌ {A = ℕ} 0 1 = cc in omega arith)
hidden false h = refl

-- a later member is not there without an earlier one
gap : (s e f n : ℕ) → e ≤ f → present_if (leb e s) absent ≡ true → present_if (leb f s) (present n) ≡ true → ⊥
gap s e f n l h p = omega (arith, leb-false e s (hidden (leb e s) h), leb-true f s (shown (leb f s) n p))

abbrev pub late_fields : ℕ → Member → Member → Member → Member → List Field
late_fields s half depth dtb smbios = member_fields 8 half ++ depth_fields depth ++ member_fields 8 dtb ++ member_fields 8 smbios ++ (padding (s - 88) ∷ [])

abbrev pub LateSuit : ℕ → Member → Member → Member → Member → Type 0
LateSuit s half depth dtb smbios =
    (present_if (leb 64 s) half ≡ true) × (present_if (leb 65 s) depth ≡ true) × (present_if (leb 80 s) dtb ≡ true) × (present_if (leb 88 s) smbios ≡ true)

abbrev LateIs : List ℕ → ℕ → ℕ → Member → Member → Member → Member → Type 0
LateIs b o s half depth dtb smbios =
    (half ≡ member_at b o s 56 8) × (depth ≡ member_at b o s 64 1) × (dtb ≡ member_at b o s 72 8) × (smbios ≡ member_at b o s 80 8)

-- one member, absent or present
out : (s e n : ℕ) → present_if (leb e s) absent ≡ true → absent ≡ member_when (leb e s) n
out s e n p = rw (hidden (leb e s) p)

inn : (s e x n : ℕ) → present_if (leb e s) (present x) ≡ true → n ≡ x → present x ≡ member_when (leb e s) n
inn s e x n p h = rw (shown (leb e s) x p, h)

-- the five ways in which late members can be there
pub data Late : Member → Member → Member → Member → Type 0 where
  none : Late absent absent absent absent
  to_half : {x : ℕ} → Late (present x) absent absent absent
  to_depth : {x y : ℕ} → Late (present x) (present y) absent absent
  to_dtb : {x y z : ℕ} → Late (present x) (present y) (present z) absent
  to_smbios : {x y z w : ℕ} → Late (present x) (present y) (present z) (present w)

pub late : (s : ℕ) (half depth dtb smbios : Member) → LateSuit s half depth dtb smbios → Late half depth dtb smbios
late s absent absent absent absent q = none
late s (present x) absent absent absent q = to_half
late s (present x) (present y) absent absent q = to_depth
late s (present x) (present y) (present z) absent q = to_dtb
late s (present x) (present y) (present z) (present w) q = to_smbios
late s absent (present y) t m q = absurd (gap s 64 65 y (omega arith) q.0 q.1)
late s absent absent (present z) m q = absurd (gap s 64 80 z (omega arith) q.0 q.2)
late s absent absent absent (present w) q = absurd (gap s 64 88 w (omega arith) q.0 q.3)
late s (present x) absent (present z) m q = absurd (gap s 65 80 z (omega arith) q.1 q.2)
late s (present x) absent absent (present w) q = absurd (gap s 65 88 w (omega arith) q.1 q.3)
late s (present x) (present y) absent (present w) q = absurd (gap s 80 88 w (omega arith) q.2 q.3)

late_only : (b : List ℕ) (o s : ℕ) (half depth dtb smbios : Member) → Late half depth dtb smbios → LateSuit s half depth dtb smbios
    → Holds b o 56 (late_fields s half depth dtb smbios) → LateIs b o s half depth dtb smbios
late_only b o s h d t m none q f = (out s 64 _ q.0, out s 65 _ q.1, out s 80 _ q.2, out s 88 _ q.3)
late_only b o s h d t m to_half q f = (inn s 64 _ _ q.0 f.0, out s 65 _ q.1, out s 80 _ q.2, out s 88 _ q.3)
late_only b o s h d t m to_depth q f = (inn s 64 _ _ q.0 f.0, inn s 65 _ _ q.1 f.1.0, out s 80 _ q.2, out s 88 _ q.3)
late_only b o s h d t m to_dtb q f =
    (inn s 64 _ _ q.0 f.0, inn s 65 _ _ q.1 f.1.0, inn s 80 _ _ q.2 f.1.1.1.0, out s 88 _ q.3)
late_only b o s h d t m to_smbios q f =
    (inn s 64 _ _ q.0 f.0, inn s 65 _ _ q.1 f.1.0, inn s 80 _ _ q.2 f.1.1.1.0, inn s 88 _ _ q.3 f.1.1.1.1.0)

late_stored : (b : List ℕ) (o s : ℕ) → Holds b o 56 (late_fields s (member_at b o s 56 8) (member_at b o s 64 1) (member_at b o s 72 8) (member_at b o s 80 8))
late_stored b o s = go (leb 64 s) (leb 65 s) (leb 80 s) (leb 88 s) refl refl refl refl
  where
    go : (half depth dtb smbios : Bool) → leb 64 s ≡ half → leb 65 s ≡ depth → leb 80 s ≡ dtb → leb 88 s ≡ smbios
        → Holds b o 56 (late_fields s (member_when half (number_at b (o + 56) 8)) (member_when depth (number_at b (o + 64) 1)) (member_when dtb (number_at b (o + 72) 8)) (member_when smbios (number_at b (o + 80) 8)))
    go false false false false p q r u = (tt, tt)
    go true false false false p q r u = (refl, (tt, tt))
    go true true false false p q r u = (refl, (refl, (tt, (tt, tt))))
    go true true true false p q r u = (refl, (refl, (tt, (refl, (tt, tt)))))
    go true true true true p q r u = (refl, (refl, (tt, (refl, (refl, (tt, tt))))))
    go false true t m p q r u = absurd (omega (arith, leb-false 64 s p, leb-true 65 s q))
    go false false true m p q r u = absurd (omega (arith, leb-false 64 s p, leb-true 80 s r))
    go false false false true p q r u = absurd (omega (arith, leb-false 64 s p, leb-true 88 s u))
    go true false true m p q r u = absurd (omega (arith, leb-false 65 s q, leb-true 80 s r))
    go true false false true p q r u = absurd (omega (arith, leb-false 65 s q, leb-true 88 s u))
    go true true false true p q r u = absurd (omega (arith, leb-false 80 s r, leb-true 88 s u))

pub late_suits : (s : ℕ) (p : Platform) → size_suits s (platform p) ≡ true → (56 ≤ s) × LateSuit s p.higher_half_base p.depth p.dtb p.smbios
unfolding size_suits
late_suits s p e =
    let h4 = both_hold (leb 56 s && present_if (leb 64 s) p.higher_half_base && present_if (leb 65 s) p.depth && present_if (leb 80 s) p.dtb) _ e in
    let h3 = both_hold (leb 56 s && present_if (leb 64 s) p.higher_half_base && present_if (leb 65 s) p.depth) _ h4.0 in
    let h2 = both_hold (leb 56 s && present_if (leb 64 s) p.higher_half_base) _ h3.0 in
    let h1 = both_hold (leb 56 s) _ h2.0 in
    (leb-true 56 s h1.0, (h1.1, h2.1, h3.1, h4.1))

pub map_size_law : (s : ℕ) (es : List Entry) → size_suits s (memory_map es) ≡ true → s ≡ 8 + 24 * length es
unfolding size_suits
map_size_law s es q = eqb-true s (8 + 24 * length es) q

map_count : (s : ℕ) (es : List Entry) → size_suits s (memory_map es) ≡ true → (s - 8) / 24 ≡ length es
map_count s es q = omega (arith, map_size_law s es q)

-- ---- bodies
-- what is decoded lies there by the layout
pub body_stored : (b : List ℕ) (o s t : ℕ) → Holds b o 8 (body_fields s (decoded b o s t))
body_stored b o s t =
    by_type (λ (x : Body). Holds b o 8 (body_fields s x)) b o s t
    (λ e. (refl, (refl, (refl, (refl, (refl, late_stored b o s))))))
    (λ e. (refl, (refl, (refl, (refl, (refl, (refl, (refl, (refl, (refl, (tt, tt)))))))))))
    (λ e. entries_stored_law b o 8 ((s - 8) / 24))
    (λ e. (tt, (refl, (refl, (refl, (refl, (tt, tt)))))))
    (λ e. (refl, tt))
    (λ e. (refl, (refl, (refl, (refl, (refl, (refl, (tt, tt))))))))
    (λ n. (tt, tt))

-- what lies there by the layout is what is decoded
pub body_only : (b : List ℕ) (o s : ℕ) (x : Body) → TypeSuits x → size_suits s x ≡ true → Holds b o 8 (body_fields s x) → x ≡ decoded b o s (type_of x)
unfolding decoded
body_only b o s (platform p) u q h =
    let r = (late_suits s p q).1 in
    let l = late_only b o s p.higher_half_base p.depth p.dtb p.smbios (late s _ _ _ _ r) r h.1.1.1.1.1 in
    ap platform (λ i. record {
      platform_type = sym h.0 i;
      loader_major = sym h.1.0 i;
      loader_minor = sym h.1.1.0 i;
      name = sym h.1.1.1.0 i;
      rsdp = sym h.1.1.1.1.0 i;
      higher_half_base = l.0 i;
      depth = l.1 i;
      dtb = l.2 i;
      smbios = l.3 i;
    })
body_only b o s (kernel k) u q h =
    ap kernel (λ i. record {
      physical_base = sym h.0 i;
      virtual_base = sym h.1.0 i;
      size = sym h.1.1.0 i;
      partition_type = sym h.1.1.1.0 i;
      disk_guid = sym h.1.1.1.1.0 i;
      partition_guid = sym h.1.1.1.1.1.0 i;
      disk_index = sym h.1.1.1.1.1.1.0 i;
      partition_index = sym h.1.1.1.1.1.1.1.0 i;
      path = sym h.1.1.1.1.1.1.1.1.0 i;
    })
body_only b o s (memory_map es) u q h =
    let n : (s - 8) / 24 ≡ length es = map_count s es q in
    ap memory_map (entries_only b o 8 es h ∙ ap (entries_at b (o + 8)) (sym n))
body_only b o s (module_info m) u q h =
    ap module_info (λ i. record { module_type = sym h.1.0 i; name = sym h.1.1.0 i; address = sym h.1.1.1.0 i; size = sym h.1.1.1.1.0 i })
body_only b o s (command_line t) u q h = ap command_line (sym h.0)
body_only b o s (framebuffer f) u q h =
    ap framebuffer (λ i. record {
      width = sym h.0 i;
      height = sym h.1.0 i;
      pitch = sym h.1.1.0 i;
      bpp = sym h.1.1.1.0 i;
      format = sym h.1.1.1.1.0 i;
      address = sym h.1.1.1.1.1.0 i;
    })
body_only b o s (other t) u q h =
    rw (ne_eqb t 1 (λ e. omega arith), ne_eqb t 2 (λ e. omega arith), ne_eqb t 3 (λ e. omega arith), ne_eqb t 4 (λ e. omega arith), ne_eqb t 5 (λ e. omega arith), ne_eqb t 6 (λ e. omega arith))

-- Each test on members holds exactly where its sentence does.
use Prim.Native.Nat.{ℕ, zero, suc, ◌+◌, ◌-◌, ◌*◌, ◌/◌, ◌%◌, ◌≤◌, ◌<◌}
use mathlib.Core.Path.{◌≡◌, refl, sym}
use mathlib.Core.Bool.{Bool, true, false, ◌&&◌, ◌||◌, true≢false}
use mathlib.Core.Logic.{◌↔◌, ◌⊎◌, ◌⊎◌.inl, ◌⊎◌.inr, ⊎_elim}
use mathlib.Core.List.{List, [], ◌∷◌}
use native.Mathlib.Omega.{arith}
use native.Mathlib.Nat.{not-suc-le-zero, le_of_suc-le-suc}
use lib.ListN.{length, get_or}
use lib.Dec.{leb, ltb, eqb}
use borrow.Author.Tests.{leb-true, leb-false, le-leb, ltb-true, lt-ltb, eqb-true, eqb-false, eq-eqb, ne_eqb, not-true}
use Rattle.words.specs.Rounding.{Multiple}
use Rattle.ultra_format.specs.Contexts.{Member, Entry}
use Rattle.ultra_format.specs.Contexts.{Member.present, Member.absent}
use Rattle.address_ranges.specs.Ranges.{page_aligned, range_fits}
use Rattle.ultra_format.specs.Members.{every, present_if, size_suits, nonzero, entry_typed, kernel_values, module_values, bpp_suits, framebuffer_values, values, ascii, ascii_text, path_text, texts, entry_fits, ranges}
use Rattle.ultra_format.specs.MemberRules.{PresentFrom, AsciiWithin, PathWithin, Ends, MemberRules}
use Rattle.refusals.proofs.Chains.{both_hold}

-- ---- tests
module _ {A B : Type 0} (x y : Bool) where
  both : (x ≡ true) ↔ A → (y ≡ true) ↔ B → ((x && y) ≡ true) ↔ (A × B)
  both p q = (λ e. let h = both_hold x y e in (p.0 h.0, q.0 h.1), λ h. joined x y (p.1 h.0) (q.1 h.1))
    where
      joined : (x y : Bool) → x ≡ true → y ≡ true → (x && y) ≡ true
      joined true y e f = f
      joined false y e f = absurd (true≢false (sym e))

  either : (x ≡ true) ↔ A → (y ≡ true) ↔ B → ((x || y) ≡ true) ↔ (A ⊎ B)
  either p q = (λ e. parted x y e p q, λ h. ⊎_elim (λ a. left x y (p.1 a)) (λ b. right x y (q.1 b)) h)
    where
      parted : (x y : Bool) → (x || y) ≡ true → (x ≡ true) ↔ A → (y ≡ true) ↔ B → A ⊎ B
      parted true y e p q = inl (p.0 refl)
      parted false y e p q = inr (q.0 e)

      left : (x y : Bool) → x ≡ true → (x || y) ≡ true
      left true y e = refl
      left false y e = absurd (true≢false (sym e))

      right : (x y : Bool) → y ≡ true → (x || y) ≡ true
      right true y e = refl
      right false y e = e

least : (m n : ℕ) → (leb m n ≡ true) ↔ (m ≤ n)
least m n = (leb-true m n, le-leb m n)

below : (m n : ℕ) → (ltb m n ≡ true) ↔ (m < n)
below m n = (ltb-true m n, lt-ltb m n)

equal : (m n : ℕ) → (eqb m n ≡ true) ↔ (m ≡ n)
equal m n = (eqb-true m n, eq-eqb m n)

not_zero : (n : ℕ) → (nonzero n ≡ true) ↔ (1 ≤ n)
not_zero n = (λ e. let h = eqb-false n 0 (not-true _ e) in omega arith, λ h. rw (ne_eqb n 0 (λ e. omega arith)))

pages : (n : ℕ) → (page_aligned n ≡ true) ↔ Multiple 4096 n
pages n = (λ e. let h = eqb-true (n % 4096) 0 e in (n / 4096, omega arith), λ h. let q = h.1 in eq-eqb (n % 4096) 0 (omega arith))

threes : (n : ℕ) → (eqb (n % 3) 0 ≡ true) ↔ Multiple 3 n
threes n = (λ e. let h = eqb-true (n % 3) 0 e in (n / 3, omega arith), λ h. let q = h.1 in eq-eqb (n % 3) 0 (omega arith))

twenty_fours : (n : ℕ) → (eqb (n % 24) 0 ≡ true) ↔ Multiple 24 n
twenty_fours n = (λ e. let h = eqb-true (n % 24) 0 e in (n / 24, omega arith), λ h. let q = h.1 in eq-eqb (n % 24) 0 (omega arith))

present_from : (end s : ℕ) (m : Member) → (present_if (leb end s) m ≡ true) ↔ PresentFrom end s m
present_from end s m = go (leb end s) refl m
  where
    go : (t : Bool) → leb end s ≡ t → (m : Member) → (present_if t m ≡ true) ↔ PresentFrom end s m
    go true e (present n) = (λ h. leb-true end s e, λ h. refl)
    go true e absent = (λ h. absurd (true≢false (sym h)), λ h. absurd (let k = leb-true end s e in omega arith))
    go false e (present n) = (λ h. absurd (true≢false (sym h)), λ h. absurd (let k = leb-false end s e in omega arith))
    go false e absent = (λ h. leb-false end s e, λ h. refl)

-- a test of every element
module _ {X : Type 0} (test : X → Bool) (P : X → Type 0) (one : (x : X) → (test x ≡ true) ↔ P x) (z : X) where
  each : (l : List X) → every test l ≡ true → (i : ℕ) → i < length l → P (get_or l i z)
  unfolding every
  each [] e i h = absurd (not-suc-le-zero h)
  each (x ∷ l) e zero h = (one x).0 (both_hold (test x) _ e).0
  each (x ∷ l) e (suc i) h = each l (both_hold (test x) _ e).1 i (le_of_suc-le-suc h)

  all : (l : List X) → ((i : ℕ) → i < length l → P (get_or l i z)) → every test l ≡ true
  unfolding every
  all [] h = refl
  all (x ∷ l) h = (both (test x) (every test l) (one x) ((λ e. e), λ e. e)).1 (h 0 (omega arith), all l (λ i k. h (suc i) (omega arith)))

  everywhere : (l : List X) → (every test l ≡ true) ↔ ((i : ℕ) → i < length l → P (get_or l i z))
  everywhere l = (each l, all l)

letter : (x : ℕ) → (ascii x ≡ true) ↔ ((1 ≤ x) × (x ≤ 127))
letter x =
    let p = both (ltb 0 x) (ltb x 128) (below 0 x) (below x 128) in
    (λ e. let h = p.0 e in (omega (arith, h.0), omega (arith, h.1)), λ h. p.1 (omega (arith, h.0), omega (arith, h.1)))

ascii_within : (width : ℕ) (t : List ℕ) → (ascii_text width t ≡ true) ↔ AsciiWithin width t
unfolding ascii_text
ascii_within width t = both _ _ (below (length t) width) (everywhere ascii (λ (x : ℕ). (1 ≤ x) × (x ≤ 127)) letter 0 t)

path_within : (width : ℕ) (t : List ℕ) → (path_text width t ≡ true) ↔ PathWithin width t
unfolding path_text
path_within width t =
    let p = both _ _ (both _ _ (below (length t) width) (equal (get_or t 0 0) 47)) (everywhere nonzero (λ (x : ℕ). 1 ≤ x) not_zero 0 t) in
    (λ e. let h = p.0 e in (h.0.0, h.0.1, h.1), λ h. p.1 ((h.0, h.1), h.2))

abbrev none : Entry
none = record { address = 0; size = 0; entry_type = 0 }

-- left-nested tests as flat products
three : {A B C : Type 0} {x : Bool} → (x ≡ true) ↔ ((A × B) × C) → (x ≡ true) ↔ (A × B × C)
three p = (λ e. let h = p.0 e in (h.0.0, h.0.1, h.1), λ h. p.1 ((h.0, h.1), h.2))

four : {A B C D : Type 0} {x : Bool} → (x ≡ true) ↔ (((A × B) × C) × D) → (x ≡ true) ↔ (A × B × C × D)
four p = (λ e. let h = p.0 e in (h.0.0.0, h.0.0.1, h.0.1, h.1), λ h. p.1 (((h.0, h.1), h.2), h.3))

five : {A B C D E : Type 0} {x : Bool} → (x ≡ true) ↔ ((((A × B) × C) × D) × E) → (x ≡ true) ↔ (A × B × C × D × E)
five p = (λ e. let h = p.0 e in (h.0.0.0.0, h.0.0.0.1, h.0.0.1, h.0.1, h.1), λ h. p.1 ((((h.0, h.1), h.2), h.3), h.4))

range_ends : (address size : ℕ) → (range_fits address size ≡ true) ↔ Ends address size
range_ends address size = least (address + size) 18446744073709551616

pixel : (low high depth format bpp : ℕ) → ((leb low format && leb format high && eqb bpp depth) ≡ true) ↔ ((low ≤ format) × (format ≤ high) × (bpp ≡ depth))
pixel low high depth format bpp = three (both _ _ (both _ _ (least low format) (least format high)) (equal bpp depth))

pub member_rules : MemberRules
unfolding size_suits values kernel_values module_values bpp_suits framebuffer_values texts ranges
member_rules =
    record {
      platform_size = λ s p. five (both _ _ (both _ _ (both _ _ (both _ _ (least 56 s) (present_from 64 s p.higher_half_base)) (present_from 65 s p.depth)) (present_from 80 s p.dtb)) (present_from 88 s p.smbios));
      kernel_size = λ s k. least 336 s;
      map_size = λ s es. equal s (8 + 24 * length es);
      module_size = λ s m. least 96 s;
      line_size = λ s t. least 16 s;
      framebuffer_size = λ s f. least 32 s;
      other_size = λ s t. refl;
      platform_values = λ p. not_zero p.platform_type;
      kernel_values = λ k. four (both _ _ (both _ _ (both _ _ (not_zero k.partition_type) (pages k.physical_base)) (pages k.virtual_base)) (pages k.size));
      map_values = λ es. everywhere entry_typed (λ (e : Entry). 1 ≤ e.entry_type) (λ e. not_zero e.entry_type) none es;
      module_values = λ m. both _ _ (either _ _ (equal m.module_type 1) (equal m.module_type 2)) (pages m.address);
      framebuffer_values = λ f.
          both _ _ (either _ _ (pixel 1 2 24 f.format f.bpp) (pixel 3 4 32 f.format f.bpp)) (least (f.width * f.bpp) (f.pitch * 8));
      line_values = λ t. refl;
      other_values = λ t. refl;
      platform_text = λ s p. ascii_within 32 p.name;
      kernel_text = λ s k. path_within 256 k.path;
      module_text = λ s m. ascii_within 64 m.name;
      line_text = λ s t. ascii_within (s - 8) t;
      kernel_ranges = λ k. both _ _ (range_ends k.physical_base k.size) (range_ends k.virtual_base k.size);
      map_ranges = λ es. everywhere entry_fits (λ (e : Entry). Ends e.address e.size) (λ e. range_ends e.address e.size) none es;
      module_ranges = λ m. range_ends m.address m.size;
      framebuffer_ranges = λ f. range_ends f.address (f.pitch * f.height);
      threes = λ ns. threes (length ns);
      entries = λ l. twenty_fours (length l);
      guids = λ d p. both _ _ (equal (length d) 16) (equal (length p) 16);
      singles = λ t. either _ _ (either _ _ (equal t 3) (equal t 5)) (equal t 6);
      repeatables = λ t. either _ _ (equal t 4) (least 7 t);
    }

-- The rules can be met, those of every body among them: three contexts, that of document 01's listing, one with every type and one with
-- the types that are added, meet them and open their bytes, and the first and the last are plain. And a short platform has no late member.
use Prim.Native.Nat.{ℕ, zero, suc, ◌%◌, ◌≤◌, ◌<◌}
use mathlib.Core.Path.{◌≡◌, refl, sym, ap, ◌∙◌, subst}
use mathlib.Core.Bool.{Bool, true, ◌&&◌}
use mathlib.Core.List.{List, [], ◌∷◌, ◌++◌}
use native.Mathlib.Omega.{arith}
use native.Mathlib.Nat.{not-suc-le-zero, le_of_suc-le-suc}
use lib.ListN.{length, get_or}
use lib.Dec.{leb, ltb, eqb}
use borrow.Author.Tests.{leb-true, ltb-true, eqb-true}
use Rattle.words.specs.Words.{number_at}
use Rattle.byte_layout.specs.Fields.{Cell, cells, filled, SilentAt}
use Rattle.byte_layout.specs.Fields.{Cell.byte, Cell.silent}
use Rattle.byte_layout.specs.Stored.{Bytes, bytes_at, text_at}
use Rattle.byte_layout.proofs.Cells.{not_silent}
use Rattle.ultra_format.specs.Contexts.{type_of, Attribute, Context, count, attribute_at, type_at, size_at, body_at, total, used}
use Rattle.lent_buffers.specs.Room.{room_of}
use Rattle.ultra_format.specs.Layouts.{layout, attributes_fields, entries_fields, Opens, written}
use Rattle.ultra_format.specs.Members.{every, size_suits, values, kernel_values, module_values, bpp_suits, framebuffer_values, texts, ascii_text, path_text, ranges, ordered, entries_ordered}
use Rattle.ultra_format.specs.Rules.{TypeSuits, AttributeMeets, Meets}
use Rattle.ultra_format.specs.Plain.{written_size, Plain}
use Rattle.ultra_format.specs.Decoding.{context_of, attributes_from, start, decoded, entries_at}
use Rattle.ultra_format.specs.Examples.{ShortPlatform, listed, listed_bytes, every_type, junk, every_type_bytes, six_types, six_types_bytes}
use Rattle.refusals.proofs.Chains.{both_hold}
use Rattle.ultra_format.proofs.Attributes.{width_attribute, at, Sized, Says, says_fits, says_opens}
use Rattle.ultra_format.proofs.Decoded.{says_decoded}

-- ---- tests of every element
every_at : {X : Type 0} (p : X → Bool) (z : X) (l : List X) → every p l ≡ true → (i : ℕ) → i < length l → p (get_or l i z) ≡ true
unfolding every
every_at p z [] e i h = absurd (not-suc-le-zero h)
every_at p z (x ∷ l) e zero h = (both_hold (p x) (every p l) e).0
every_at p z (x ∷ l) e (suc i) h = every_at p z l (both_hold (p x) (every p l) e).1 i (le_of_suc-le-suc h)

is_byte : ℕ → Bool
is_byte x = ltb x 256

all_bytes : (l : List ℕ) → every is_byte l ≡ true → Bytes l
unfolding every is_byte
all_bytes [] e i = omega arith
all_bytes (x ∷ l) e zero = ltb-true x 256 (both_hold (is_byte x) (every is_byte l) e).0
all_bytes (x ∷ l) e (suc i) = all_bytes l (both_hold (is_byte x) (every is_byte l) e).1 i

-- ---- types that rise: each is above the one before, the first above `t`
rises : ℕ → List Attribute → Bool
rises t [] = true
rises t (a ∷ l) = ltb t (type_of a.body) && rises (type_of a.body) l

rising : (t : ℕ) (a : Attribute) (l : List Attribute) → rises t (a ∷ l) ≡ true → (t < type_of a.body) × (rises (type_of a.body) l ≡ true)
unfolding rises
rising t a l e = let h = both_hold (ltb t (type_of a.body)) (rises (type_of a.body) l) e in (ltb-true t (type_of a.body) h.0, h.1)

above : (t : ℕ) (l : List Attribute) → rises t l ≡ true → (i : ℕ) → i < length l → t < type_of (at l i).body
above t [] e i h = absurd (not-suc-le-zero h)
above t (a ∷ l) e zero h = (rising t a l e).0
above t (a ∷ l) e (suc i) h = let r = rising t a l e in omega (arith, r.0, above (type_of a.body) l r.1 i (le_of_suc-le-suc h))

rise : (t : ℕ) (l : List Attribute) → rises t l ≡ true → (i j : ℕ) → i < j → j < length l → type_of (at l i).body < type_of (at l j).body
rise t [] e i j g h = absurd (not-suc-le-zero h)
rise t (a ∷ l) e i zero g h = absurd (not-suc-le-zero g)
rise t (a ∷ l) e zero (suc j) g h = above (type_of a.body) l (rising t a l e).1 j (le_of_suc-le-suc h)
rise t (a ∷ l) e (suc i) (suc j) g h = rise (type_of a.body) l (rising t a l e).1 i j (le_of_suc-le-suc g) (le_of_suc-le-suc h)

-- ---- what the rules ask of each attribute: of its type, and by tests
Suited : List Attribute → Type 0
Suited [] = Unit {0}
Suited (a ∷ l) = TypeSuits a.body × Suited l

suited_at : (l : List Attribute) → Suited l → (i : ℕ) → i < length l → TypeSuits (at l i).body
unfolding Suited
suited_at [] s i h = absurd (not-suc-le-zero h)
suited_at (a ∷ l) s zero h = s.0
suited_at (a ∷ l) s (suc i) h = suited_at l s.1 i (le_of_suc-le-suc h)

tests : Attribute → Bool
tests a =
    eqb (a.size % 8) 0 && leb 8 a.size && size_suits a.size a.body && values a.body && texts a.size a.body && ranges a.body && ordered a.body

attribute_meets : (a : Attribute) → TypeSuits a.body → tests a ≡ true → AttributeMeets a.size a.body
unfolding tests
attribute_meets a u e =
    let h1 = both_hold _ (ordered a.body) e in
    let h2 = both_hold _ (ranges a.body) h1.0 in
    let h3 = both_hold _ (texts a.size a.body) h2.0 in
    let h4 = both_hold _ (values a.body) h3.0 in
    let h5 = both_hold _ (size_suits a.size a.body) h4.0 in
    let h6 = both_hold (eqb (a.size % 8) 0) (leb 8 a.size) h5.0 in
    record {
      eights = eqb-true (a.size % 8) 0 h6.0;
      least = leb-true 8 a.size h6.1;
      type_suits = u;
      suits = h5.1;
      values_hold = h4.1;
      texts_hold = h3.1;
      ranges_hold = h2.1;
      in_order = h1.1;
    }

-- ---- an example: a context that is decoded from its bytes, whose types rise, and whose tests are computed
record Example (b : List ℕ) (c : Context) : Type 0 where
  bytes : every is_byte b ≡ true
  decoded : context_of b ≡ c
  major : 1 ≤ c.major
  enough : 2 ≤ count c
  most : count c ≤ 1024
  within : used c ≤ room_of b
  first : type_at c 0 ≡ 1
  second : type_at c 1 ≡ 2
  risen : rises 0 c.attributes ≡ true
  suited : Suited c.attributes
  tested : every tests c.attributes ≡ true

-- it meets the rules and opens its bytes
module _ (b : List ℕ) (c : Context) (x : Example b c) where
  says : Says b c
  says = subst (Says b) x.decoded (says_decoded b)

  each : (i : ℕ) → i < count c → AttributeMeets (size_at c i) (body_at c i)
  each i h = attribute_meets (attribute_at c i) (suited_at c.attributes x.suited i h) (every_at tests _ c.attributes x.tested i h)

  wide : Sized c.attributes
  wide i h = let m = each i h in width_attribute (size_at c i) (body_at c i) m.least m.eights m.suits

  apart : (i j : ℕ) → i < j → j < count c → type_at c i < type_at c j
  apart = rise 0 c.attributes x.risen

  example_meets : Meets 2 (room_of b) c
  example_meets =
      record {
        fits = says_fits b c (all_bytes b x.bytes) wide says;
        major = x.major;
        enough = x.enough;
        most = x.most;
        within = x.within;
        typed = λ i h e. omega (arith, above 0 c.attributes x.risen i h);
        first = λ h. x.first;
        second = λ h. x.second;
        later = λ i l h. (λ e. omega (arith, x.first, apart 0 i (omega arith) h), λ e. omega (arith, x.second, apart 1 i l h));
        once = λ i j l h s e. omega (arith, apart i j l h);
        together = λ i j k l r h e. absurd (omega (arith, apart i k (omega arith) h));
        each = each;
      }

  example_opens : Opens b c
  example_opens = says_opens b c (all_bytes b x.bytes) wide (omega (arith, x.within)) says

-- ---- the context of 01's listing: what a writer writes is its bytes, and what is decoded from them is the context
pub listed_written : written listed ≡ listed_bytes
unfolding cells filled attributes_fields entries_fields
listed_written = refl

pub listed_decoded : context_of listed_bytes ≡ listed
unfolding context_of attributes_from start decoded entries_at number_at bytes_at text_at
listed_decoded = refl

listed_example : Example listed_bytes listed
unfolding every is_byte total rises Suited tests size_suits values kernel_values texts ascii_text path_text ranges ordered entries_ordered
listed_example =
    record {
      bytes = refl;
      decoded = listed_decoded;
      major = omega arith;
      enough = omega arith;
      most = omega arith;
      within = omega arith;
      first = refl;
      second = refl;
      risen = refl;
      suited = (tt, (tt, (tt, (tt, tt))));
      tested = refl;
    }

pub listed_meets : Meets 2 (room_of listed_bytes) listed
listed_meets = example_meets listed_bytes listed listed_example

pub listed_opens : Opens listed_bytes listed
listed_opens = example_opens listed_bytes listed listed_example

-- a writer writes zero where a cell is silent
pub silent_zero : (cs : List Cell) (i : ℕ) → SilentAt cs i → get_or (filled cs) i 0 ≡ 0
unfolding filled
silent_zero [] i e = refl
silent_zero (byte n ∷ cs) zero e = absurd (not_silent n (sym e))
silent_zero (byte n ∷ cs) (suc i) e = silent_zero cs i e
silent_zero (silent ∷ cs) zero e = refl
silent_zero (silent ∷ cs) (suc i) e = silent_zero cs i e

-- what a writer writes is plain, if version, sizes and types are
written_as : Attribute → Bool
written_as a = eqb a.size (written_size a.body) && ltb (type_of a.body) 7

written_plain : (b : List ℕ) (c : Context) → written c ≡ b → c.major ≡ 1 → c.minor ≡ 0 → every written_as c.attributes ≡ true → Plain b c
unfolding written_as
written_plain b c w v m e =
    let t : (i : ℕ) → i < count c → (size_at c i ≡ written_size (body_at c i)) × (type_at c i < 7) =
    λ i h. let p = both_hold (eqb (size_at c i) (written_size (body_at c i))) (ltb (type_at c i) 7) (every_at written_as _ c.attributes e i h) in
    (eqb-true _ _ p.0, ltb-true _ 7 p.1) in
    record {
      major = v;
      minor = m;
      sizes = λ i h. (t i h).0;
      zeros = λ i h q. ap (λ (l : List ℕ). get_or l i 0) (sym w) ∙ silent_zero (cells (layout c)) i q;
      types = λ i h. (t i h).1;
    }

pub listed_plain : Plain listed_bytes listed
unfolding written_size every written_as
listed_plain = written_plain listed_bytes listed listed_written refl refl refl

-- ---- the context with the six types that are added
pub six_types_written : written six_types ≡ six_types_bytes
unfolding cells filled attributes_fields entries_fields
six_types_written = refl

six_types_decoded : context_of six_types_bytes ≡ six_types
unfolding context_of attributes_from start decoded entries_at number_at bytes_at text_at
six_types_decoded = refl

six_types_example : Example six_types_bytes six_types
unfolding every is_byte total rises Suited tests size_suits values kernel_values module_values bpp_suits framebuffer_values texts ascii_text path_text ranges ordered entries_ordered
six_types_example =
    record {
      bytes = refl;
      decoded = six_types_decoded;
      major = omega arith;
      enough = omega arith;
      most = omega arith;
      within = omega arith;
      first = refl;
      second = refl;
      risen = refl;
      suited = (tt, (tt, (tt, (tt, (tt, (tt, tt))))));
      tested = refl;
    }

pub six_types_meets : Meets 2 (room_of six_types_bytes) six_types
six_types_meets = example_meets six_types_bytes six_types six_types_example

pub six_types_opens : Opens six_types_bytes six_types
six_types_opens = example_opens six_types_bytes six_types six_types_example

pub six_types_plain : Plain six_types_bytes six_types
unfolding written_size every written_as
six_types_plain = written_plain six_types_bytes six_types six_types_written refl refl refl

-- ---- the context with every type: its bytes are the layout's, with 165 wherever that is silent
unfoldable pub noisy : List Cell → List ℕ
noisy [] = []
noisy (byte n ∷ cs) = n ∷ noisy cs
noisy (silent ∷ cs) = 165 ∷ noisy cs

pub every_type_laid : (noisy (cells (layout every_type)) ++ junk 5) ≡ every_type_bytes
unfolding cells noisy attributes_fields entries_fields
every_type_laid = refl

pub every_type_decoded : context_of every_type_bytes ≡ every_type
unfolding context_of attributes_from start decoded entries_at number_at bytes_at text_at
every_type_decoded = refl

every_type_example : Example every_type_bytes every_type
unfolding every is_byte total rises Suited tests size_suits values kernel_values module_values bpp_suits framebuffer_values texts ascii_text path_text ranges ordered entries_ordered
every_type_example =
    record {
      bytes = refl;
      decoded = every_type_decoded;
      major = omega arith;
      enough = omega arith;
      most = omega arith;
      within = omega arith;
      first = refl;
      second = refl;
      risen = refl;
      suited = (tt, (tt, (tt, (tt, (tt, (tt, (omega arith, tt)))))));
      tested = refl;
    }

pub every_type_bytes_law : Bytes every_type_bytes
every_type_bytes_law = all_bytes every_type_bytes every_type_example.bytes

pub every_type_meets : Meets 2 (room_of every_type_bytes) every_type
every_type_meets = example_meets every_type_bytes every_type every_type_example

pub every_type_opens : Opens every_type_bytes every_type
every_type_opens = example_opens every_type_bytes every_type every_type_example

-- ---- a platform of 56 bytes
pub short_platform_law : ShortPlatform
short_platform_law b o = (refl, refl, refl, refl)

-- A buffer of bytes that modules are added to is one of bytes: what is stored are bytes, and the names that are accepted have no other.
use Rattle.std.specs.Prelude.{Ok, Err}
use Prim.Native.Nat.{ℕ, zero, suc, ◌+◌, ◌/◌}
use mathlib.Core.Path.{◌≡◌, refl, ap}
use mathlib.Core.Bool.{true}
use mathlib.Core.List.{List, [], ◌∷◌, ◌++◌}
use native.Mathlib.Omega.{arith}
use lib.ListN.{length, take, drop}
use lib.Seq.{get_or-drop}
use lib.Dec.{ltb}
use borrow.Author.Tests.{ltb-true}
use Rattle.words.specs.Words.{little_endian, replaced}
use Rattle.byte_layout.specs.Fields.{Cell, Cell.byte, Cell.silent, Field, Field.number, Field.raw, Field.text, Field.padding}
use Rattle.byte_layout.specs.Fields.{bytes, silence, padded, text_cells, field_cells, cells, filled}
use Rattle.byte_layout.specs.Stored.{Bytes}
use Rattle.refusals.specs.Answers.{Answer}
use Rattle.refusals.proofs.Chains.{both_hold}
use Rattle.ultra_format.specs.Contexts.{Body, type_of}
use Rattle.ultra_format.specs.Layouts.{attribute_fields}
use Rattle.ultra_format.specs.Decoding.{stored_count}
use Rattle.ultra_format.specs.Members.{every, ascii, ascii_text, texts}
use Rattle.ultra_format.specs.Plain.{written_size}
use Rattle.ultra_format.specs.Records.{trimmed}
use Rattle.ultra_format.specs.Additions.{Addition.add_module, body_given, given_check, new_attribute, new_bytes}
use Rattle.ultra_format.specs.declared.records.ModuleRecord.{ModuleRecord}
use Rattle.ultra_appending.specs.Appending.{append_offset, counted}
use Rattle.ultra_appending.proofs.Appending.{appended_at}
use Rattle.ultra_adding.specs.Adding.{added_at, added_members}
use Rattle.ultra_adding.proofs.Adding.{given_holds}
use Rattle.ultra_modules.specs.Modules.{module_added}
use Rattle.ultra_modules.specs.OneByOne.{after_adds}

-- ---- lists
bytes_append : (l m : List ℕ) → Bytes l → Bytes m → Bytes (l ++ m)
bytes_append [] m y z i = z i
bytes_append (x ∷ l) m y z zero = y 0
bytes_append (x ∷ l) m y z (suc i) = bytes_append l m (λ j. y (suc j)) z i

bytes_take : (n : ℕ) (l : List ℕ) → Bytes l → Bytes (take n l)
bytes_take zero l y i = omega arith
bytes_take (suc n) [] y i = y i
bytes_take (suc n) (x ∷ l) y zero = y 0
bytes_take (suc n) (x ∷ l) y (suc i) = bytes_take n l (λ j. y (suc j)) i

bytes_drop : (n : ℕ) (l : List ℕ) → Bytes l → Bytes (drop n l)
bytes_drop n l y i = rw (get_or-drop n l i 0) (y (n + i))

bytes_replaced : (b : List ℕ) (o k : ℕ) (x : List ℕ) → Bytes b → Bytes x → Bytes (replaced b o k x)
bytes_replaced b o k x y z =
    bytes_append (take o b ++ x) (drop (o + k) b) (bytes_append (take o b) x (bytes_take o b y) z) (bytes_drop (o + k) b y)

bytes_little : (k n : ℕ) → Bytes (little_endian k n)
bytes_little zero n i = omega arith
bytes_little (suc k) n zero = omega arith
bytes_little (suc k) n (suc i) = bytes_little k (n / 256) i

-- ---- fields
filled_append : (cs ds : List Cell) → filled (cs ++ ds) ≡ filled cs ++ filled ds
unfolding filled
filled_append [] ds = refl
filled_append (byte n ∷ cs) ds = ap (λ (l : List ℕ). n ∷ l) (filled_append cs ds)
filled_append (silent ∷ cs) ds = ap (λ (l : List ℕ). 0 ∷ l) (filled_append cs ds)

filled_bytes : (l : List ℕ) → filled (bytes l) ≡ l
unfolding filled
filled_bytes [] = refl
filled_bytes (x ∷ l) = ap (λ (m : List ℕ). x ∷ m) (filled_bytes l)

silence_bytes : (k : ℕ) → Bytes (filled (silence k))
unfolding filled
silence_bytes zero i = omega arith
silence_bytes (suc k) zero = omega arith
silence_bytes (suc k) (suc i) = silence_bytes k i

text_bytes : (k : ℕ) (l : List ℕ) → Bytes l → Bytes (filled (text_cells k l))
unfolding filled
text_bytes zero l y i = omega arith
text_bytes (suc k) [] y zero = omega arith
text_bytes (suc k) [] y (suc i) = silence_bytes k i
text_bytes (suc k) (x ∷ l) y zero = y 0
text_bytes (suc k) (x ∷ l) y (suc i) = text_bytes k l (λ j. y (suc j)) i

-- what a field is given to hold are bytes
abbrev Given : Field → Type 0
Given (number k n) = Unit {0}
Given (raw k l) = Bytes (padded k l)
Given (text k l) = Bytes l
Given (padding k) = Unit {0}

abbrev AllGiven : List Field → Type 0
AllGiven [] = Unit {0}
AllGiven (f ∷ fs) = Given f × AllGiven fs

field_bytes : (f : Field) → Given f → Bytes (filled (field_cells f))
field_bytes (number k n) g = rw (filled_bytes (little_endian k n)) (bytes_little k n)
field_bytes (raw k l) g = rw (filled_bytes (padded k l)) g
field_bytes (text k l) g = text_bytes k l g
field_bytes (padding k) g = silence_bytes k

fields_bytes : (fs : List Field) → AllGiven fs → Bytes (filled (cells fs))
unfolding cells filled
fields_bytes [] g i = omega arith
fields_bytes (f ∷ fs) g i = rw (filled_append (field_cells f) (cells fs)) (bytes_append (filled (field_cells f)) (filled (cells fs)) (field_bytes f g.0) (fields_bytes fs g.1) i)

-- ---- a module
ascii_bytes : (t : List ℕ) → every ascii t ≡ true → Bytes t
unfolding every
ascii_bytes [] e i = omega arith
ascii_bytes (x ∷ t) e zero = omega (arith, ltb-true x 128 (both_hold (ltb 0 x) _ (both_hold (ascii x) _ e).0).1)
ascii_bytes (x ∷ t) e (suc i) = ascii_bytes t (both_hold (ascii x) _ e).1 i

module_stored : (m : ModuleRecord) → given_check true (body_given (add_module m)) ≡ 0 → Bytes (new_bytes (body_given (add_module m)))
unfolding body_given texts ascii_text written_size
module_stored m e =
    let name = trimmed m.name in
    let holds = (given_holds true (body_given (add_module m)) e).1.texts_hold in
    let named = ascii_bytes name (both_hold (ltb (length name) 64) (every ascii name) holds).1 in
    fields_bytes (attribute_fields (new_attribute (body_given (add_module m)))) (tt, (tt, (tt, (tt, (named, (tt, (tt, (tt, tt))))))))

module_bytes : (b : List ℕ) (m : ModuleRecord) → Bytes b → Bytes (module_added b m).1
unfolding added_members counted
module_bytes b m y = go (append_offset b (type_of x) (given_check true x) (written_size x)) refl
  where
    x : Body
    x = body_given (add_module m)

    go : (a : Answer) → append_offset b (type_of x) (given_check true x) (written_size x) ≡ a → Bytes (added_at b x a).1
    go (Err r) e = y
    go (Ok n) e =
        bytes_replaced (counted b) n (length (new_bytes x)) (new_bytes x) (bytes_replaced b 4 4 (little_endian 4 (stored_count b + 1)) y (bytes_little 4 (stored_count b + 1))) (module_stored m (appended_at b (type_of x) (given_check true x) (written_size x) n e).1.sound)

pub after_bytes : (b : List ℕ) (ms : List ModuleRecord) → Bytes b → Bytes (after_adds b ms)
unfolding after_adds
after_bytes b [] y = y
after_bytes b (m ∷ ms) y = after_bytes (module_added b m).1 ms (module_bytes b m y)

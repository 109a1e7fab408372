-- Laws of the map question: of the numbers of a map, of where they are, and of what is copied from there.
use Rattle.std.specs.Prelude.{Ok, Err}
use Prim.Native.Nat.{ℕ, zero, suc, ◌+◌, ◌*◌, ◌≤◌, ◌<◌}
use mathlib.Core.Path.{◌≡◌, refl, sym, ap, subst}
use mathlib.Core.Bool.{Bool, true, false}
use mathlib.Core.List.{List, [], ◌∷◌, ◌++◌}
use native.Mathlib.Omega.{arith}
use native.Mathlib.Nat.{add-zero}
use lib.ListN.{length}
use lib.Dec.{leb}
use borrow.Author.Tests.{leb-true, le-leb, lt-leb}
use Rattle.words.specs.Words.{u64_at, numbers_at}
use Rattle.byte_layout.specs.Stored.{over}
use Rattle.byte_layout.proofs.Copies.{front_more}
use Rattle.words.proofs.Numbers.{length_numbers}
use Rattle.std.proofs.lemmas.Grind.{common_steps}
use Rattle.refusals.specs.Refusals.{ROOM, ABSENT}
use Rattle.refusals.specs.Answers.{Answer, refusal, refused}
use Rattle.ultra_format.specs.Contexts.{Attribute, used}
use Rattle.ultra_format.specs.Decoding.{pick, entries_at, decoded, start, stored_type, stored_count, stored_attribute, context_of}
use Rattle.refusals.specs.declared.Refusal.{Refusal}
use Rattle.ultra_format.proofs.Numbers.{length_entries}
use Rattle.ultra_reading.specs.Reading.{used_length}
use Rattle.ultra_locating.specs.Searching.{Found.found, first_in, found_start, of_type}
use Rattle.ultra_map_question.specs.declared.MapNumbers.{MapNumbers}
use Rattle.ultra_map_question.specs.MapQuestion.{numbers, entries_of, map_copied, entries_stored, no_numbers, numbers_from, found_numbers, map_numbers}
use Rattle.ultra_locating.proofs.Located.{inside, used_is_law}
use Rattle.ultra_locating.proofs.Searches.{FoundAt, found_at, none_at, type_said}

-- one more number is stored
pub numbers_more : (b : List ℕ) (o n : ℕ) → numbers_at b o (n + 1) ≡ numbers_at b o n ++ (u64_at b (o + 8 * n) ∷ [])
unfolding numbers_at
numbers_more b o zero = rw add-zero
numbers_more b o (suc n) =
    let q : suc n + 1 ≡ suc (n + 1) = omega arith in
    let r : o + 8 + 8 * n ≡ o + 8 * suc n = omega arith in
    rw (q, ← r) (ap (λ (l : List ℕ). u64_at b o ∷ l) (numbers_more b (o + 8) n))

-- a loop that copies numbers to the front of a part
pub ruleset copying = (common_steps, numbers_more, front_more, length_numbers)

-- three numbers are an entry
pub numbers_stored : (b : List ℕ) (o n : ℕ) → numbers_at b o (3 * n) ≡ numbers (entries_at b o n)
unfolding numbers_at numbers entries_at
numbers_stored b o zero = refl
numbers_stored b o (suc n) =
    let q : 3 * suc n ≡ suc (suc (suc (3 * n))) = omega arith in
    let r8 : o + 8 + 8 ≡ o + 16 = omega arith in
    let r16 : o + 16 + 8 ≡ o + 24 = omega arith in
    rw (q, r8, r16) (ap (λ (l : List ℕ). u64_at b o ∷ u64_at b (o + 8) ∷ u64_at b (o + 16) ∷ l) (numbers_stored b (o + 24) n))

-- the numbers lie within the buffer, an output of n numbers is long enough for them, and the map is copied by them; a refusal tells that
-- there are none, and success that they are the map's
pub record Copies (b : List ℕ) (n : ℕ) (m : MapNumbers) : Type 0 where
  pub within : m.start + 8 * m.count ≤ length b
  pub room : m.count ≤ n
  pub copied : (out : List ℕ) → length out ≡ n → map_copied b out ≡ (m.answer, over (numbers_at b m.start m.count) out)
  pub none : (r : Refusal) → m.answer ≡ Err r → m.count ≡ 0
  pub all : (k : ℕ) → m.answer ≡ Ok k → (o : ℕ) × (a : Attribute) × (first_in (of_type 3) (context_of b) ≡ found o a) × (m.start ≡ o + 8) × (m.count ≡ 3 * k)

-- no success is a refusal
done_refused : {A : Type 0} (k : ℕ) (r : Refusal) → Ok k ≡ Err r → A
done_refused k r e = absurd (let z : ◌≡◌ {A = ℕ} 0 1 = cc in omega arith)

module _ (b : List ℕ) (n : ℕ) where
  -- ---- each answer from the facts that lead to it
  pub numbers_passed : {r : Refusal} → used_length 2 b ≡ Err r → no_numbers (Err r) ≡ map_numbers b n
  unfolding map_numbers
  numbers_passed e = rw e

  numbers_read : {u : ℕ} → used_length 2 b ≡ Ok u → found_numbers (used (context_of b)) n (first_in (of_type 3) (context_of b)) ≡ map_numbers b n
  unfolding map_numbers
  numbers_read e = rw e

  pub numbers_absent : (u : ℕ) → used_length 2 b ≡ Ok u → found_start (first_in (of_type 3) (context_of b)) ≡ 0 → no_numbers (refused ABSENT u) ≡ map_numbers b n
  numbers_absent u e z = rw (none_at (of_type 3) b z, ← (used_is_law b (u, e))) at (numbers_read e)

  -- ---- and what it says of the copy
  none_copied : (r : Refusal) → ((out : List ℕ) → length out ≡ n → map_copied b out ≡ (Err r, out)) → Copies b n (no_numbers (Err r))
  unfolding numbers_at
  none_copied r h = record { within = omega arith; room = omega arith; copied = h; none = λ s e. refl; all = λ k e. done_refused k r (sym e) }

  -- there is a map
  module _ (u : ℕ) (e : used_length 2 b ≡ Ok u) (f : FoundAt (of_type 3) b (stored_count b) (first_in (of_type 3) (context_of b))) where
    abbrev at_map : ℕ
    at_map = start b f.index

    abbrev entries : ℕ
    entries = entries_stored b at_map

    type_of_map : stored_type b f.index ≡ 3
    type_of_map = type_said b f.index 3 f.meets

    entries_said : entries_of (stored_attribute b f.index).body ≡ entries_at b (at_map + 8) entries
    unfolding decoded
    entries_said = rw type_of_map

    numbers_entries : pick (leb (3 * entries) n) (numbers_from at_map entries) (no_numbers (refused ROOM u)) ≡ map_numbers b n
    numbers_entries = rw (f.is, entries_said, length_entries b (at_map + 8) entries, ← (used_is_law b (u, e))) at (numbers_read e)

    pub numbers_room : n < 3 * entries → no_numbers (refused ROOM u) ≡ map_numbers b n
    numbers_room h = rw (lt-leb (3 * entries) n h) at numbers_entries

    pub numbers_found : 3 * entries ≤ n → numbers_from at_map entries ≡ map_numbers b n
    numbers_found h = rw (le-leb (3 * entries) n h) at numbers_entries

    copied_found : (out : List ℕ) → length out ≡ n
        → map_copied b out ≡ pick (leb (3 * entries) n) (Ok entries, over (numbers_at b (at_map + 8) (3 * entries)) out) (refused ROOM u, out)
    unfolding map_copied
    copied_found out l =
        rw (e, f.is, entries_said, length_entries b (at_map + 8) entries, l, ← (numbers_stored b (at_map + 8) entries), ← (used_is_law b (u, e)))

    fitting : leb (3 * entries) n ≡ true → Copies b n (numbers_from at_map entries)
    fitting q =
        let w = inside b (u, e) f.index f.below in
        record {
          within = omega (arith, w.least, w.within);
          room = leb-true (3 * entries) n q;
          copied = λ out l. rw q at (copied_found out l);
          none = λ r k. done_refused entries r k;
          all = λ k h. (at_map, stored_attribute b f.index, f.is, refl, (let c : entries ≡ k = cc in ap (λ (j : ℕ). 3 * j) c));
        }

    some_copied : (t : Bool) → leb (3 * entries) n ≡ t → Copies b n (pick t (numbers_from at_map entries) (no_numbers (refused ROOM u)))
    some_copied true q = fitting q
    some_copied false q = none_copied (refusal ROOM u) (λ out l. rw q at (copied_found out l))

    found_copied_law : Copies b n (map_numbers b n)
    found_copied_law = subst (Copies b n) numbers_entries (some_copied (leb (3 * entries) n) refl)

  absent_copied : (u : ℕ) → used_length 2 b ≡ Ok u → found_start (first_in (of_type 3) (context_of b)) ≡ 0 → (out : List ℕ) → map_copied b out ≡ (refused ABSENT u, out)
  unfolding map_copied
  absent_copied u e z out = rw (e, none_at (of_type 3) b z, ← (used_is_law b (u, e)))

  read_copied : (u : ℕ) → used_length 2 b ≡ Ok u → (s : ℕ) → found_start (first_in (of_type 3) (context_of b)) ≡ s → Copies b n (map_numbers b n)
  read_copied u e zero z = subst (Copies b n) (numbers_absent u e z) (none_copied (refusal ABSENT u) (λ out l. absent_copied u e z out))
  read_copied u e (suc s) z = found_copied_law u e (found_at (of_type 3) b (λ y. omega (arith, y, z)))

  passed_copied : {r : Refusal} → used_length 2 b ≡ Err r → (out : List ℕ) → map_copied b out ≡ (Err r, out)
  unfolding map_copied
  passed_copied e out = rw e

  either_copied : (u : Answer) → used_length 2 b ≡ u → Copies b n (map_numbers b n)
  either_copied (Ok u) e = read_copied u e _ refl
  either_copied (Err r) e = subst (Copies b n) (numbers_passed e) (none_copied r (λ out l. passed_copied e out))

  pub numbers_copied : Copies b n (map_numbers b n)
  numbers_copied = either_copied (used_length 2 b) refl

-- The strings of a written payload fill its table in turn, so none of its bytes is silent.
use Prim.Native.Nat.{ℕ, suc, ◌+◌, ◌≤◌, ◌<◌}
use mathlib.Core.Path.{◌≡◌, refl, sym, ◌∙◌}
use mathlib.Core.Logic.{◌⊎◌, ⊎_elim}
use mathlib.Core.Bool.{Bool, true, false}
use mathlib.Core.List.{List, [], ◌∷◌, ◌++◌, append_assoc}
use native.Mathlib.Omega.{arith}
use native.Mathlib.Nat.{add-zero}
use lib.ListN.{length, get_or, length-append}
use Rattle.byte_layout.specs.Stored.{closed}
use Rattle.handover_format.specs.Payloads.{names_name, names_meta, Entry, Payload, no_entry, table, table_length, Named, Named.agent, Named.name, Named.meta}
use Rattle.handover_format.specs.PayloadDecoding.{pick}
use Rattle.handover_format.specs.WrittenForm.{closed_if, name_bytes, meta_bytes, strings_of, strings, words_at, placed, placed_from, payload}
use Rattle.handover_format.proofs.Silence.{silent_plainly}
use Rattle.handover_format.proofs.WrittenLaws.{length_closed}
use Rattle.handover_written.specs.InTurn.{Place, named_by, named_by_each, named_in_order, FillInTurn, InTurn, NoPadding}
use Rattle.handover_written.proofs.Placing.{table_length_law}

abbrev place : ℕ → List ℕ → Place
place o l = record { offset = o; string = l }

-- ---- in turn
-- one string, where it is named
slot_turn : (u : Bool) (o x : ℕ) (l : List ℕ) (ss : List Place) (n : ℕ) → FillInTurn (o + length (closed_if u l)) ss n
    → FillInTurn o (pick u (place (pick u o x) l ∷ []) [] ++ ss) n
unfolding FillInTurn closed_if
slot_turn true o x l ss n h = let q : o + length (closed l) ≡ o + length l + 1 = omega (arith, length_closed l) in (refl, rw q at h)
slot_turn false o x l ss n h = rw add-zero at h

-- those of a record
entry_turn : (o : ℕ) (e : Entry) (ss : List Place) (n : ℕ) → FillInTurn (o + length (strings_of e)) ss n → FillInTurn o (named_by (placed o e) ++ ss) n
unfolding words_at
entry_turn o e ss n h =
    let u = names_name e.words.tag in
    let v = names_meta e.words.tag in
    let m = o + length (name_bytes e) in
    let q : o + length (strings_of e) ≡ m + length (meta_bytes e) = omega (arith, length-append (name_bytes e) (meta_bytes e)) in
    let g : FillInTurn m (pick v (place (pick v m e.words.meta) e.meta ∷ []) [] ++ ss) n = slot_turn v m e.words.meta e.meta ss n (rw q at h) in
    rw append_assoc (slot_turn u o e.words.name e.name _ n g)

entries_turn : (o : ℕ) (es : List Entry) → FillInTurn o (named_by_each (placed_from o es)) (o + length (strings es))
unfolding FillInTurn named_by_each placed_from strings
entries_turn o [] = sym (add-zero o)
entries_turn o (e ∷ es) =
    let q : o + length (strings_of e) + length (strings es) ≡ o + length (strings (e ∷ es)) = omega (arith, length-append (strings_of e) (strings es)) in
    entry_turn o e (named_by_each (placed_from (o + length (strings_of e)) es)) _ (rw q at (entries_turn (o + length (strings_of e)) es))

pub in_turn_law : InTurn
unfolding FillInTurn
in_turn_law who es =
    let q : 0 + length who + 1 ≡ length (closed who) = omega (arith, length_closed who) in
    let n : length (closed who) + length (strings es) ≡ table_length (payload who es) = sym (table_length_law who es ∙ length-append (closed who) (strings es)) in
    (refl, rw (q, ← n) (entries_turn (length (closed who)) es))

-- ---- no padding
unfoldable All : (Place → Type 0) → List Place → Type 0
All P [] = Unit {0}
All P (s ∷ ss) = P s × All P ss

module _ (P : Place → Type 0) where
  all_append : (xs ys : List Place) → All P xs → All P ys → All P (xs ++ ys)
  unfolding All
  all_append [] ys g h = h
  all_append (x ∷ xs) ys g h = (g.0, all_append xs ys g.1 h)

  picked_all : (u : Bool) (s : Place) → (u ≡ true → P s) → All P (pick u (s ∷ []) [])
  unfolding All
  picked_all true s h = (h refl, tt)
  picked_all false s h = tt

  abbrev OfEntry : Entry → Type 0
  OfEntry e = (names_name e.words.tag ≡ true → P (place e.words.name e.name)) × (names_meta e.words.tag ≡ true → P (place e.words.meta e.meta))

  all_each : (es : List Entry) → ((i : ℕ) → i < length es → OfEntry (get_or es i no_entry)) → All P (named_by_each es)
  unfolding All named_by_each
  all_each [] h = tt
  all_each (e ∷ es) h =
      let a = h 0 (omega arith) in
      all_append (named_by e) (named_by_each es)
      (all_append (pick (names_name e.words.tag) (place e.words.name e.name ∷ []) []) _ (picked_all (names_name e.words.tag) _ a.0) (picked_all (names_meta e.words.tag) _ a.1))
      (all_each es (λ i k. h (suc i) (omega arith)))

  all_named : (p : Payload) → ((o : ℕ) (l : List ℕ) → Named p o l → P (place o l)) → All P (named_in_order p)
  unfolding All
  all_named p h = (h p.agent p.agent_name agent, all_each p.entries (λ i k. (λ t. h _ _ (name i k t), λ t. h _ _ (meta i k t))))

-- a byte of the table is within one of the strings that fill it
module _ (t i : ℕ) where
  abbrev Beside : Place → Type 0
  Beside s = (i < t + s.offset) ⊎ (t + s.offset + length s.string < i)

  not_beside : (o : ℕ) (ss : List Place) (n : ℕ) → FillInTurn o ss n → All Beside ss → t + o ≤ i → i < t + n → ⊥
  unfolding FillInTurn All
  not_beside o [] n f a h k = omega arith
  not_beside o (s ∷ ss) n f a h k =
      ⊎_elim (λ q. omega (arith, f.0)) (λ q. not_beside (o + length s.string + 1) ss n f.1 a.1 (omega (arith, f.0)) k) a.0

pub no_padding : NoPadding
no_padding who es room m i k s =
    let p = payload who es in
    let out = (silent_plainly room p m i).0.0 s in
    not_beside (table p) i 0 (named_in_order p) (table_length p) (in_turn_law who es) (all_named (Beside (table p) i) p out.1) (omega (arith, out.0)) (omega (arith, out.0))

-- Sound records, placed after an agent, make a payload that the buffer with their bytes holds.
use Prim.Native.Nat.{ℕ, zero, suc, ◌+◌, ◌-◌, ◌^◌, ◌≤◌, ◌<◌}
use mathlib.Core.Path.{◌≡◌, refl, sym, ap, ◌∙◌, subst}
use mathlib.Core.Logic.{◌↔◌}
use mathlib.Core.Bool.{Bool, true, false}
use mathlib.Core.List.{List, [], ◌∷◌, ◌++◌}
use native.Mathlib.Omega.{arith}
use native.Mathlib.Nat.{not-suc-le-zero, le_of_suc-le-suc, add-zero}
use lib.ListN.{length, get_or, drop, length-append, length-drop}
use Rattle.byte_layout.specs.Fields.{Field, cells, filled, Fits}
use Rattle.byte_layout.specs.Placed.{LiesAt}
use Rattle.byte_layout.specs.Stored.{over, closed}
use Rattle.byte_layout.proofs.Cells.{index, length_filled}
use Rattle.byte_layout.proofs.FieldLaws.{length_cells}
use Rattle.byte_layout.proofs.PlacedLaws.{closed_text_lies}
use Rattle.byte_layout.proofs.Runs.{StandsAt, stands_over, stands_front, stands_back, stands_lies}
use Rattle.lent_buffers.specs.Room.{room_of}
use Rattle.handover_format.specs.declared.records.Record.{Record}
use Rattle.handover_format.specs.Payloads.{handover_end, names_name, names_meta, Entry, Payload, count, no_entry, entry_in, record_start, table, table_length, Named, Named.agent, Named.name, Named.meta}
use Rattle.handover_format.specs.PayloadLayouts.{record_fields, entries_fields, front_fields, RowOf, RowOf.front, RowOf.string}
use Rattle.handover_format.specs.PayloadRules.{StringMeets, Meets}
use Rattle.handover_format.specs.PayloadDecoding.{pick}
use Rattle.handover_format.specs.WrittenForm.{closed_if, name_bytes, meta_bytes, strings_of, strings, words_at, placed, placed_from, payload_size, payload, payload_bytes}
use Rattle.handover_format.proofs.PayloadRows.{width_front}
use Rattle.handover_format.proofs.WrittenLaws.{length_closed, length_placed}
use Rattle.handover_acceptance.specs.PayloadAcceptance.{HoldsPayload}
use Rattle.handover_written.specs.Placing.{Text, Sound, SoundRecords, PlacedHolds, AsGiven, EachAsGiven}

-- record i, with its strings wherever those before it end
placed_at : (o : ℕ) (es : List Entry) (i : ℕ) → i < length es → (q : ℕ) × (get_or (placed_from o es) i no_entry ≡ placed q (get_or es i no_entry))
unfolding placed_from
placed_at o [] i h = absurd (not-suc-le-zero h)
placed_at o (e ∷ es) zero h = (o, refl)
placed_at o (e ∷ es) (suc i) h = placed_at (o + length (strings_of e)) es i (le_of_suc-le-suc h)

-- ---- what a record is given with stays
unnamed : (t : Bool) (o x : ℕ) → t ≡ false → pick t o x ≡ x
unnamed true o x e = absurd (let z : ◌≡◌ {A = ℕ} 0 1 = cc in omega arith)
unnamed false o x e = refl

placed_given : (o : ℕ) (e : Entry) → AsGiven e (placed o e)
unfolding words_at
placed_given o e =
    record {
      tag = refl;
      flags = refl;
      start = refl;
      size = refl;
      name_word = λ q. unnamed (names_name e.words.tag) o e.words.name q;
      meta_word = λ q. unnamed (names_meta e.words.tag) (o + length (name_bytes e)) e.words.meta q;
      name = refl;
      meta = refl;
    }

pub each_as_given : EachAsGiven
each_as_given who es = (length_placed (length (closed who)) es, given)
  where
    given : (i : ℕ) → i < length es → AsGiven (get_or es i no_entry) (entry_in (payload who es) i)
    given i h = let a = placed_at (length (closed who)) es i h in subst (AsGiven (get_or es i no_entry)) (sym a.1) (placed_given a.0 (get_or es i no_entry))

-- ---- each word is of its width
picked_fits : (t : Bool) (x y z : ℕ) → x < z → y < z → pick t x y < z
picked_fits true x y z h g = h
picked_fits false x y z h g = g

words_fit : (r : Record) (o m : ℕ) → o < 256 ^ 4 → m < 256 ^ 4 → Fits (record_fields r) → Fits (record_fields (words_at r o m))
unfolding Fits words_at
words_fit r o m g h f =
    (f.0, (f.1.0, (f.1.1.0, (f.1.1.1.0, (picked_fits (names_name r.tag) o r.name _ g f.1.1.1.1.0, (picked_fits (names_meta r.tag) m r.meta _ h f.1.1.1.1.1.0, tt))))))

abbrev Each : List Entry → Type 0
Each es = (i : ℕ) → i < length es → Sound (get_or es i no_entry)

rest : (e : Entry) (es : List Entry) → Each (e ∷ es) → Each es
rest e es s i k = s (suc i) (omega arith)

entries_fit : (o : ℕ) (es : List Entry) → Each es → o + length (strings es) < 256 ^ 4 → Fits (entries_fields (placed_from o es))
unfolding Fits entries_fields placed_from strings
entries_fit o [] s h = tt
entries_fit o (e ∷ es) s h =
    let l = length-append (strings_of e) (strings es) in
    let m = length-append (name_bytes e) (meta_bytes e) in
    let f = words_fit e.words o (o + length (name_bytes e)) (omega arith) (omega arith) (s 0 (omega arith)).fits in
    (f.0, (f.1.0, (f.1.1.0, (f.1.1.1.0, (f.1.1.1.1.0, (f.1.1.1.1.1.0, entries_fit (o + length (strings_of e)) es (rest e es s) (omega arith)))))))

-- ---- strings
-- a string that closes within the n bytes of the table at t, and stands there
record Stands (d : List ℕ) (t n o : ℕ) (l : List ℕ) : Type 0 where
  meets : StringMeets n o l
  there : StandsAt d (t + o) (closed l)

module _ (d : List ℕ) (t n : ℕ) where
  picked_stands : (u : Bool) (o x : ℕ) (l : List ℕ) → u ≡ true → Text l → o + length (closed_if u l) ≤ n → StandsAt d (t + o) (closed_if u l) → Stands d t n (pick u o x) l
  unfolding closed_if
  picked_stands true o x l e h w g = record { meets = record { closes = omega (arith, length_closed l); bytes = h }; there = g }
  picked_stands false o x l e h w g = absurd (let z : ◌≡◌ {A = ℕ} 0 1 = cc in omega arith)

  abbrev NamesStand : Entry → Type 0
  NamesStand e = (names_name e.words.tag ≡ true → Stands d t n e.words.name e.name) × (names_meta e.words.tag ≡ true → Stands d t n e.words.meta e.meta)

  entry_stands : (o : ℕ) (e : Entry) → Sound e → o + length (strings_of e) ≤ n → StandsAt d (t + o) (strings_of e) → NamesStand (placed o e)
  unfolding words_at
  entry_stands o e s h g =
      let x = name_bytes e in
      let y = meta_bytes e in
      let l = length-append x y in (
        λ q. picked_stands (names_name e.words.tag) o e.words.name e.name q s.name_text (omega arith) (stands_front d (t + o) x y g),
        λ q. picked_stands (names_meta e.words.tag) (o + length x) e.words.meta e.meta q s.meta_text (omega arith) (stands_back d (t + o) (t + (o + length x)) x y (omega arith) g),
      )

  strings_stand : (o : ℕ) (es : List Entry) → Each es → o + length (strings es) ≤ n → StandsAt d (t + o) (strings es) → (i : ℕ) → i < length es → NamesStand (get_or (placed_from o es) i no_entry)
  unfolding placed_from strings
  strings_stand o [] s h g i k = absurd (not-suc-le-zero k)
  strings_stand o (e ∷ es) s h g zero k =
      entry_stands o e (s 0 (omega arith)) (omega (arith, length-append (strings_of e) (strings es))) (stands_front d (t + o) (strings_of e) (strings es) g)
  strings_stand o (e ∷ es) s h g (suc i) k =
      strings_stand (o + length (strings_of e)) es (rest e es s) (omega (arith, length-append (strings_of e) (strings es)))
      (stands_back d (t + o) (t + (o + length (strings_of e))) (strings_of e) (strings es) (omega arith) g) i (le_of_suc-le-suc k)

-- ---- the sizes of a payload
module _ (who : List ℕ) (es : List Entry) where
  abbrev p : Payload
  p = payload who es

  abbrev first : List ℕ
  first = filled (cells (front_fields p))

  count_placed : count p ≡ length es
  count_placed = length_placed (length (closed who)) es

  table_placed : table p ≡ record_start (length es)
  table_placed = ap record_start count_placed

  pub table_length_law : table_length p ≡ length (closed who ++ strings es)
  table_length_law = rw table_placed (omega arith)

  front_length : length first ≡ record_start (length es)
  front_length = length_filled (cells (front_fields p)) ∙ length_cells (front_fields p) ∙ width_front p ∙ table_placed

  pub length_payload : length (payload_bytes who es) ≡ payload_size who es
  length_payload = omega (arith, length-append first (closed who ++ strings es), front_length)

  pub length_over : (b : List ℕ) → payload_size who es ≤ length b → length (over (payload_bytes who es) b) ≡ length b
  length_over b h = let x = payload_bytes who es in omega (arith, length-append x (drop (length x) b), length-drop (length x) b, length_payload)

  -- ---- the payload
  module _ (b : List ℕ) (text : Text who) (sound : SoundRecords es) (within : payload_size who es ≤ room_of b) where
    abbrev n : ℕ
    n = length (closed who ++ strings es)

    abbrev t : ℕ
    t = record_start (length es)

    abbrev d : List ℕ
    d = over (payload_bytes who es) b

    agent_length : n ≡ length (closed who) + length (strings es)
    agent_length = length-append (closed who) (strings es)

    all_stands : StandsAt d 0 (first ++ (closed who ++ strings es))
    all_stands = stands_over (payload_bytes who es) b

    table_stands : StandsAt d t (closed who ++ strings es)
    table_stands = stands_back d 0 t first (closed who ++ strings es) (omega (arith, front_length)) all_stands

    stand : (i : ℕ) → i < count p → NamesStand d t n (entry_in p i)
    stand i k =
        strings_stand d t n (length (closed who)) es sound.each (omega (arith, agent_length))
        (stands_back d t (t + length (closed who)) (closed who) (strings es) refl table_stands) i (omega (arith, count_placed))

    named : (o : ℕ) (l : List ℕ) → Named p o l → Stands d t n o l
    named o l agent =
        record {
          meets = record { closes = omega (arith, agent_length, length_closed who); bytes = text };
          there = rw add-zero (stands_front d t (closed who) (strings es) table_stands);
        }
    named o l (name i k e) = (stand i k).0 e
    named o l (meta i k e) = (stand i k).1 e

    -- what holds of each record wherever its strings are
    placed_each : (P : ℕ → Entry → Type 0) → ((q i : ℕ) → i < length es → P i (placed q (get_or es i no_entry))) → (i : ℕ) → i < count p → P i (entry_in p i)
    placed_each P h i k =
        let l : i < length es = omega (arith, count_placed) in
        let a = placed_at (length (closed who)) es i l in
        subst (P i) (sym a.1) (h a.0 i l)

    meets : Meets (room_of b) p
    unfolding Fits words_at
    meets =
        let c = count_placed in
        let s : payload_size who es < 256 ^ 4 = omega arith in
        record {
          fits = (omega arith, (omega arith, (s, (omega (arith, sound.most), entries_fit (length (closed who)) es sound.each (omega (arith, agent_length))))));
          some = omega (arith, sound.some);
          most = omega (arith, sound.most);
          least = rw table_placed (omega arith);
          within = within;
          last = placed_each (λ i e. (e.words.tag ≡ handover_end) ↔ (i + 1 ≡ count p)) (λ q i l. rw c (sound.last i l));
          ranges = placed_each (λ i e. e.words.start + e.words.size ≤ 18446744073709551616) (λ q i l. (sound.each i l).range);
          strings = λ o l h. rw table_length_law (named o l h).meets;
          nameless = placed_each (λ i e. names_name e.words.tag ≡ false → e.name ≡ []) (λ q i l. (sound.each i l).nameless);
          metaless = placed_each (λ i e. names_meta e.words.tag ≡ false → e.meta ≡ []) (λ q i l. (sound.each i l).metaless);
        }

    lies : (o : ℕ) (fs : List Field) → RowOf p o fs → LiesAt d o (cells fs)
    lies o fs front = index d 0 (cells (front_fields p)) (stands_lies d 0 (cells (front_fields p)) (stands_front d 0 first (closed who ++ strings es) all_stands))
    lies o fs (string q l h) = closed_text_lies d (table p + q) (table_length p - q) l (rw table_placed (named q l h).there)

    holds : HoldsPayload d p
    holds = let l = length_over b (omega arith) in (rw l meets, record { within = omega arith; lies = lies })

pub placed_holds : PlacedHolds
placed_holds who es b = holds who es b

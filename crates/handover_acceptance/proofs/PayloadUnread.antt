-- Two buffers that are alike where reading looks are read alike.
use Prim.Native.Nat.{ℕ, zero, suc, ◌+◌, ◌-◌, ◌≤◌, ◌<◌, min}
use mathlib.Core.Path.{◌≡◌, refl, sym, ap, ap₂, ◌∙◌, subst}
use mathlib.Core.Bool.{Bool, true, false}
use mathlib.Core.List.{List, ◌++◌, append-nil}
use native.Mathlib.Omega.{arith}
use native.Mathlib.Nat.{zero-add}
use lib.ListN.{length, get_or, set, length-set, length-append, get_or-append}
use lib.Seq.{get_or-set_other}
use lib.Dec.{leb, ltb, eqb}
use borrow.Author.Tests.{leb-true}
use Rattle.words.specs.Words.{number_at, u32_at}
use Rattle.byte_layout.specs.Fields.{Cell, Field.text, cells, text_cells, SilentAt}
use Rattle.byte_layout.specs.Stored.{text_at}
use Rattle.byte_layout.proofs.FieldLaws.{length_cells, length_field}
use Rattle.byte_layout.proofs.SameFields.{number_alike, same_along, same_text}
use Rattle.lent_buffers.specs.Room.{room_of}
use Rattle.refusals.specs.Refusals.{unless, SHORT, COUNT, MAGIC, PAYLOAD, STRING}
use Rattle.refusals.specs.Answers.{Answer, or_refused, or_refused_at, and_then}
use Rattle.handover_format.specs.Payloads.{Payload, names_name, names_meta, count, record_start, table, table_length, Named, Named.agent, Named.name, Named.meta, Entry}
use Rattle.handover_format.specs.PayloadLayouts.{magic, front_fields, string_fields, RowOf.front, RowOf.string, Silent}
use Rattle.handover_format.specs.PayloadDecoding.{stored_agent, stored_size, stored_count, stored_table, stored_record, stored_entry, string_at, payload_of}
use Rattle.handover_format.specs.RecordTests.{if_named}
use Rattle.handover_format.proofs.PayloadRows.{width_front}
use Rattle.handover_format.proofs.PayloadDecoded.{count_decoded, entry_decoded, table_decoded, length_decoded, says_decoded}
use Rattle.handover_format.proofs.Silence.{loud_front}
use Rattle.handover_reading.specs.PayloadReading.{head_check, words_check, record_check, closes, strings_check, named_check, each_of, body_answer, reading_of}
use Rattle.handover_reading.proofs.HeadLaws.{HeadHolds, head_holds}
use Rattle.handover_reading.proofs.Accepted.{stored_length}
use Rattle.handover_acceptance.specs.PayloadUnread.{SameWhereRead, Unread, UnreadBytes}

-- ---- chains
or_alike : (n m o : ℕ) (x y : Answer) → n ≡ m → (m ≡ 0 → x ≡ y) → or_refused n o x ≡ or_refused m o y
or_alike n zero o x y e h = rw e (h refl)
or_alike n (suc m) o x y e h = rw e

each_alike : (f g : ℕ → ℕ) (v i n : ℕ) → ((j : ℕ) → j < n → f (i + j) ≡ g (i + j)) → each_of f v i n ≡ each_of g v i n
unfolding each_of
each_alike f g v i zero h = refl
each_alike f g v i (suc n) h =
    let e : f i ≡ g i = let q : i + 0 ≡ i = omega arith in rw q at (h 0 (omega arith)) in
    ap₂ (λ (k : ℕ) (x : Answer). or_refused_at k i (record_start i) x) e
    (each_alike f g v (suc i) n (λ j l. let q : suc i + j ≡ i + suc j = omega arith in rw q (h (suc j) (omega arith))))

if_alike : (t s u : Bool) → (t ≡ true → s ≡ u) → if_named t s ≡ if_named t u
unfolding if_named
if_alike true s u h = h refl
if_alike false s u h = refl

module _ (b d : List ℕ) (a : SameWhereRead b d) where
  -- ---- the head
  word : (o : ℕ) → 16 ≤ room_of b → o + 4 ≤ 16 → u32_at d o ≡ u32_at b o
  word o h l = number_alike b d o 4 (λ i k. a.head (o + i) (omega arith) (omega arith))

  head_alike : (t : Bool) → leb 16 (room_of b) ≡ t → head_check d ≡ head_check b
  unfolding head_check
  head_alike true e =
      let h = leb-true 16 (room_of b) e in
      let r = a.room in
      let m = word 0 h (omega arith) in
      let n = word 12 h (omega arith) in
      let z = word 8 h (omega arith) in
      λ j. unless (leb 16 (r j)) SHORT
      (unless (eqb (m j) magic) MAGIC
      (unless (leb 1 (n j)) COUNT (unless (leb (n j) 1024) COUNT (unless (leb (record_start (n j)) (z j)) PAYLOAD (unless (leb (z j) (r j)) PAYLOAD 0)))))
  head_alike false e = rw (a.room, e) refl

  -- ---- after a head that breaks no rule
  module _ (h : HeadHolds b) where
    abbrev p : Payload
    p = payload_of b

    front_same : (i : ℕ) → i < stored_table b → get_or d i 0 ≡ get_or b i 0
    front_same i l =
        a.rest i (omega (arith, h.least, h.within)) (omega (arith, h.least))
        (λ s. loud_front p i (omega (arith, length_cells (front_fields p), width_front p, table_decoded b)) (s 0 i (front_fields p) front (sym (zero-add i))))

    number_same : (o k : ℕ) → o + k ≤ stored_table b → number_at d o k ≡ number_at b o k
    number_same o k l = number_alike b d o k (λ i m. front_same (o + i) (omega arith))

    record_same : (i : ℕ) → i < stored_count b → stored_record d i ≡ stored_record b i
    record_same i l =
        let o = record_start i in
        λ j. record {
          tag = number_same o 4 (omega arith) j;
          flags = number_same (o + 4) 4 (omega arith) j;
          start = number_same (o + 8) 8 (omega arith) j;
          size = number_same (o + 16) 8 (omega arith) j;
          name = number_same (o + 24) 4 (omega arith) j;
          meta = number_same (o + 28) 4 (omega arith) j;
        }

    -- ---- strings
    text_loud : (o : ℕ) (l : List ℕ) → Named p o l → (i : ℕ) → Silent p (stored_table b + o + i)
        → SilentAt (text_cells (stored_length b - o) (text_at b (stored_table b + o) (stored_length b - o))) i
    unfolding cells
    text_loud o l m i s =
        let t = table_decoded b in
        let n = length_decoded b in
        let e : l ≡ text_at b (stored_table b + o) (stored_length b - o) =
        sym ((says_decoded b h.first).strings o l m) ∙ (λ j. text_at b (t j + o) (n j - o)) in
        let c = s (table p + o) i (string_fields (table_length p) o l) (string o l m) (omega (arith, t)) in
        let x : SilentAt (text_cells (table_length p - o) l) i = rw append-nil at c in
        subst (λ (y : List Cell). SilentAt y i) (λ j. text_cells (n j - o) (e j)) x

    string_same : (o : ℕ) (l : List ℕ) → Named p o l → string_at d (stored_table b) (stored_length b) o ≡ string_at b (stored_table b) (stored_length b) o
    string_same o l m =
        let q = stored_table b + o in
        let k = stored_length b - o in
        same_text b d q k
        (same_along b d q (text_cells k (text_at b q k))
        (λ i c n.
        let f : i < k = omega (arith, c, length_field (text k (text_at b q k))) in
        a.rest (q + i) (omega (arith, h.least, h.within)) (omega (arith, h.least)) (λ s. n (text_loud o l m i s))))

    closes_same : (o : ℕ) (l : List ℕ) → Named p o l → closes d (stored_table b) (stored_length b) o ≡ closes b (stored_table b) (stored_length b) o
    unfolding closes
    closes_same o l m = ap (λ (y : List ℕ). ltb (length y) (stored_length b - o)) (string_same o l m)

    -- the strings that record i names
    module _ (i : ℕ) (l : i < stored_count b) where
      below : i < count p
      below = omega (arith, count_decoded b)

      names_it : names_name (stored_record b i).tag ≡ true → Named p (stored_record b i).name (stored_entry b i).name
      names_it = subst (λ (e : Entry). names_name e.words.tag ≡ true → Named p e.words.name e.name) (entry_decoded b i l) (λ t. name i below t)

      metas_it : names_meta (stored_record b i).tag ≡ true → Named p (stored_record b i).meta (stored_entry b i).meta
      metas_it = subst (λ (e : Entry). names_meta e.words.tag ≡ true → Named p e.words.meta e.meta) (entry_decoded b i l) (λ t. meta i below t)

      strings_same : named_check d (stored_table b) (stored_length b) i ≡ named_check b (stored_table b) (stored_length b) i
      unfolding strings_check
      strings_same =
          let r = stored_record b i in
          let n = if_alike (names_name r.tag) _ _ (λ t. closes_same r.name _ (names_it t)) in
          let m = if_alike (names_meta r.tag) _ _ (λ t. closes_same r.meta _ (metas_it t)) in
          ap (strings_check d (stored_table b) (stored_length b)) (record_same i l) ∙ (λ j. unless (n j) STRING (unless (m j) STRING 0))

    -- ---- all of them
    agent_same : stored_agent d ≡ stored_agent b
    agent_same = word 4 h.room (omega arith)

    agent_closes : closes d (stored_table b) (stored_length b) (stored_agent d) ≡ closes b (stored_table b) (stored_length b) (stored_agent b)
    unfolding payload_of
    agent_closes = ap (closes d (stored_table b) (stored_length b)) agent_same ∙ closes_same (stored_agent b) _ agent

    body_same : body_answer d (stored_count b) (stored_size b) ≡ body_answer b (stored_count b) (stored_size b)
    unfolding body_answer
    body_same =
        let n = stored_count b in
        let v = stored_size b in
        let e = each_alike (record_check d n) (record_check b n) v 0 n (λ j l. rw zero-add (ap (words_check (eqb (j + 1) n)) (record_same j l))) in
        let c = agent_closes in
        let f = each_alike (named_check d (stored_table b) (stored_length b)) (named_check b (stored_table b) (stored_length b)) v 0 n (λ j l. rw zero-add (strings_same j l)) in
        λ j. and_then (e j) (or_refused (unless (c j) STRING 0) 0 (f j))

pub unread : Unread
unfolding reading_of
unread b d a =
    or_alike (head_check d) (head_check b) 0 _ _ (head_alike b d a (leb 16 (room_of b)) refl)
    (λ z.
    let h = head_holds b z in
    let n = word b d a 12 h.room (omega arith) in
    let v = word b d a 8 h.room (omega arith) in
    (λ j. body_answer d (n j) (v j)) ∙ body_same b d a h)

-- ---- byte by byte
set_room : (b : List ℕ) (i x : ℕ) → room_of (set b i x) ≡ room_of b
set_room b i x = ap (λ (n : ℕ). min n 65536) (length-set b i x)

other : (b : List ℕ) (i x j : ℕ) → (j ≡ i → ⊥) → get_or (set b i x) j 0 ≡ get_or b j 0
other b i x j n = get_or-set_other b i j x 0 n

past_room_law : (b rest : List ℕ) → 65536 ≤ length b → reading_of (b ++ rest) ≡ reading_of b
past_room_law b rest h =
    unread b (b ++ rest)
    (record {
      room = omega (arith, length-append b rest);
      head = λ i l k. get_or-append b rest 0 i (omega arith);
      rest = λ i l k s. get_or-append b rest 0 i (omega arith);
    })

past_size_law : (b : List ℕ) (i x : ℕ) → 16 ≤ i → stored_size b ≤ i → reading_of (set b i x) ≡ reading_of b
past_size_law b i x h g =
    unread b (set b i x)
    (record {
      room = set_room b i x;
      head = λ j l k. other b i x j (λ e. omega arith);
      rest = λ j l k s. other b i x j (λ e. omega arith);
    })

silent_byte : (b : List ℕ) (i x : ℕ) → 16 ≤ i → Silent (payload_of b) i → reading_of (set b i x) ≡ reading_of b
silent_byte b i x h g =
    unread b (set b i x)
    (record {
      room = set_room b i x;
      head = λ j l k. other b i x j (λ e. omega arith);
      rest = λ j l k s. other b i x j (λ e. s (subst (Silent (payload_of b)) (sym e) g));
    })

pub unread_bytes : UnreadBytes
unread_bytes = record { past_room = past_room_law; past_size = past_size_law; silent = silent_byte }

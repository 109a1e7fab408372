-- Each test of writing fails just under its condition, and so a refusal is the first in order whose condition is met.
use Rattle.std.specs.Prelude.{Ok}
use Prim.Native.Nat.{ℕ, zero, suc, ◌+◌, ◌<◌}
use mathlib.Core.Path.{◌≡◌, refl, sym, ap, ◌∙◌}
use mathlib.Core.Logic.{◌↔◌, ◌⊎◌, inl, inr, ⊎_elim}
use mathlib.Core.Bool.{Bool, true, false, not, ◌&&◌}
use mathlib.Core.List.{List, [], ◌∷◌}
use native.Mathlib.Omega.{arith}
use native.Mathlib.Nat.{not-suc-le-zero}
use lib.ListN.{length, get_or}
use lib.Dec.{leb, eqb}
use borrow.Author.Tests.{leb-false, lt-leb, eqb-true, eqb-false, eq-eqb, ne_eqb, not-false}
use Rattle.byte_layout.specs.Stored.{text_at, over}
use Rattle.byte_layout.proofs.Copies.{text_short}
use Rattle.byte_layout.proofs.Texts.{text_zero, zero_text}
use Rattle.lent_buffers.specs.Room.{room_of}
use Rattle.refusals.specs.Refusals.{COUNT, RANGE, ROOM, STRING, END}
use Rattle.refusals.specs.Order.{NoneBreaks}
use Rattle.refusals.proofs.Order.{clash, AllFine, Chain, ends, link, one_number, below, through, either_fails}
use Rattle.handover_format.specs.Payloads.{handover_end, names_name, names_meta, Entry}
use Rattle.handover_format.specs.RecordTests.{end_suits, if_named}
use Rattle.handover_format.specs.WrittenForm.{payload_size, payload_bytes}
use Rattle.handover_arguments.specs.PayloadGiven.{count_given, record_given, agent_part, name_part, meta_part, start_given, length_given, agent_given, entries_given}
use Rattle.handover_arguments.specs.Judging.{every, end_good, range_good, run_has, string_good, strings_good, write_check}
use Rattle.handover_writing.specs.Writing.{payload_written}
use Rattle.handover_written.specs.WritingRefusals.{StringBreaks, StringBreaks.unlent, StringBreaks.passes, StringBreaks.zero_byte, WritingBreaks, WritingBreaks.none, WritingBreaks.many, WritingBreaks.misplaced, WritingBreaks.missing, WritingBreaks.range, WritingBreaks.agent, WritingBreaks.name, WritingBreaks.meta, WritingBreaks.past, writing_order, WritingRefuses, RefusedKeeps, WritingSucceeds}
use Rattle.handover_written.proofs.OrWritten.{refused_first, first_refused, refused_stays, done_none, none_done, none_written}

-- ---- a test over all records
abbrev FailsAt : (ℕ → Bool) → ℕ → Type 0
FailsAt f n = (i : ℕ) × (i < n) × (f i ≡ false)

every_fails : (f : ℕ → Bool) (n : ℕ) → (every f n ≡ false) ↔ FailsAt f n
unfolding every
every_fails f zero = (λ e. clash e, λ a. absurd (not-suc-le-zero a.1))
every_fails f (suc n) = through (either_fails (every f n) (f n) (every_fails f n) (λ e. e, λ e. e)) (⊎_elim (λ a. (a.0, omega (arith, a.1), a.2)) (λ e. (n, omega arith, e))) back
  where
    back : FailsAt f (suc n) → FailsAt f n ⊎ (f n ≡ false)
    back a = go (eqb a.0 n) refl
      where
        go : (t : Bool) → eqb a.0 n ≡ t → FailsAt f n ⊎ (f n ≡ false)
        go true e = inr (ap f (sym (eqb-true a.0 n e)) ∙ a.2)
        go false e = inl (a.0, omega (arith, a.1, eqb-false a.0 n e), a.2)

-- ---- one string
abbrev ZeroIn : List ℕ → ℕ → ℕ → Type 0
ZeroIn run s n = (j : ℕ) × (j < n) × (get_or run (s + j) 0 ≡ 0)

zero_fails : (run : List ℕ) (s n : ℕ) → (eqb (length (text_at run s n)) n ≡ false) ↔ ZeroIn run s n
zero_fails run s n = (there, λ z. ne_eqb _ n (λ e. omega (arith, zero_text run s n z.0 z.1 z.2)))
  where
    there : eqb (length (text_at run s n)) n ≡ false → ZeroIn run s n
    there e =
        let h : length (text_at run s n) < n = omega (arith, text_short run s n, eqb-false _ n e) in
        (length (text_at run s n), h, text_zero run s n h)

string_fails : (ps run : List ℕ) (k : ℕ) → (string_good ps run k ≡ false) ↔ StringBreaks ps run k
unfolding string_good run_has
string_fails ps run k =
    let s = start_given ps k in
    let n = length_given ps k in
    through
    (either_fails (leb (k + 2) (length ps)) _ (below (k + 2) (length ps)) (either_fails (leb (s + n) (length run)) _ (below (s + n) (length run)) (zero_fails run s n)))
    (⊎_elim unlent (⊎_elim passes (λ z. zero_byte z.0 z.1 z.2))) back
  where
    back : StringBreaks ps run k → (length ps < k + 2) ⊎ ((length run < start_given ps k + length_given ps k) ⊎ ZeroIn run (start_given ps k) (length_given ps k))
    back (unlent h) = inl h
    back (passes h) = inr (inl h)
    back (zero_byte j h e) = inr (inr (j, h, e))

named_fails : (t u : Bool) {A : Type 0} → (u ≡ false) ↔ A → (if_named t u ≡ false) ↔ ((t ≡ true) × A)
unfolding if_named
named_fails true u h = (λ e. (refl, h.0 e), λ a. h.1 a.1)
named_fails false u h = (λ e. clash e, λ a. clash (sym a.0))

-- ---- the tests, in order
module _ (rs ps run : List ℕ) (space : ℕ) where
  abbrev n : ℕ
  n = count_given rs

  abbrev Breaks : ℕ → Type 0
  Breaks = WritingBreaks rs ps run space

  of_count : Breaks COUNT → (n < 1) ⊎ (1024 < n)
  of_count (none h) = inl h
  of_count (many h) = inr h

  -- the end tag of record i
  abbrev Misplaced : ℕ → Type 0
  Misplaced i = ((record_given rs i).tag ≡ handover_end) × (i + 1 ≡ n → ⊥)

  abbrev Missing : ℕ → Type 0
  Missing i = ((record_given rs i).tag ≡ handover_end → ⊥) × (i + 1 ≡ n)

  end_fails : (i : ℕ) (t : Bool) → eqb (i + 1) n ≡ t → (end_suits t (record_given rs i).tag ≡ false) ↔ (Misplaced i ⊎ Missing i)
  end_fails i true e =
      (λ h. inr (eqb-false _ _ h, eqb-true (i + 1) n e), ⊎_elim (λ a. absurd (a.1 (eqb-true (i + 1) n e))) (λ a. ne_eqb _ _ a.0))
  end_fails i false e =
      (λ h. inl (eqb-true _ _ (not-false _ h), eqb-false (i + 1) n e), ⊎_elim (λ a. ap not (eq-eqb _ _ a.0)) (λ a. absurd (eqb-false (i + 1) n e a.1)))

  ends_fail : (every (end_good rs n) n ≡ false) ↔ Breaks END
  ends_fail =
      through (every_fails (end_good rs n) n)
      (λ a. ⊎_elim (λ h. misplaced a.0 a.1 h.0 h.1) (λ h. missing a.0 a.1 h.0 h.1) ((end_fails a.0 (eqb (a.0 + 1) n) refl).0 a.2)) back
    where
      back : Breaks END → FailsAt (end_good rs n) n
      back (misplaced i l h g) = (i, l, (end_fails i (eqb (i + 1) n) refl).1 (inl (h, g)))
      back (missing i l h g) = (i, l, (end_fails i (eqb (i + 1) n) refl).1 (inr (h, g)))

  ranges_fail : (every (range_good rs) n ≡ false) ↔ Breaks RANGE
  ranges_fail = through (every_fails (range_good rs) n) (λ a. range a.0 a.1 (leb-false _ _ a.2)) back
    where
      back : Breaks RANGE → FailsAt (range_good rs) n
      back (range i l h) = (i, l, lt-leb _ _ h)

  -- the strings of record i
  abbrev NameBreaks : ℕ → Type 0
  NameBreaks i = (names_name (record_given rs i).tag ≡ true) × StringBreaks ps run (name_part i)

  abbrev MetaBreaks : ℕ → Type 0
  MetaBreaks i = (names_meta (record_given rs i).tag ≡ true) × StringBreaks ps run (meta_part i)

  record_fails : (i : ℕ) → (strings_good rs ps run i ≡ false) ↔ (NameBreaks i ⊎ MetaBreaks i)
  unfolding strings_good
  record_fails i =
      either_fails _ _ (named_fails (names_name (record_given rs i).tag) _ (string_fails ps run (name_part i))) (named_fails (names_meta (record_given rs i).tag) _ (string_fails ps run (meta_part i)))

  strings_fail : ((string_good ps run agent_part && every (strings_good rs ps run) n) ≡ false) ↔ Breaks STRING
  strings_fail =
      through (either_fails (string_good ps run agent_part) _ (string_fails ps run agent_part) (every_fails (strings_good rs ps run) n))
      (⊎_elim (λ h. agent h) (λ a. ⊎_elim (λ h. name a.0 a.1 h.0 h.1) (λ h. meta a.0 a.1 h.0 h.1) ((record_fails a.0).0 a.2))) back
    where
      back : Breaks STRING → StringBreaks ps run agent_part ⊎ FailsAt (strings_good rs ps run) n
      back (agent h) = inl h
      back (name i l t h) = inr (i, l, (record_fails i).1 (inl (t, h)))
      back (meta i l t h) = inr (i, l, (record_fails i).1 (inr (t, h)))

  abbrev extent : ℕ
  extent = payload_size (agent_given ps run) (entries_given rs ps run)

  of_past : Breaks ROOM → space < extent
  of_past (past h) = h

  chain : Chain writing_order Breaks (write_check rs ps run space)
  unfolding write_check
  chain =
      rw (one_number (leb 1 n) (leb n 1024) COUNT, one_number (string_good ps run agent_part) (every (strings_good rs ps run) n) STRING)
      (link Breaks (leb 1 n && leb n 1024) 2 _ (END ∷ RANGE ∷ STRING ∷ ROOM ∷ []) (through (either_fails _ _ (below 1 n) (below n 1024)) (⊎_elim none many) of_count)
      (link Breaks (every (end_good rs n) n) 22 _ (RANGE ∷ STRING ∷ ROOM ∷ []) ends_fail
      (link Breaks (every (range_good rs) n) 14 _ (STRING ∷ ROOM ∷ []) ranges_fail
      (link Breaks (string_good ps run agent_part && every (strings_good rs ps run) n) 21 _ (ROOM ∷ []) strings_fail
      (link Breaks (leb extent space) 17 _ [] (through (below extent space) past of_past)
      (ends Breaks))))))

  -- no condition in the order is met, so none is
  all_none : AllFine writing_order Breaks → NoneBreaks Breaks
  all_none f m (none h) = f.0 (none h)
  all_none f m (many h) = f.0 (many h)
  all_none f m (misplaced i l h g) = f.1.0 (misplaced i l h g)
  all_none f m (missing i l h g) = f.1.0 (missing i l h g)
  all_none f m (range i l h) = f.1.1.0 (range i l h)
  all_none f m (agent h) = f.1.1.1.0 (agent h)
  all_none f m (name i l t h) = f.1.1.1.0 (name i l t h)
  all_none f m (meta i l t h) = f.1.1.1.0 (meta i l t h)
  all_none f m (past h) = f.1.1.1.1.0 (past h)

-- ---- the statements
module _ (b rs ps run : List ℕ) where
  abbrev who : List ℕ
  who = agent_given ps run

  abbrev es : List Entry
  es = entries_given rs ps run

  abbrev v : ℕ
  v = write_check rs ps run (room_of b)

  abbrev Given : ℕ → Type 0
  Given = WritingBreaks rs ps run (room_of b)

  given_chain : Chain writing_order Given v
  given_chain = chain rs ps run (room_of b)

  -- what success answers and leaves
  pub written_whole : NoneBreaks Given → payload_written b rs ps run ≡ (Ok (payload_size who es), over (payload_bytes who es) b)
  unfolding payload_written
  written_whole h = none_written who es b writing_order Given v given_chain h

pub writing_refuses : WritingRefuses
unfolding payload_written
writing_refuses b rs ps run r = (
  refused_first (who b rs ps run) (es b rs ps run) b writing_order (Given b rs ps run) (v b rs ps run) (given_chain b rs ps run) r,
  first_refused (who b rs ps run) (es b rs ps run) b writing_order (Given b rs ps run) (v b rs ps run) (given_chain b rs ps run) r,
)

pub refused_keeps : RefusedKeeps
unfolding payload_written
refused_keeps b rs ps run r e = refused_stays (agent_given ps run) (entries_given rs ps run) b (write_check rs ps run (room_of b)) r e

pub writing_succeeds : WritingSucceeds
unfolding payload_written
writing_succeeds b rs ps run k = (
  done_none (who b rs ps run) (es b rs ps run) b writing_order (Given b rs ps run) (v b rs ps run) (given_chain b rs ps run) (all_none rs ps run (room_of b)) k,
  none_done (who b rs ps run) (es b rs ps run) b writing_order (Given b rs ps run) (v b rs ps run) (given_chain b rs ps run) k,
)

-- Proofs of the statements in specs/AddingRefusals.antt: the chain of tests that an add goes through answers the first number whose
-- condition is met (`decided`), and reading goes before it.
use Rattle.std.specs.Prelude.{Ok, Err}
use Prim.Native.Nat.{ℕ, ◌+◌, ◌-◌, ◌*◌, ◌≤◌, ◌<◌}
use mathlib.Core.Path.{◌≡◌, refl, sym, ap, ◌∙◌, subst}
use mathlib.Core.Bool.{Bool, true, false, ◌&&◌, true≢false}
use mathlib.Core.List.{List}
use mathlib.Core.Logic.{◌↔◌, ◌⊎◌, ◌⊎◌.inl, ◌⊎◌.inr, ⊎_elim}
use native.Mathlib.Omega.{arith}
use lib.ListN.{length}
use lib.Dec.{leb, ltb, eqb}
use borrow.Fn.Enter.{pair≡}
use borrow.Author.Tests.{lt-leb, leb-false, ltb-true, ltb-false, eqb-true, eqb-false, eq-eqb, ne_eqb}
use Rattle.byte_layout.specs.Stored.{Bytes}
use Rattle.refusals.specs.Refusals.{unless, first_of, PLACE, REPEAT, SPLIT, FORM, VALUE, TEXT, RANGE, ORDER, FULL, ROOM}
use Rattle.refusals.specs.Answers.{Answer, refusal, refused, number_of, value_of}
use Rattle.ultra_format.specs.Contexts.{Member, Platform, Body, type_of, Context, count, type_at, used}
use Rattle.ultra_format.specs.Contexts.{Member.present, Member.absent, Body.platform, Body.kernel, Body.memory_map, Body.module_info, Body.command_line, Body.framebuffer, Body.other}
use Rattle.lent_buffers.specs.Room.{room_of}
use Rattle.ultra_format.specs.Members.{present_if, size_suits, values, texts, ranges, ordered, body_check}
use Rattle.ultra_format.specs.Plain.{written_size}
use Rattle.ultra_format.specs.Places.{placed, occurs, place_check}
use Rattle.ultra_format.specs.Decoding.{stored_type, stored_count, context_of, types_before}
use Rattle.ultra_format.specs.Additions.{given_check}
use Rattle.refusals.specs.declared.Refusal.{Refusal}
use Rattle.refusals.proofs.Chains.{refuses}
use Rattle.ultra_format.proofs.Decoded.{count_decoded, type_decoded, decoded_only}
use Rattle.ultra_reading.specs.Reading.{used_length}
use Rattle.ultra_places.proofs.PlaceLaws.{length_types}
use Rattle.ultra_acceptance.specs.Acceptance.{HoldsContext}
use Rattle.ultra_acceptance.specs.Refusing.{NoneBreaks, Least}
use Rattle.ultra_acceptance.proofs.Acceptance.{accepts_exactly, used_number}
use Rattle.ultra_acceptance.proofs.Least.{Chain, ends, try, past as beyond, link, then, settled}
use Rattle.ultra_acceptance.proofs.Refusing.{refuses_exactly}
use Rattle.ultra_acceptance.proofs.Rows.{Misplaced, Earlier, Repeated, Parted, place_chain}
use Rattle.ultra_appending.specs.Appending.{append_check, append_offset}
use Rattle.ultra_adding.specs.Adding.{added_at, added_members}
use Rattle.ultra_adding.proofs.Adding.{members_check_on, members_held}
use Rattle.ultra_building.specs.AddingRefusals.{Occurs, Incomplete, AdditionBreaks, rank, FirstBroken, AddRefused, AddingRefuses, RefusedAddKeeps, AddingSucceeds, EveryAdd, OneAnswer, AddingInDigits}
use Rattle.ultra_building.specs.AddingRefusals.{AdditionBreaks.full, AdditionBreaks.first, AdditionBreaks.second, AdditionBreaks.later, AdditionBreaks.repeat, AdditionBreaks.split}
use Rattle.ultra_building.specs.AddingRefusals.{AdditionBreaks.unformed, AdditionBreaks.incomplete, AdditionBreaks.value, AdditionBreaks.text, AdditionBreaks.range, AdditionBreaks.order, AdditionBreaks.past}
use Rattle.ultra_building.specs.AddingRefusals.{AddRefused.reading, AddRefused.adding}

-- ---- 12, a platform
there : {n : ℕ} → present n ≡ absent → ⊥
there e = let z : ◌≡◌ {A = ℕ} 0 1 = cc in omega arith

on_incomplete : (p : Platform) → Incomplete p → size_suits 88 (platform p) ≡ false
unfolding size_suits
on_incomplete p = go p.higher_half_base p.depth p.dtb p.smbios
  where
    go : (h d t m : Member) → (h ≡ absent) ⊎ (d ≡ absent) ⊎ (t ≡ absent) ⊎ (m ≡ absent)
        → (present_if true h && present_if true d && present_if true t && present_if true m) ≡ false
    go absent d t m k = refl
    go (present h) absent t m k = refl
    go (present h) (present d) absent m k = refl
    go (present h) (present d) (present t) absent k = refl
    go (present h) (present d) (present t) (present m) k = absurd (⊎_elim there (⊎_elim there (⊎_elim there there)) k)

is_incomplete : (p : Platform) → size_suits 88 (platform p) ≡ false → Incomplete p
unfolding size_suits
is_incomplete p = go p.higher_half_base p.depth p.dtb p.smbios
  where
    go : (h d t m : Member) → (present_if true h && present_if true d && present_if true t && present_if true m) ≡ false
        → (h ≡ absent) ⊎ (d ≡ absent) ⊎ (t ≡ absent) ⊎ (m ≡ absent)
    go absent d t m e = inl refl
    go (present h) absent t m e = inr (inl refl)
    go (present h) (present d) absent m e = inr (inr (inl refl))
    go (present h) (present d) (present t) absent e = inr (inr (inr refl))
    go (present h) (present d) (present t) (present m) e = absurd (true≢false e)

-- ---- 12, and which numbers there are
module _ (room : ℕ) (c : Context) (ok : Bool) where
  -- the written size suits every other body
  is_unsuited : (given : Body) → size_suits (written_size given) given ≡ false → AdditionBreaks room c ok given FORM
  unfolding written_size size_suits
  is_unsuited (platform p) e = incomplete p refl (is_incomplete p e)
  is_unsuited (kernel k) e = absurd (true≢false e)
  is_unsuited (memory_map es) e = absurd (true≢false (sym (eq-eqb (8 + 24 * length es) (8 + 24 * length es) refl) ∙ e))
  is_unsuited (module_info m) e = absurd (true≢false e)
  is_unsuited (command_line t) e = absurd (omega (arith, leb-false 16 (written_size (command_line t)) e))
  is_unsuited (framebuffer f) e = absurd (true≢false e)
  is_unsuited (other t) e = absurd (true≢false e)

  off_form : (given : Body) → ok ≡ true → size_suits (written_size given) given ≡ true → AdditionBreaks room c ok given FORM → ⊥
  unfolding written_size
  off_form given e q (unformed n) = true≢false (sym e ∙ n)
  off_form given e q (incomplete p i k) = true≢false (sym (subst (λ (x : Body). size_suits (written_size x) x ≡ true) i q) ∙ on_incomplete p k)

  in_adding : (given : Body) (m : ℕ) → AdditionBreaks room c ok given m → (9 ≤ m) × (m < 19)
  in_adding given m (full h) = (omega arith, omega arith)
  in_adding given m (first e h) = (omega arith, omega arith)
  in_adding given m (second e h) = (omega arith, omega arith)
  in_adding given m (later e h) = (omega arith, omega arith)
  in_adding given m (repeat s o) = (omega arith, omega arith)
  in_adding given m (split s o n) = (omega arith, omega arith)
  in_adding given m (unformed e) = (omega arith, omega arith)
  in_adding given m (incomplete p e h) = (omega arith, omega arith)
  in_adding given m (value h) = (omega arith, omega arith)
  in_adding given m (text h) = (omega arith, omega arith)
  in_adding given m (range h) = (omega arith, omega arith)
  in_adding given m (order h) = (omega arith, omega arith)
  in_adding given m (past h) = (omega arith, omega arith)

-- ---- the first number
-- a chain's answer: 0 where none breaks, else the first that does
abbrev Decided : (ℕ → Type 0) → ℕ → Type 0
Decided breaks f = ((f ≡ 0) × NoneBreaks breaks) ⊎ ((f ≡ 0 → ⊥) × FirstBroken breaks f)

rank_full : (n : ℕ) → n ≡ FULL → rank n ≡ 0
rank_full n e = rw e

rank_other : (n : ℕ) → (n ≡ FULL → ⊥) → rank n ≡ n
rank_other n h = rw (ne_eqb n FULL h)

rank_same : (n k : ℕ) → 0 < n → 0 < k → rank n ≡ rank k → n ≡ k
rank_same n k l m e = go (eqb n FULL) (eqb k FULL) refl refl
  where
    go : (x y : Bool) → eqb n FULL ≡ x → eqb k FULL ≡ y → n ≡ k
    go true true p q = eqb-true n FULL p ∙ sym (eqb-true k FULL q)
    go true false p q = absurd (omega (arith, e, rank_full n (eqb-true n FULL p), rank_other k (eqb-false k FULL q)))
    go false true p q = absurd (omega (arith, e, rank_other n (eqb-false n FULL p), rank_full k (eqb-true k FULL q)))
    go false false p q = sym (rank_other n (eqb-false n FULL p)) ∙ e ∙ rank_other k (eqb-false k FULL q)

module _ {breaks : ℕ → Type 0} where
  first_only : {n k : ℕ} → ((m : ℕ) → breaks m → 0 < m) → FirstBroken breaks n → FirstBroken breaks k → n ≡ k
  first_only {n} {k} l x y =
      let p : rank n < rank k → ⊥ = λ h. y.1 n h x.0 in
      let q : rank k < rank n → ⊥ = λ h. x.1 k h y.0 in
      rank_same n k (l n x.0) (l k y.0) (omega arith)

  -- without 17 the order is that of the numbers
  least_first : {n : ℕ} → (breaks FULL → ⊥) → Least breaks n → FirstBroken breaks n
  least_first {n} few l = (l.0, λ m h x. l.1 m (omega (arith, ranked m x, ranked n l.0)) x)
    where
      ranked : (m : ℕ) → breaks m → rank m ≡ m
      ranked m x = rank_other m (λ e. few (subst breaks e x))

-- ---- the rows of an add to b
module _ (b : List ℕ) (ok : Bool) (given : Body) where
  abbrev now : Context
  now = context_of b

  abbrev t : ℕ
  t = type_of given

  abbrev Row : ℕ → Type 0
  Row = AdditionBreaks (room_of b) now ok given

  -- 9 to 11
  of_place : Row PLACE → Misplaced (count now) t
  of_place (first e n) = inl (e, n)
  of_place (second e n) = inr (inl (e, n))
  of_place (later l k) = inr (inr (l, k))

  place_row : Row PLACE ↔ Misplaced (count now) t
  place_row = (of_place, ⊎_elim (λ x. first x.0 x.1) (⊎_elim (λ x. second x.0 x.1) (λ x. later x.0 x.1)))

  to_earlier : Occurs now t → Earlier b (stored_count b) t
  to_earlier o = let l : o.0 < stored_count b = rw count_decoded at o.1 in (o.0, l, sym (type_decoded b o.0 l) ∙ o.2)

  of_earlier : Earlier b (stored_count b) t → Occurs now t
  of_earlier o = (o.0, rw count_decoded o.1, type_decoded b o.0 o.1 ∙ o.2)

  nearest : Earlier b (stored_count b) t → type_at now (count now - 1) ≡ stored_type b (stored_count b - 1)
  nearest o = rw count_decoded (type_decoded b (stored_count b - 1) (omega (arith, o.1)))

  of_repeat : Row REPEAT → Repeated b (stored_count b) t
  of_repeat (repeat s o) = (s, to_earlier o)

  of_split : Row SPLIT → Parted b (stored_count b) t
  of_split (split s o n) = let p = to_earlier o in (s, p, λ e. n (nearest p ∙ e))

  types_chain : Chain Row 9 12 (place_check (types_before b (stored_count b)) t)
  types_chain =
      place_chain b (stored_count b) t (rw count_decoded at place_row)
      (of_repeat, λ x. repeat x.0 (of_earlier x.1))
      (of_split, λ x. split x.0 (of_earlier x.1) (λ e. x.2 (sym (nearest x.1) ∙ e)))

  -- 12 to 16
  on_value : Row VALUE → values given ≡ false
  on_value (value e) = e

  on_text : Row TEXT → texts (written_size given) given ≡ false
  on_text (text e) = e

  on_range : Row RANGE → ranges given ≡ false
  on_range (range e) = e

  on_order : Row ORDER → ordered given ≡ false
  on_order (order e) = e

  given_chain : Chain Row 12 17 (given_check ok given)
  unfolding given_check body_check
  given_chain =
      try ok unformed (λ e.
      try (size_suits (written_size given) given) (is_unsuited (room_of b) now ok given) (λ q.
      beyond (off_form (room_of b) now ok given e q)
      (link _ value on_value (link _ text on_text (link _ range on_range (link _ order on_order ends))))))

  -- 17 and 18
  on_full : Row FULL → 1024 ≤ stored_count b
  on_full (full h) = rw count_decoded at h

  on_past : Row ROOM → leb (used now + written_size given) (room_of b) ≡ false
  on_past (past h) = lt-leb _ _ h

  -- all of them
  decided : Decided Row (members_check_on b now ok given)
  unfolding append_check
  decided = rw length_types (go (ltb (stored_count b) 1024) refl)
    where
      go : (x : Bool) → ltb (stored_count b) 1024 ≡ x
          → Decided Row (unless x FULL (first_of (place_check (types_before b (stored_count b)) t) (first_of (given_check ok given) (unless (leb (used now + written_size given) (room_of b)) ROOM 0))))
      go false e = inr (λ z. omega arith, (full (rw count_decoded (ltb-false _ _ e)), λ m h. absurd (omega (arith, rank_full FULL refl))))
      go true e =
          let few : Row FULL → ⊥ = λ x. omega (arith, on_full x, ltb-true (stored_count b) 1024 e) in
          ⊎_elim inl (λ r. inr (r.0, least_first few r.1))
          (settled (in_adding (room_of b) now ok given) (then _ _ types_chain (then _ _ given_chain (beyond few (link _ (λ e. past (leb-false _ _ e)) on_past ends)))))

-- ---- what an add answers
clash : {P : Type 0} {v : ℕ} {r : Refusal} {a : Answer} → a ≡ Ok v → a ≡ Err r → P
clash p q = absurd (let z : ◌≡◌ {A = ℕ} 0 1 = cc in omega arith)

module _ (b : List ℕ) (ok : Bool) (given : Body) where
  unread : (r : Refusal) → used_length 0 b ≡ Err r → (added_members b ok given).0 ≡ Err r
  unfolding added_members append_offset
  unread r e = rw e

  read_or : Bytes b → ((r : Refusal) × (used_length 0 b ≡ Err r)) ⊎ ((c : Context) × HoldsContext 0 b c)
  read_or y = go (used_length 0 b) refl
    where
      go : (a : Answer) → used_length 0 b ≡ a → ((r : Refusal) × (used_length 0 b ≡ Err r)) ⊎ ((c : Context) × HoldsContext 0 b c)
      go (Err r) e = inl (r, e)
      go (Ok n) e = let h = (accepts_exactly 0 b n y).0 e in inr (h.0, h.1)

  abbrev Broken : Context → ℕ → Type 0
  Broken c = AdditionBreaks (room_of b) c ok given

  outcome : (c : Context) → HoldsContext 0 b c → (((added_members b ok given).0 ≡ Ok (used c + written_size given)) × NoneBreaks (Broken c)) ⊎ ((n : ℕ) × ((added_members b ok given).0 ≡ refused n (used c)) × FirstBroken (Broken c) n)
  outcome c h =
      let q = decoded_only 0 (room_of b) b c h.0 h.1 in
      rw (members_held b c ok given h)
      (⊎_elim (λ r. inl (rw r.0, r.1)) (λ r. inr (members_check_on b c ok given, rw (refuses _ _ _ r.0), r.1))
      (subst (λ (d : Context). Decided (Broken d) (members_check_on b d ok given)) (sym q) (decided b ok given)))

  to_refuse : (n o : ℕ) → Bytes b → (added_members b ok given).0 ≡ refused n o → AddRefused b ok given n o
  to_refuse n o y e =
      ⊎_elim (λ u. reading o ((refuses_exactly 0 b (refusal n o)).0 (u.1 ∙ sym (unread u.0 u.1) ∙ e)))
      (λ h. ⊎_elim (λ d. clash d.0 e) (λ r. same h.0 h.1 r.0 r.2 (sym r.1 ∙ e)) (outcome h.0 h.1)) (read_or y)
    where
      same : (c : Context) → HoldsContext 0 b c → (k : ℕ) → FirstBroken (Broken c) k → refused k (used c) ≡ refused n o → AddRefused b ok given n o
      same c h k f q =
          let x : k ≡ n = ap number_of q in
          let z : used c ≡ o = ap value_of q in
          rw (← z, ← x) (adding c h f)

  is_refused : (n o : ℕ) → AddRefused b ok given n o → (added_members b ok given).0 ≡ refused n o
  is_refused n o (reading p r) = unread _ ((refuses_exactly 0 b (refusal n p)).1 r)
  is_refused n o (adding c h f) =
      ⊎_elim (λ d. absurd (d.1 n f.0))
      (λ r. r.1 ∙ ap (λ (k : ℕ). refused k (used c)) (first_only (λ m x. omega (arith, (in_adding (room_of b) c ok given m x).0)) r.2 f)) (outcome c h)

  abbrev Succeeds : ℕ → Type 0
  Succeeds m = (c : Context) × HoldsContext 0 b c × NoneBreaks (Broken c) × (m ≡ used c + written_size given)

  to_succeed : (m : ℕ) → Bytes b → number_of (added_members b ok given).0 ≡ 0 → value_of (added_members b ok given).0 ≡ m → Succeeds m
  to_succeed m y z v =
      ⊎_elim (λ u. absurd (used_number 0 b u.0 u.1 (ap number_of (sym (unread u.0 u.1)) ∙ z)))
      (λ h. ⊎_elim (λ d. (h.0, h.1, d.1, sym v ∙ ap value_of d.0))
      (λ r. absurd (omega (arith, ap number_of r.1, (in_adding (room_of b) h.0 ok given r.0 r.2.0).0))) (outcome h.0 h.1)) (read_or y)

  is_done : (m : ℕ) → Succeeds m → (added_members b ok given).0 ≡ Ok m
  is_done m d = ⊎_elim (λ a. a.0 ∙ ap Ok (sym d.3)) (λ r. absurd (d.2 r.0 r.2.0)) (outcome d.0 d.1)

-- ---- the statements
pub adding_refuses : AddingRefuses
adding_refuses b ok given r y = (to_refuse b ok given r.number r.offset y, is_refused b ok given r.number r.offset)

-- a refusal leaves the buffer as it was
pub refused_add_keeps : RefusedAddKeeps
unfolding added_members
refused_add_keeps b ok given r e = go (append_offset b (type_of given) (given_check ok given) (written_size given)) e
  where
    go : (p : Answer) → (added_at b given p).0 ≡ Err r → (added_at b given p).1 ≡ b
    go (Ok m) w = absurd (let z : ◌≡◌ {A = ℕ} 0 1 = cc in omega arith)
    go (Err s) w = refl

pub adding_succeeds : AddingSucceeds
adding_succeeds b ok given m y =
    (λ e. to_succeed b ok given m y e.0 e.1, λ d. let e = is_done b ok given m d in (ap number_of e, ap value_of e))

-- ---- from the statements alone
every : AddingRefuses → RefusedAddKeeps → AddingSucceeds → EveryAdd
every refuse keep succeed b ok given y = go (added_members b ok given).0 refl
  where
    go : (a : Answer) → (added_members b ok given).0 ≡ a
        → ((r : Refusal) × AddRefused b ok given (number_of (Err r)) (value_of (Err r)) × (added_members b ok given ≡ (Err r, b)))
        ⊎ ((c : Context) × HoldsContext 0 b c × NoneBreaks (AdditionBreaks (room_of b) c ok given) × ((added_members b ok given).0 ≡ Ok (used c + written_size given)))
    go (Err r) e = inl (r, (refuse b ok given r y).0 e, pair≡ e (keep b ok given r e))
    go (Ok n) e =
        let s = (succeed b ok given n y).0 (ap number_of e, ap value_of e) in
        inr (s.0, s.1, s.2, e ∙ ap Ok s.3)

-- no row has the number 0
numbered : (b : List ℕ) (ok : Bool) (given : Body) (n o : ℕ) → AddRefused b ok given n o → n ≡ 0 → ⊥
numbered b ok given n o (reading p r) z = used_number 0 b (refusal n p) ((refuses_exactly 0 b (refusal n p)).1 r) z
numbered b ok given n o (adding c h f) z = omega (arith, (in_adding (room_of b) c ok given n f.0).0)

one : AddingRefuses → AddingSucceeds → OneAnswer
one refuse succeed b ok given r y h =
    let e = (refuse b ok given r y).1 h in (
      λ s k. let w : Err s ≡ Err r = sym ((refuse b ok given s y).1 k) ∙ e in cc,
      λ c g n. numbered b ok given r.number r.offset h (sym (ap number_of e) ∙ ((succeed b ok given (used c + written_size given) y).1 (c, g, n, refl)).0),
    )

pub every_add : EveryAdd
every_add = every adding_refuses refused_add_keeps adding_succeeds

pub one_answer : OneAnswer
one_answer = one adding_refuses adding_succeeds

pub adding_in_digits : AddingInDigits
unfolding append_check place_check placed occurs
adding_in_digits = record { seventeen = refl; one_fewer = refl; nine = refl; ten = refl; eleven = refl; thirteen = refl; eighteen = refl; fits = refl }

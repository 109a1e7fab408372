-- Proofs of the statements in specs/Steps.antt: a step that is to be refused, to end or to hand back an attribute does so, and every step
-- is one of the three.
use Rattle.std.specs.Prelude.{Err, Some, None, Ok}
use Prim.Native.Nat.{ℕ, zero, suc, ◌+◌, ◌%◌, ◌≤◌, ◌<◌}
use mathlib.Core.Path.{◌≡◌, refl, sym, ap, ap₂, ◌∙◌}
use mathlib.Core.Bool.{Bool, true, false, ◌&&◌}
use mathlib.Core.List.{List}
use mathlib.Core.Logic.{◌⊎◌, ◌⊎◌.inl, ◌⊎◌.inr, ⊎_elim}
use native.Mathlib.Omega.{arith}
use native.Mathlib.Numerals.{add-one}
use lib.Dec.{leb, eqb}
use borrow.Author.Tests.{leb-true, leb-false, eqb-true, eqb-false}
use Rattle.words.specs.Words.{u32_at}
use Rattle.refusals.specs.Refusals.{HEADER, SIZE, OVERRUN, TYPE}
use Rattle.refusals.specs.Answers.{refusal}
use Rattle.ultra_format.specs.Contexts.{Context, count, type_at, size_at, total, start_in, used}
use Rattle.lent_buffers.specs.Room.{room_of}
use Rattle.ultra_format.specs.Decoding.{start, stored_count}
use Rattle.refusals.specs.declared.Refusal.{Refusal}
use Rattle.ultra_format.proofs.Attributes.{Says, sized, opens_says}
use Rattle.refusals.proofs.Chains.{both_hold}
use Rattle.ultra_format.proofs.Decoded.{starts}
use Rattle.ultra_stepping.specs.Checks.{head_check}
use Rattle.ultra_stepping.specs.Stepping.{cursor_check, cursor_at, header_at, step_of, step_number, step_value, Step, steps_to, at_end}
use Rattle.ultra_stepping.specs.declared.cursor.Header.{Header}
use Rattle.ultra_stepping.specs.declared.cursor.Cursor.{Cursor}
use Rattle.ultra_stepping.proofs.HeadLaws.{head_passes}
use Rattle.ultra_stepping.proofs.BoundsLaws.{bounds_pass}
use Rattle.ultra_stepping.proofs.StepLaws.{only_bounds, step_head, step_end, step_check, step_next}
use Rattle.ultra_acceptance.specs.Acceptance.{HoldsContext}
use Rattle.ultra_acceptance.specs.Refusing.{HeadBreaks, NoneBreaks}
use Rattle.ultra_acceptance.specs.Steps.{CursorBreaks, StepRefuses, StepEnds, StepGives, StepsExactly, cursor_of, SteppingThrough}
use Rattle.ultra_acceptance.specs.Steps.{CursorBreaks.low, CursorBreaks.crooked, CursorBreaks.header, CursorBreaks.size, CursorBreaks.overrun, CursorBreaks.untyped}
use Rattle.ultra_acceptance.specs.Steps.{StepRefuses.head, StepRefuses.cursor}
use Rattle.ultra_acceptance.proofs.Walked.{Accepted, accepted}
use Rattle.ultra_acceptance.proofs.Acceptance.{complete}
use Rattle.ultra_acceptance.proofs.Least.{Chain, try, Settled, settled, settled_none, settled_least}
use Rattle.ultra_acceptance.proofs.Rows.{head_settled, bounds_chain}

-- what a step hands back, or `d` where it hands back nothing
abbrev stepped_in : Header × Cursor → Step → Header × Cursor
stepped_in d (Ok (Some s)) = s
stepped_in d (Ok None) = d
stepped_in d (Err r) = d

-- ---- 5 to 8, at a cursor's offset
module _ (b : List ℕ) (o : ℕ) where
  abbrev aligned : Bool
  aligned = leb 8 o && eqb (o % 8) 0

  is_unaligned : aligned ≡ false → CursorBreaks b o HEADER
  is_unaligned e = go (leb 8 o) (eqb (o % 8) 0) refl refl e
    where
      go : (x y : Bool) → leb 8 o ≡ x → eqb (o % 8) 0 ≡ y → (x && y) ≡ false → CursorBreaks b o HEADER
      go false y p q h = low (leb-false _ _ p)
      go true y p q h = crooked (eqb-false _ _ (q ∙ h))

  of_header : aligned ≡ true → CursorBreaks b o HEADER → room_of b < o + 8
  of_header e (low h) = absurd (let l = leb-true 8 o (both_hold (leb 8 o) _ e).0 in omega arith)
  of_header e (crooked n) = absurd (n (eqb-true _ _ (both_hold (leb 8 o) _ e).1))
  of_header e (header h) = h

  of_size : CursorBreaks b o SIZE → (u32_at b (o + 4) < 8) ⊎ (u32_at b (o + 4) % 8 ≡ 0 → ⊥)
  of_size (size h) = h

  of_overrun : CursorBreaks b o OVERRUN → room_of b < o + u32_at b (o + 4)
  of_overrun (overrun h) = h

  of_untyped : CursorBreaks b o TYPE → u32_at b o ≡ 0
  of_untyped (untyped e) = e

  cursor_chain : Chain (CursorBreaks b o) 5 9 (cursor_check b o)
  unfolding cursor_check
  cursor_chain = try aligned is_unaligned (λ e. bounds_chain b o (of_header e, header) (of_size, size) (of_overrun, overrun) (of_untyped, untyped))

  in_cursor : (m : ℕ) → CursorBreaks b o m → (5 ≤ m) × (m < 9)
  in_cursor m (low h) = (omega arith, omega arith)
  in_cursor m (crooked h) = (omega arith, omega arith)
  in_cursor m (header h) = (omega arith, omega arith)
  in_cursor m (size h) = (omega arith, omega arith)
  in_cursor m (overrun h) = (omega arith, omega arith)
  in_cursor m (untyped h) = (omega arith, omega arith)

  cursor_settled : Settled (CursorBreaks b o) (cursor_check b o)
  cursor_settled = settled in_cursor cursor_chain

-- ---- a step
-- no two of its three answers are one
refused_ends : {P : Type 0} {s : Step} {r : Refusal} → s ≡ Err r → s ≡ at_end → P
refused_ends p q = absurd (let z : ◌≡◌ {A = ℕ} 0 1 = cc in omega arith)

refused_gives : {P : Type 0} {s : Step} {r : Refusal} {h : Header} {m : Cursor} → s ≡ Err r → s ≡ steps_to h m → P
refused_gives p q = absurd (let z : ◌≡◌ {A = ℕ} 0 1 = cc in omega arith)

ends_gives : {P : Type 0} {s : Step} {h : Header} {m : Cursor} → s ≡ at_end → s ≡ steps_to h m → P
ends_gives p q = absurd (let z : ◌≡◌ {A = ℕ} 0 1 = cc in omega arith)

module _ (b : List ℕ) (k : Cursor) where
  head_clear : NoneBreaks (HeadBreaks 2 b) → head_check 2 b ≡ 0
  head_clear = settled_none (head_settled 2 b)

  is_refused : (n o : ℕ) → StepRefuses b k n o → step_of b k ≡ Err (refusal n o)
  is_refused n o (head l) =
      let s = settled_least (head_settled 2 b) l in
      sym (step_head b k s.0) ∙ ap (λ (m : ℕ). Err (refusal m 0)) s.1
  is_refused n o (cursor h l e) =
      let s = settled_least (cursor_settled b k.offset) e in
      sym (step_check b k (head_clear h) l s.0) ∙ ap (λ (m : ℕ). Err (refusal m k.offset)) s.1

  is_end : StepEnds b k → step_of b k ≡ at_end
  is_end s = sym (step_end b k (head_clear s.0) s.1)

  abbrev there : Header
  there = header_at b k.offset

  abbrev following : Cursor
  following = cursor_at (k.index + 1) (k.offset + u32_at b (k.offset + 4))

  is_given : StepGives b k there following → step_of b k ≡ steps_to there following
  is_given s = sym (step_next b k (head_clear s.head) s.below (settled_none (cursor_settled b k.offset) s.cursor))

  -- every step is one of the three
  abbrev ToRefuse : Type 0
  ToRefuse = (n : ℕ) × (o : ℕ) × StepRefuses b k n o

  outcome : ToRefuse ⊎ StepEnds b k ⊎ StepGives b k there following
  outcome = ⊎_elim (λ s. by_index s.1 (leb (stored_count b) k.index) refl) (λ s. inl (_, _, head s.1)) (head_settled 2 b)
    where
      by_index : NoneBreaks (HeadBreaks 2 b) → (t : Bool) → leb (stored_count b) k.index ≡ t → ToRefuse ⊎ StepEnds b k ⊎ StepGives b k there following
      by_index h true e = inr (inl (h, leb-true _ _ e))
      by_index h false e =
          let l = leb-false _ _ e in
          ⊎_elim (λ s. inr (inr (record { head = h; below = l; cursor = s.1; attribute = refl; next = refl }))) (λ s. inl (_, _, cursor h l s.1)) (cursor_settled b k.offset)

  to_refuse : (n o : ℕ) → step_of b k ≡ Err (refusal n o) → StepRefuses b k n o
  to_refuse n o e =
      ⊎_elim (λ r. same r.0 r.1 r.2) (⊎_elim (λ s. refused_ends e (is_end s)) (λ s. refused_gives e (is_given s))) outcome
    where
      same : (m p : ℕ) → StepRefuses b k m p → StepRefuses b k n o
      same m p r =
          let q = sym (is_refused m p r) ∙ e in
          let x : m ≡ n = ap step_number q in
          let y : p ≡ o = ap step_value q in
          rw (x, y) at r

  to_end : step_of b k ≡ at_end → StepEnds b k
  to_end e = ⊎_elim (λ r. refused_ends (is_refused r.0 r.1 r.2) e) (⊎_elim (λ s. s) (λ s. ends_gives e (is_given s))) outcome

  to_give : (h : Header) (m : Cursor) → step_of b k ≡ steps_to h m → StepGives b k h m
  to_give h m e =
      ⊎_elim (λ r. refused_gives (is_refused r.0 r.1 r.2) e)
      (⊎_elim (λ s. ends_gives (is_end s) e) (λ s. same s (sym e ∙ is_given s))) outcome
    where
      same : StepGives b k there following → steps_to h m ≡ steps_to there following → StepGives b k h m
      same s q =
          let p = ap (stepped_in (h, m)) q in
          record {
            head = s.head;
            below = s.below;
            cursor = s.cursor;
            attribute = ap (λ (t : Header × Cursor). t.0) p ∙ s.attribute;
            next = ap (λ (t : Header × Cursor). t.1) p ∙ s.next;
          }

  gives : (h : Header) (m : Cursor) → StepGives b k h m → step_of b k ≡ steps_to h m
  gives h m s =
      is_given (record { head = s.head; below = s.below; cursor = s.cursor; attribute = refl; next = refl })
      ∙ ap₂ steps_to (sym s.attribute) (sym s.next)

-- ---- the statements
pub steps_exactly : StepsExactly
steps_exactly =
    record {
      refuses = λ b k r. (to_refuse b k r.number r.offset, is_refused b k r.number r.offset);
      ends = λ b k. (to_end b k, is_end b k);
      gives = λ b k h m. (to_give b k h m, gives b k h m);
      end_number = (refl, refl);
      attribute_number = λ h m. (refl, refl);
    }

-- ---- through a context that a buffer holds
module _ (b : List ℕ) (c : Context) (held : HoldsContext 2 b c) where
  accepts : Accepted 2 b (used c)
  accepts = accepted 2 b (used c) (complete 2 b c held.0 held.1)

  says : Says b c
  says = opens_says b c held.0.fits (sized held.0) held.1

  head_passed : head_check 2 b ≡ 0
  head_passed = let h = accepts.head in sym (head_passes 2 b h.room h.major h.most h.enough)

  start_least : (i : ℕ) → 8 ≤ start b i
  unfolding start
  start_least zero = omega arith
  start_least (suc i) = omega (arith, start_least i)

  start_eights : (i : ℕ) → i ≤ stored_count b → start b i % 8 ≡ 0
  unfolding start
  start_eights zero l = refl
  start_eights (suc i) l = omega (arith, start_eights i (omega arith), (accepts.each i l).bounds.eights)

  cursor_passed : (i : ℕ) → i < stored_count b → cursor_check b (start b i) ≡ 0
  cursor_passed i l =
      let p = (accepts.each i l).bounds in
      sym (bounds_pass b (room_of b) (start b i) p.header p.least p.eights p.within p.typed ∙ only_bounds b (start b i) (start_least i) (start_eights i (omega arith)))

  step_stored : (i : ℕ) → i < stored_count b → step_of b (cursor_at i (start b i)) ≡ steps_to (header_at b (start b i)) (cursor_at (i + 1) (start b (i + 1)))
  unfolding start
  step_stored i l =
      let e : start b (i + 1) ≡ start b i + u32_at b (start b i + 4) = ap (start b) (add-one i) in
      rw e (sym (step_next b (cursor_at i (start b i)) head_passed l (cursor_passed i l)))

  step_listed : (i : ℕ) → i < count c → step_of b (cursor_of c i) ≡ steps_to (record { kind = type_at c i; start = start_in c.attributes i; size = size_at c i }) (cursor_of c (i + 1))
  step_listed i h =
      let here = starts b c says i (omega arith) in
      let next = starts b c says (i + 1) (omega arith) in
      let kind : u32_at b (start b i) ≡ type_at c i = rw here (says.stored i h).kind in
      let size : u32_at b (start b i + 4) ≡ size_at c i = rw here (says.stored i h).size in
      rw (← here, ← next, ← kind, ← size) (step_stored i (omega (arith, says.count)))

pub stepping_through : SteppingThrough
unfolding total
stepping_through b c h =
    record {
      first = refl;
      each = step_listed b c h;
      ends = λ k. (λ e. omega (arith, (says b c h).count, (to_end b k e).1), λ l. sym (step_end b k (head_passed b c h) (omega (arith, (says b c h).count))));
    }

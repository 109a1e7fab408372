-- `ultra_reading::walk::attributes` meets its contract. The invariant: `at` is where attribute `i` starts, none before it breaks one of
-- 5 to 8, and the answer from it on is the answer from the first on.
use Rattle.std.specs.Prelude.{ℕ, Err}
use Rattle.refusals.specs.Answers.{refusal}
use mathlib.Core.Path.{◌≡◌, refl, sym, ap, ap₂, ◌∙◌}
use native.Mathlib.Omega.{arith}
use native.Mathlib.Nat.{sub-zero}
use borrow.Author.Rules.{rules}
use borrow.Author.Count.{below_none, below_more}
use Rattle.ultra_format.specs.Decoding.{types_before}
use Rattle.ultra_stepping.proofs.WalkLaws.{start_first, Reached, reached, in_larger}
use Rattle.ultra_places.proofs.PlaceLaws.{nearest_next}
use Rattle.ultra_reading.specs.Reading.{check_of, highest_of}
use Rattle.ultra_reading.proofs.ReadingLaws.{attribute_in_bounds, highest_next, walk_refuse, walk_next, walk_end}
use Rattle.refusals.proofs.Chains.{broken, unbroken}
use Rattle.ultra_reading.proofs.walk.attributes.Goals as goal
use Rattle.ultra_reading.proofs.walk.attributes.Goals.{In_default}

-- attribute `i` breaks no rule, where the test says so
fine : (c : In_default) → check_of c.args.buf.now c.args.room c.loop-i.i ≡ 0
fine c = unbroken _ (rw c.loop-i.invariant.0 at (sym c.in_default.ensures))

here : (c : In_default)
    → Reached c.args.buf.now c.args.room c.loop-i.i c.loop-i.at
here c = reached _ _ c.loop-i.i _ c.loop-i.invariant.0 (attribute_in_bounds _ _ _ _ (fine c))

pub loop-i-init : goal.loop-i-init
unfolding types_before highest_of
loop-i-init c = (start_first _, refl, refl, search rules, below_none _, rw sub-zero)

pub check-requires : goal.check-requires
check-requires c = record { room_in_bounds = (search rules, search rules); in_bounds = c.loop-i.invariant.4; previous_value = (search rules, search rules) }

pub returns-in-Err : goal.returns-in-Err
returns-in-Err c =
    let a = c.args in
    let l = c.loop-i in
    let b = broken _ _ (rw l.invariant.0 at (sym c.in-Err.ensures)) in
    ap Err (c.at.ensures ∙ ap₂ (λ (n o : ℕ). refusal n o) (sym b.0) l.invariant.0)
    ∙ sym (walk_refuse a.buf.now a.room l.i a.count c.loop-i-test.true b.1) ∙ l.invariant.5

pub load_u32-previous-requires : goal.load_u32-previous-requires
load_u32-previous-requires c = omega (arith, here (goal.at.load_u32-previous-requires c).In_default)

pub overflow_add-at : goal.overflow_add-at
overflow_add-at c = omega (arith, here (goal.at.overflow_add-at c).In_default)

pub load_u32-requires : goal.load_u32-requires
load_u32-requires c = omega (arith, here (goal.at.load_u32-requires c).In_default)

pub overflow_add-at-in-loop-i : goal.overflow_add-at-in-loop-i
overflow_add-at-in-loop-i c = omega (arith, here (goal.at.overflow_add-at-in-loop-i c).In_default)

pub loop-i-preserved : goal.loop-i-preserved
loop-i-preserved c =
    let a = c.args in
    let l = c.loop-i in (
      omega (arith, here (goal.at.loop-i-preserved c).In_default),
      cc (nearest_next a.buf.now l.i, (here (goal.at.loop-i-preserved c).In_default).type_is),
      cc (highest_next a.buf.now l.i, (here (goal.at.loop-i-preserved c).In_default).type_is),
      omega (arith, here (goal.at.loop-i-preserved c).In_default),
      below_more _ _ l.invariant.4 (in_larger _ _ _ _ (omega arith) (attribute_in_bounds _ _ _ _ (fine (goal.at.loop-i-preserved c).In_default))),
      cc (walk_next a.buf.now a.room l.i a.count c.loop-i-test.true (fine (goal.at.loop-i-preserved c).In_default)),
    )

pub returns : goal.returns
returns c =
    let a = c.args in
    let l = c.loop-i in
    let e : a.count ≡ l.i = omega arith in
    cc (walk_end a.buf.now a.room l.i a.count e)

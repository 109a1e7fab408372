-- `ultra_reading::walk::check` meets its contract: one law a return.
use Prim.Native.Nat.{ℕ}
use mathlib.Core.Path.{◌≡◌, sym, ap, ap₂, ◌∙◌}
use Rattle.words.specs.Words.{u32_at}
use Rattle.ultra_format.specs.Members.{body_check}
use Rattle.ultra_format.specs.Places.{place_check}
use Rattle.ultra_format.specs.Decoding.{decoded, types_before}
use Rattle.ultra_stepping.specs.Checks.{bounds_check}
use native.Mathlib.Omega.{arith}
use Rattle.ultra_stepping.proofs.BoundsLaws.{BoundsHold, bounds_hold}
use Rattle.ultra_reading.proofs.ReadingLaws.{stop_bounds, stop_placing, only_body}
use borrow.Author.Rules.{rules}
use Rattle.refusals.proofs.Chains.{broken, unbroken, passed_on}
use Rattle.refusals.specs.Answers.{checked}
use Rattle.ultra_reading.proofs.walk.check.Goals as goal
use Rattle.ultra_reading.proofs.walk.check.Goals.{After-place_check, In_ok-check}

-- the attribute is within its bounds
here : (c : In_ok-check) → BoundsHold c.args.buf.now c.args.room c.args.at
here c = bounds_hold _ _ _ (unbroken _ (sym c.in_ok-check.ensures))

no_bounds : (c : In_ok-check) → bounds_check c.args.buf.now c.args.room c.args.at ≡ 0
no_bounds c = unbroken _ (sym c.in_ok-check.ensures)

-- what the place's test answers, of the type that was loaded
placing : (c : After-place_check)
    → c.place_check.result ≡ checked (place_check (types_before c.args.buf.now c.args.index) (u32_at c.args.buf.now c.args.at))
placing c = c.place_check.ensures ∙ ap checked (ap (place_check _) c.load_u32-kind.ensures)

pub returns-in_err-check : goal.returns-in_err-check
returns-in_err-check c =
    let e = sym c.in_err-check.ensures in
    passed_on _ c.from_residual.ensures.1 ∙ sym e ∙ ap checked (stop_bounds _ _ _ _ (broken _ _ e).1)

pub load_u32-kind-requires : goal.load_u32-kind-requires
load_u32-kind-requires c = omega (arith, here (goal.at.load_u32-kind-requires c).In_ok-check)

pub place_check-requires : goal.place_check-requires
place_check-requires c = record { in_bounds = search rules; le_kind = omega (arith, here (goal.at.place_check-requires c).In_ok-check); previous_value = search rules }

pub returns-in_err-place_check : goal.returns-in_err-place_check
returns-in_err-place_check c =
    let e = sym (placing (goal.at.returns-in_err-place_check c).After-place_check) ∙ c.in_err-place_check.was in
    passed_on _ c.from_residual-in_err-place_check.ensures.1 ∙ sym e ∙ ap checked (stop_placing _ _ _ _ (no_bounds (goal.at.returns-in_err-place_check c).In_ok-check) (broken _ _ e).1)

pub load_u32-requires : goal.load_u32-requires
load_u32-requires c = omega (arith, here (goal.at.load_u32-requires c).In_ok-check)

pub body_check-requires : goal.body_check-requires
body_check-requires c = omega (arith, here (goal.at.body_check-requires c).In_ok-check)

pub returns : goal.returns
returns c =
    let b = c.args.buf.now in
    let o = c.args.at in
    c.body_check.ensures
    ∙ ap checked
    (ap₂ (λ (s t : ℕ). body_check s (decoded b o s t)) c.load_u32.ensures c.load_u32-kind.ensures
    ∙ only_body _ _ _ _ (no_bounds (goal.at.returns c).In_ok-check) (unbroken _ (sym (placing (goal.at.returns c).After-place_check) ∙ c.in_ok-place_check.was)))

-- `handover_reading::read` meets its contract: the head refuses, or what is after it answers.
use Rattle.std.specs.Prelude.{Err}
use Prim.Native.Nat.{ℕ}
use mathlib.Core.Path.{◌≡◌, sym, ap, ap₂, ◌∙◌}
use native.Mathlib.Omega.{arith}
use Rattle.refusals.specs.Answers.{refusal}
use Rattle.handover_reading.specs.PayloadReading.{head_check, body_answer}
use Rattle.refusals.proofs.Chains.{broken, unbroken}
use Rattle.handover_reading.proofs.HeadLaws.{head_holds}
use Rattle.handover_reading.proofs.AnswerLaws.{head_refuses, head_goes_on}
use Rattle.handover_reading.proofs.read.Goals as goal
use Rattle.handover_reading.proofs.read.Goals.{In_default}

fine : (c : In_default) → head_check c.args.buf.now ≡ 0
fine c = unbroken _ (sym c.in_default.ensures)

pub returns-in-Err : goal.returns-in-Err
returns-in-Err c =
    let b = broken _ _ (sym c.in-Err.ensures) in
    ap Err (c.new.ensures ∙ ap (λ (n : ℕ). refusal n 0) (sym b.0)) ∙ head_refuses _ b.1

pub load_u32-size-requires : goal.load_u32-size-requires
load_u32-size-requires c = omega (arith, head_holds _ (fine (goal.at.load_u32-size-requires c).In_default))

pub load_u32-count-requires : goal.load_u32-count-requires
load_u32-count-requires c = omega (arith, head_holds _ (fine (goal.at.load_u32-count-requires c).In_default))

pub body-requires : goal.body-requires
body-requires c =
    let h = head_holds _ (fine (goal.at.body-requires c).In_default) in
    let s = c.load_u32-size.ensures in
    let n = c.load_u32-count.ensures in
    omega arith

pub returns : goal.returns
returns c =
    let b = c.args.buf.now in
    c.body.ensures ∙ ap₂ (λ (n s : ℕ). body_answer b n s) c.load_u32-count.ensures c.load_u32-size.ensures ∙ head_goes_on _ (fine (goal.at.returns c).In_default)

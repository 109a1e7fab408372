-- `ultra_reading::used_length` meets its contract: the head refuses, or the attributes answer.
use Rattle.std.specs.Prelude.{Err}
use Prim.Native.Nat.{ℕ}
use mathlib.Core.Path.{◌≡◌, sym, ap, ap₂, ◌∙◌}
use Rattle.refusals.specs.Answers.{refusal}
use Rattle.ultra_reading.specs.Reading.{attributes_answer}
use Rattle.ultra_stepping.specs.Checks.{head_check}
use native.Mathlib.Omega.{arith}
use Rattle.ultra_stepping.proofs.HeadLaws.{head_holds}
use Rattle.ultra_reading.proofs.ReadingLaws.{head_refuses, head_goes_on}
use Rattle.refusals.proofs.Chains.{broken, unbroken}
use Rattle.ultra_reading.proofs.used_length.Goals as goal
use Rattle.ultra_reading.proofs.used_length.Goals.{In_default}

head_fine : (c : In_default) → head_check c.args.fewest c.args.buf.now ≡ 0
head_fine c = unbroken _ (sym c.in_default.ensures)

pub returns-in-Err : goal.returns-in-Err
returns-in-Err c =
    let b = broken _ _ (sym c.in-Err.ensures) in
    ap Err (c.new.ensures ∙ ap (λ (n : ℕ). refusal n 0) (sym b.0)) ∙ head_refuses _ _ b.1

pub load_u32-count-requires : goal.load_u32-count-requires
load_u32-count-requires c = omega (arith, head_holds _ _ (head_fine (goal.at.load_u32-count-requires c).In_default))

pub attributes-requires : goal.attributes-requires
attributes-requires c = omega (arith, head_holds _ _ (head_fine (goal.at.attributes-requires c).In_default))

pub returns : goal.returns
returns c =
    let b = c.args.buf.now in
    c.attributes.ensures
    ∙ ap₂ (λ (r n : ℕ). attributes_answer b r 0 n) c.room.ensures c.load_u32-count.ensures
    ∙ head_goes_on _ _ (head_fine (goal.at.returns c).In_default)

-- `ultra_stepping::cursor::Cursor::step` meets its contract: one law a return.
use Rattle.std.specs.Prelude.{Err}
use Prim.Native.Nat.{ℕ, ◌+◌}
use mathlib.Core.Path.{◌≡◌, sym, ap, ap₂, ◌∙◌}
use Rattle.refusals.specs.Answers.{refusal}
use Rattle.ultra_stepping.specs.Stepping.{cursor_check, cursor_at, steps_to}
use native.Mathlib.Omega.{arith}
use Rattle.lent_buffers.specs.Room.{room_of}
use Rattle.ultra_stepping.specs.Checks.{head_check}
use Rattle.ultra_stepping.proofs.HeadLaws.{head_holds}
use Rattle.ultra_stepping.proofs.BoundsLaws.{BoundsHold}
use Rattle.ultra_stepping.proofs.StepLaws.{cursor_bounds, step_head, step_end, step_check, step_next}
use Rattle.refusals.proofs.Chains.{broken, unbroken}
use Rattle.ultra_stepping.proofs.cursor.Cursor.step.Goals as goal
use Rattle.ultra_stepping.proofs.cursor.Cursor.step.Goals.{In_default, In_default-check}

head_fine : (c : In_default) → head_check 2 c.args.buf.now ≡ 0
head_fine c = unbroken _ (sym c.in_default.ensures)

cursor_fine : (c : In_default-check)
    → cursor_check c.args.buf.now c.args.self.offset ≡ 0
cursor_fine c = unbroken _ (sym c.in_default-check.ensures)

-- the attribute at the cursor is within its bounds
here : (c : In_default-check) → BoundsHold c.args.buf.now (room_of c.args.buf.now) c.args.self.offset
here c = cursor_bounds _ _ (cursor_fine c)

pub returns-in-Err : goal.returns-in-Err
returns-in-Err c =
    let b = broken _ _ (sym c.in-Err.ensures) in
    ap Err (c.new.ensures ∙ ap (λ (n : ℕ). refusal n 0) (sym b.0)) ∙ step_head _ _ b.1

pub load_u32-requires : goal.load_u32-requires
load_u32-requires c = omega (arith, head_holds _ _ (head_fine (goal.at.load_u32-requires c).In_default))

pub returns-then-load_u32-index : goal.returns-then-load_u32-index
returns-then-load_u32-index c = step_end _ _ (head_fine (goal.at.returns-then-load_u32-index c).In_default) (omega arith)

pub returns-in-Err-check : goal.returns-in-Err-check
returns-in-Err-check c =
    let b = broken _ _ (sym c.in-Err-check.ensures) in
    let a = c.args in
    ap Err (c.at.ensures ∙ ap (λ (n : ℕ). refusal n a.self.offset) (sym b.0))
    ∙ step_check a.buf.now a.self (head_fine (goal.at.returns-in-Err-check c).In_default) (omega arith) b.1

pub load_u32-kind-requires : goal.load_u32-kind-requires
load_u32-kind-requires c = omega (arith, here (goal.at.load_u32-kind-requires c).In_default-check)

pub load_u32-size-requires : goal.load_u32-size-requires
load_u32-size-requires c = omega (arith, here (goal.at.load_u32-size-requires c).In_default-check)

pub overflow_add-next-2 : goal.overflow_add-next-2
overflow_add-next-2 c = omega (arith, here (goal.at.overflow_add-next-2 c).In_default-check)

pub returns : goal.returns
returns c =
    let a = c.args in
    ap₂ (λ (t s : ℕ). steps_to (record { kind = t; start = a.self.offset; size = s }) (cursor_at (a.self.index + 1) (a.self.offset + s))) c.load_u32-kind.ensures c.load_u32-size.ensures
    ∙ step_next a.buf.now a.self (head_fine (goal.at.returns c).In_default) (omega arith) (cursor_fine (goal.at.returns c).In_default-check)

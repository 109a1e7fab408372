-- Laws of a step: each answer from the facts that lead to it.
use Rattle.std.specs.Prelude.{Err}
use Prim.Native.Nat.{ℕ, zero, suc, ◌+◌, ◌%◌, ◌≤◌, ◌<◌}
use mathlib.Core.Path.{◌≡◌, refl}
use mathlib.Core.Bool.{◌&&◌}
use mathlib.Core.List.{List}
use lib.Dec.{leb, eqb}
use borrow.Author.Tests.{le-leb, lt-leb, eq-eqb, ne_eqb}
use Rattle.words.specs.Words.{u32_at}
use Rattle.refusals.specs.Answers.{refusal}
use Rattle.lent_buffers.specs.Room.{room_of}
use Rattle.ultra_format.specs.Decoding.{stored_count}
use Rattle.refusals.proofs.Chains.{passed}
use Rattle.ultra_stepping.specs.Checks.{head_check, bounds_check}
use Rattle.ultra_stepping.specs.Stepping.{cursor_check, step_refused, cursor_at, header_at, step_of, Step, steps_to, at_end}
use Rattle.ultra_stepping.specs.declared.cursor.Cursor.{Cursor}
use Rattle.ultra_stepping.proofs.BoundsLaws.{BoundsHold, bounds_hold}

-- ---- the cursor's offset
module _ (b : List ℕ) (o : ℕ) where
  pub stop_low : o < 8 → 5 ≡ cursor_check b o
  unfolding cursor_check
  stop_low h = simp (lt-leb 8 o h)

  module _ (h : 8 ≤ o) where
    pub stop_crooked : (o % 8 ≡ 0 → ⊥) → 5 ≡ cursor_check b o
    unfolding cursor_check
    stop_crooked n = simp (le-leb 8 o h, ne_eqb (o % 8) 0 n)

    pub only_bounds : o % 8 ≡ 0 → bounds_check b (room_of b) o ≡ cursor_check b o
    unfolding cursor_check
    only_bounds e = simp (le-leb 8 o h, eq-eqb (o % 8) 0 e)

  pub cursor_bounds : cursor_check b o ≡ 0 → BoundsHold b (room_of b) o
  unfolding cursor_check
  cursor_bounds e = bounds_hold b (room_of b) o (passed (leb 8 o && eqb (o % 8) 0) _ _ e).1

-- ---- the step
refuses : (f o : ℕ) (rest : Step) → (f ≡ 0 → ⊥) → Err (refusal f o) ≡ step_refused f o rest
refuses zero o rest n = absurd (n refl)
refuses (suc f) o rest n = refl

module _ (b : List ℕ) (c : Cursor) where
  pub step_head : (head_check 2 b ≡ 0 → ⊥) → Err (refusal (head_check 2 b) 0) ≡ step_of b c
  unfolding step_of
  step_head n = refuses (head_check 2 b) 0 _ n

  module _ (h : head_check 2 b ≡ 0) where
    pub step_end : stored_count b ≤ c.index → at_end ≡ step_of b c
    unfolding step_of
    step_end l = rw (h, le-leb (stored_count b) c.index l)

    module _ (l : c.index < stored_count b) where
      pub step_check : (cursor_check b c.offset ≡ 0 → ⊥) → Err (refusal (cursor_check b c.offset) c.offset) ≡ step_of b c
      unfolding step_of
      step_check n = rw (h, lt-leb (stored_count b) c.index l) (refuses (cursor_check b c.offset) c.offset _ n)

      pub step_next : cursor_check b c.offset ≡ 0 → steps_to (header_at b c.offset) (cursor_at (c.index + 1) (c.offset + u32_at b (c.offset + 4))) ≡ step_of b c
      unfolding step_of
      step_next f = rw (h, lt-leb (stored_count b) c.index l, f)

-- Laws of the tests 5 to 8: each answer from the facts that lead to it, and what 0 says.
use Prim.Native.Nat.{ℕ, ◌+◌, ◌%◌, ◌≤◌, ◌<◌}
use mathlib.Core.Path.{◌≡◌, sym}
use mathlib.Core.List.{List}
use lib.Dec.{leb, eqb}
use borrow.Author.Tests.{leb-true, le-leb, lt-leb, eqb-true, eqb-false, eq-eqb, ne_eqb, not-true}
use Rattle.words.specs.Words.{u32_at}
use Rattle.refusals.proofs.Chains.{passed}
use Rattle.ultra_stepping.specs.Checks.{bounds_check}

-- an attribute that breaks none of 5 to 8
pub record BoundsHold (b : List ℕ) (room o : ℕ) : Type 0 where
  pub header : o + 8 ≤ room
  pub least : 8 ≤ u32_at b (o + 4)
  pub eights : u32_at b (o + 4) % 8 ≡ 0
  pub within : o + u32_at b (o + 4) ≤ room
  pub typed : u32_at b o ≡ 0 → ⊥

pub bounds_hold : (b : List ℕ) (room o : ℕ) → bounds_check b room o ≡ 0 → BoundsHold b room o
unfolding bounds_check
bounds_hold b room o e =
    let p1 = passed (leb (o + 8) room) _ _ e in
    let p2 = passed (leb 8 (u32_at b (o + 4))) _ _ p1.1 in
    let p3 = passed (eqb (u32_at b (o + 4) % 8) 0) _ _ p2.1 in
    let p4 = passed (leb (o + u32_at b (o + 4)) room) _ _ p3.1 in
    let p5 = passed _ _ _ p4.1 in
    record {
      header = leb-true _ _ p1.0;
      least = leb-true _ _ p2.0;
      eights = eqb-true _ _ p3.0;
      within = leb-true _ _ p4.0;
      typed = eqb-false _ _ (not-true _ p5.0);
    }

module _ (b : List ℕ) (room o : ℕ) where
  pub stop_header : room < o + 8 → 5 ≡ bounds_check b room o
  unfolding bounds_check
  stop_header h = simp (lt-leb (o + 8) room h)

  module _ (h : o + 8 ≤ room) where
    pub stop_least : u32_at b (o + 4) < 8 → 6 ≡ bounds_check b room o
    unfolding bounds_check
    stop_least l = simp (le-leb (o + 8) room h, lt-leb 8 (u32_at b (o + 4)) l)

    module _ (l : 8 ≤ u32_at b (o + 4)) where
      pub stop_eights : (u32_at b (o + 4) % 8 ≡ 0 → ⊥) → 6 ≡ bounds_check b room o
      unfolding bounds_check
      stop_eights e = simp (le-leb (o + 8) room h, le-leb 8 (u32_at b (o + 4)) l, ne_eqb (u32_at b (o + 4) % 8) 0 e)

      module _ (e : u32_at b (o + 4) % 8 ≡ 0) where
        pub stop_overrun : room < o + u32_at b (o + 4) → 7 ≡ bounds_check b room o
        unfolding bounds_check
        stop_overrun w = simp (le-leb (o + 8) room h, le-leb 8 (u32_at b (o + 4)) l, eq-eqb (u32_at b (o + 4) % 8) 0 e, lt-leb (o + u32_at b (o + 4)) room w)

        module _ (w : o + u32_at b (o + 4) ≤ room) where
          pub stop_type : u32_at b o ≡ 0 → 8 ≡ bounds_check b room o
          unfolding bounds_check
          stop_type t = simp (le-leb (o + 8) room h, le-leb 8 (u32_at b (o + 4)) l, eq-eqb (u32_at b (o + 4) % 8) 0 e, le-leb (o + u32_at b (o + 4)) room w, eq-eqb (u32_at b o) 0 t)

          pub bounds_pass : (u32_at b o ≡ 0 → ⊥) → 0 ≡ bounds_check b room o
          unfolding bounds_check
          bounds_pass t = simp (le-leb (o + 8) room h, le-leb 8 (u32_at b (o + 4)) l, eq-eqb (u32_at b (o + 4) % 8) 0 e, le-leb (o + u32_at b (o + 4)) room w, ne_eqb (u32_at b o) 0 t)

pub bounds_checked : (b : List ℕ) (room o : ℕ) → BoundsHold b room o → bounds_check b room o ≡ 0
bounds_checked b room o h = sym (bounds_pass b room o h.header h.least h.eights h.within h.typed)

-- Laws of the head's tests: each answer from the facts that lead to it, and what 0 says.
use Prim.Native.Nat.{ℕ, ◌≤◌, ◌<◌}
use mathlib.Core.Path.{◌≡◌}
use mathlib.Core.List.{List}
use lib.ListN.{get_or}
use lib.Dec.{leb}
use borrow.Author.Tests.{leb-true, le-leb, lt-leb, eqb-false, eq-eqb, ne_eqb, not-true}
use Rattle.lent_buffers.specs.Room.{room_of}
use Rattle.ultra_format.specs.Decoding.{stored_count}
use Rattle.refusals.proofs.Chains.{passed}
use Rattle.ultra_stepping.specs.Checks.{head_check}

-- a head that breaks no rule
pub record HeadHolds (fewest : ℕ) (b : List ℕ) : Type 0 where
  pub room : 8 ≤ room_of b
  pub major : get_or b 0 0 ≡ 0 → ⊥
  pub most : stored_count b ≤ 1024
  pub enough : fewest ≤ stored_count b

pub head_holds : (fewest : ℕ) (b : List ℕ) → head_check fewest b ≡ 0 → HeadHolds fewest b
unfolding head_check
head_holds fewest b e =
    let p1 = passed (leb 8 (room_of b)) _ _ e in
    let p2 = passed _ _ _ p1.1 in
    let p3 = passed (leb (stored_count b) 1024) _ _ p2.1 in
    let p4 = passed (leb fewest (stored_count b)) _ _ p3.1 in
    record {
      room = leb-true _ _ p1.0;
      major = eqb-false _ _ (not-true _ p2.0);
      most = leb-true _ _ p3.0;
      enough = leb-true _ _ p4.0;
    }

module _ (fewest : ℕ) (b : List ℕ) where
  pub stop_short : room_of b < 8 → 1 ≡ head_check fewest b
  unfolding head_check
  stop_short h = simp (lt-leb 8 (room_of b) h)

  module _ (h : 8 ≤ room_of b) where
    pub stop_version : get_or b 0 0 ≡ 0 → 2 ≡ head_check fewest b
    unfolding head_check
    stop_version v = simp (le-leb 8 (room_of b) h, eq-eqb (get_or b 0 0) 0 v)

    module _ (v : get_or b 0 0 ≡ 0 → ⊥) where
      pub stop_count : 1024 < stored_count b → 3 ≡ head_check fewest b
      unfolding head_check
      stop_count n = simp (le-leb 8 (room_of b) h, ne_eqb (get_or b 0 0) 0 v, lt-leb (stored_count b) 1024 n)

      module _ (n : stored_count b ≤ 1024) where
        pub stop_missing : stored_count b < fewest → 4 ≡ head_check fewest b
        unfolding head_check
        stop_missing m = simp (le-leb 8 (room_of b) h, ne_eqb (get_or b 0 0) 0 v, le-leb (stored_count b) 1024 n, lt-leb fewest (stored_count b) m)

        pub head_passes : fewest ≤ stored_count b → 0 ≡ head_check fewest b
        unfolding head_check
        head_passes m = simp (le-leb 8 (room_of b) h, ne_eqb (get_or b 0 0) 0 v, le-leb (stored_count b) 1024 n, le-leb fewest (stored_count b) m)

-- Laws of the head's tests: each answer from the facts that lead to it, and what 0 says.
use Prim.Native.Nat.{ℕ, ◌≤◌, ◌<◌}
use mathlib.Core.Path.{◌≡◌}
use mathlib.Core.List.{List}
use lib.Dec.{leb, eqb}
use borrow.Author.Tests.{leb-true, le-leb, lt-leb, eqb-true, eq-eqb, ne_eqb}
use Rattle.words.specs.Words.{u32_at}
use Rattle.lent_buffers.specs.Room.{room_of}
use Rattle.handover_format.specs.PayloadLayouts.{magic}
use Rattle.handover_format.specs.PayloadDecoding.{stored_size, stored_count, stored_table}
use Rattle.refusals.proofs.Chains.{passed}
use Rattle.handover_reading.specs.PayloadReading.{head_check}

-- a head that breaks no rule
pub record HeadHolds (b : List ℕ) : Type 0 where
  pub room : 16 ≤ room_of b
  pub first : u32_at b 0 ≡ magic
  pub some : 1 ≤ stored_count b
  pub most : stored_count b ≤ 1024
  pub least : stored_table b ≤ stored_size b
  pub within : stored_size b ≤ room_of b

module _ (b : List ℕ) where
  pub head_holds : head_check b ≡ 0 → HeadHolds b
  unfolding head_check
  head_holds e =
      let p1 = passed (leb 16 (room_of b)) _ _ e in
      let p2 = passed (eqb (u32_at b 0) magic) _ _ p1.1 in
      let p3 = passed (leb 1 (stored_count b)) _ _ p2.1 in
      let p4 = passed (leb (stored_count b) 1024) _ _ p3.1 in
      let p5 = passed (leb (stored_table b) (stored_size b)) _ _ p4.1 in
      let p6 = passed (leb (stored_size b) (room_of b)) _ _ p5.1 in
      record {
        room = leb-true _ _ p1.0;
        first = eqb-true _ _ p2.0;
        some = leb-true _ _ p3.0;
        most = leb-true _ _ p4.0;
        least = leb-true _ _ p5.0;
        within = leb-true _ _ p6.0;
      }

  pub stop_short : room_of b < 16 → 1 ≡ head_check b
  unfolding head_check
  stop_short h = simp (lt-leb 16 (room_of b) h)

  module _ (h : 16 ≤ room_of b) where
    pub stop_magic : (u32_at b 0 ≡ magic → ⊥) → 20 ≡ head_check b
    unfolding head_check
    stop_magic m = simp (le-leb 16 (room_of b) h, ne_eqb (u32_at b 0) magic m)

    module _ (m : u32_at b 0 ≡ magic) where
      pub stop_none : stored_count b < 1 → 3 ≡ head_check b
      unfolding head_check
      stop_none s = simp (le-leb 16 (room_of b) h, eq-eqb (u32_at b 0) magic m, lt-leb 1 (stored_count b) s)

      module _ (s : 1 ≤ stored_count b) where
        pub stop_many : 1024 < stored_count b → 3 ≡ head_check b
        unfolding head_check
        stop_many n = simp (le-leb 16 (room_of b) h, eq-eqb (u32_at b 0) magic m, le-leb 1 (stored_count b) s, lt-leb (stored_count b) 1024 n)

        module _ (n : stored_count b ≤ 1024) where
          pub stop_least : stored_size b < stored_table b → 21 ≡ head_check b
          unfolding head_check
          stop_least l =
              simp (le-leb 16 (room_of b) h, eq-eqb (u32_at b 0) magic m, le-leb 1 (stored_count b) s, le-leb (stored_count b) 1024 n, lt-leb (stored_table b) (stored_size b) l)

          module _ (l : stored_table b ≤ stored_size b) where
            pub stop_within : room_of b < stored_size b → 21 ≡ head_check b
            unfolding head_check
            stop_within w =
                simp (le-leb 16 (room_of b) h, eq-eqb (u32_at b 0) magic m, le-leb 1 (stored_count b) s, le-leb (stored_count b) 1024 n, le-leb (stored_table b) (stored_size b) l, lt-leb (stored_size b) (room_of b) w)

            pub head_passes : stored_size b ≤ room_of b → 0 ≡ head_check b
            unfolding head_check
            head_passes w =
                simp (le-leb 16 (room_of b) h, eq-eqb (u32_at b 0) magic m, le-leb 1 (stored_count b) s, le-leb (stored_count b) 1024 n, le-leb (stored_table b) (stored_size b) l, le-leb (stored_size b) (room_of b) w)

-- Laws of one more attribute at the end: each answer from the facts that lead to it, and what it says that reading accepted the buffer,
-- that an offset was answered, and that the count was raised.
use Rattle.std.specs.Prelude.{Ok, Err}
use Prim.Native.Nat.{ℕ, ◌+◌, ◌≤◌, ◌<◌}
use mathlib.Core.Path.{◌≡◌, refl, sym, ap, ◌∙◌}
use mathlib.Core.List.{List}
use native.Mathlib.Omega.{arith}
use lib.ListN.{length}
use lib.Dec.{leb, ltb}
use borrow.Author.Tests.{le-leb, lt-leb, leb-true, lt-ltb, le-ltb, ltb-true}
use Rattle.words.specs.Words.{little_endian, replaced}
use Rattle.words.proofs.Stores.{length_replaced}
use Rattle.refusals.specs.Answers.{Answer, refusal}
use Rattle.lent_buffers.specs.Room.{room_of}
use Rattle.ultra_format.specs.Places.{place_check}
use Rattle.ultra_format.specs.Decoding.{stored_count, types_before}
use Rattle.refusals.specs.declared.Refusal.{Refusal}
use Rattle.refusals.proofs.Chains.{passed, none_first, first_stays, refuses, not_refused}
use Rattle.ultra_stepping.specs.Walking.{InBounds}
use Rattle.ultra_reading.specs.Reading.{used_length}
use Rattle.ultra_acceptance.proofs.Walked.{accepted, inside, in_bounds}
use Rattle.ultra_appending.specs.Appending.{append_check, append_offset_in, append_offset, counted, count_raised_at, count_raised}

-- ---- a buffer that was read
pub record Read (b : List ℕ) (n : ℕ) : Type 0 where
  pub room : 8 ≤ room_of b
  pub bounds : InBounds b (stored_count b)
  pub within : n ≤ room_of b
  pub most : stored_count b ≤ 1024

pub was_read : (b : List ℕ) (n : ℕ) → used_length 0 b ≡ Ok n → Read b n
was_read b n e =
    let a = accepted 0 b n e in
    record {
      room = a.head.room;
      bounds = in_bounds 0 b n a;
      within = rw a.used (inside b (room_of b) (stored_count b) a.head.room a.each);
      most = a.head.most;
    }

-- ---- the chain
module _ (before : List ℕ) (room used t given size : ℕ) where
  pub stop_full : 1024 ≤ length before → 17 ≡ append_check before room used t given size
  unfolding append_check
  stop_full h = simp (le-ltb (length before) 1024 h)

  module _ (few : length before < 1024) where
    pub stop_place : (place_check before t ≡ 0 → ⊥) → place_check before t ≡ append_check before room used t given size
    unfolding append_check
    stop_place h = rw (lt-ltb (length before) 1024 few) (first_stays (place_check before t) _ h)

    module _ (place : place_check before t ≡ 0) where
      pub stop_given : (given ≡ 0 → ⊥) → given ≡ append_check before room used t given size
      unfolding append_check
      stop_given h = rw (lt-ltb (length before) 1024 few, place) (first_stays given _ h)

      module _ (sound : given ≡ 0) where
        pub stop_room : room < used + size → 18 ≡ append_check before room used t given size
        unfolding append_check
        stop_room h = rw (lt-ltb (length before) 1024 few, place, sound, lt-leb (used + size) room h)

        pub pass : used + size ≤ room → 0 ≡ append_check before room used t given size
        unfolding append_check
        pass h = rw (lt-ltb (length before) 1024 few, place, sound, le-leb (used + size) room h)

-- what 0 says
pub record Appendable (before : List ℕ) (room used t given size : ℕ) : Type 0 where
  pub few : length before < 1024
  pub place : place_check before t ≡ 0
  pub sound : given ≡ 0
  pub within : used + size ≤ room

pub appendable : (before : List ℕ) (room used t given size : ℕ) → append_check before room used t given size ≡ 0 → Appendable before room used t given size
unfolding append_check
appendable before room used t given size e =
    let p1 = passed (ltb (length before) 1024) _ _ e in
    let p2 = none_first (place_check before t) _ p1.1 in
    let p3 = none_first given _ p2.1 in
    let p4 = passed (leb (used + size) room) _ _ p3.1 in
    record { few = ltb-true _ _ p1.0; place = p2.0; sound = p3.0; within = leb-true _ _ p4.0 }

-- ---- the offset
abbrev number : List ℕ → ℕ → ℕ → ℕ → ℕ → ℕ
number b n t given size = append_check (types_before b (stored_count b)) (room_of b) n t given size

module _ (b : List ℕ) (t given size : ℕ) where
  -- "gives that refusal"
  pub unread : (a : Answer) (r : Refusal) → a ≡ used_length 0 b → a ≡ Err r → a ≡ append_offset b t given size
  unfolding append_offset
  unread a r e i = rw (← e, i)

  pub append_refused : (n f : ℕ) (r : Refusal) → used_length 0 b ≡ Ok n → f ≡ number b n t given size → (f ≡ 0 → ⊥) → r ≡ refusal f n → Err r ≡ append_offset b t given size
  unfolding append_offset
  append_refused n f r e q h i = rw (e, ← q, i) (sym (refuses f n (Ok n) h))

  pub append_done : (n f : ℕ) → used_length 0 b ≡ Ok n → f ≡ number b n t given size → f ≡ 0 → Ok n ≡ append_offset b t given size
  unfolding append_offset
  append_done n f e q h = rw (e, ← q, h)

  -- what an offset says
  pub appended_at : (n : ℕ) → append_offset b t given size ≡ Ok n → (used_length 0 b ≡ Ok n) × Appendable (types_before b (stored_count b)) (room_of b) n t given size
  unfolding append_offset
  appended_at n e = go (used_length 0 b) refl e
    where
      go : (a : Answer) → used_length 0 b ≡ a → append_offset_in b t given size a ≡ Ok n → (used_length 0 b ≡ Ok n) × Appendable (types_before b (stored_count b)) (room_of b) n t given size
      go (Ok m) q w =
          let p = not_refused (number b m t given size) m (Ok m) n w in
          let z : m ≡ n = cc in
          rw (← z) (q, appendable _ _ _ _ _ _ p.0)
      go (Err r) q w = absurd (let z : ◌≡◌ {A = ℕ} 0 1 = cc in omega arith)

  -- ---- the count raised
  pub raise_refused : (a : Answer) (r : Refusal) → a ≡ Err r → a ≡ append_offset b t given size → (a, b) ≡ count_raised b t given size
  unfolding count_raised
  raise_refused a r i e = rw (← e, i)

  pub raise_done : (q : List ℕ) (a : Answer) (n k : ℕ) → a ≡ Ok n → a ≡ append_offset b t given size → k ≡ stored_count b → q ≡ replaced b 4 4 (little_endian 4 (k + 1))
      → (a, q) ≡ count_raised b t given size
  unfolding count_raised counted
  raise_done q a n k i e h g = rw (← e, i, g, h)

  -- what an answer says
  module _ (q : List ℕ) (a : Answer) (e : (a, q) ≡ count_raised b t given size) where
    pub raised : (n : ℕ) → a ≡ Ok n → (append_offset b t given size ≡ Ok n) × (q ≡ counted b)
    unfolding count_raised
    raised n i = go (append_offset b t given size) refl (rw i at e)
      where
        go : (p : Answer) → append_offset b t given size ≡ p → (Ok n, q) ≡ count_raised_at b p → (append_offset b t given size ≡ Ok n) × (q ≡ counted b)
        go (Ok m) r w = let z : Ok n ≡ Ok m = ap (λ (x : Answer × List ℕ). x.0) w in (r ∙ sym z, ap (λ (x : Answer × List ℕ). x.1) w)
        go (Err r) s w = let z : Ok n ≡ Err r = ap (λ (x : Answer × List ℕ). x.0) w in absurd (let y : ◌≡◌ {A = ℕ} 0 1 = cc in omega arith)

    pub kept : (r : Refusal) → a ≡ Err r → (append_offset b t given size ≡ Err r) × (q ≡ b)
    unfolding count_raised
    kept r i = go (append_offset b t given size) refl (rw i at e)
      where
        go : (p : Answer) → append_offset b t given size ≡ p → (Err r, q) ≡ count_raised_at b p → (append_offset b t given size ≡ Err r) × (q ≡ b)
        go (Err s) u w = let z : Err r ≡ Err s = ap (λ (x : Answer × List ℕ). x.0) w in (u ∙ sym z, ap (λ (x : Answer × List ℕ). x.1) w)
        go (Ok m) u w = let z : Err r ≡ Ok m = ap (λ (x : Answer × List ℕ). x.0) w in absurd (let y : ◌≡◌ {A = ℕ} 0 1 = cc in omega arith)

pub length_counted : (b : List ℕ) → 8 ≤ length b → length (counted b) ≡ length b
unfolding counted
length_counted b h = length_replaced b (little_endian 4 (stored_count b + 1)) 4 4 refl h

-- Laws of an accepted buffer: its head and attributes lie within it, and their sizes suit the table.
use Prim.Native.Nat.{ℕ, ◌+◌, ◌≤◌, ◌<◌}
use mathlib.Core.Path.{◌≡◌, sym, ◌∙◌}
use mathlib.Core.Bool.{true}
use mathlib.Core.List.{List}
use native.Mathlib.Omega.{arith}
use lib.ListN.{length}
use Rattle.words.specs.Words.{u32_at}
use Rattle.ultra_format.specs.Contexts.{used}
use Rattle.lent_buffers.specs.Room.{room_of}
use Rattle.ultra_format.specs.Members.{size_suits}
use Rattle.ultra_format.specs.Decoding.{decoded, start, stored_size, stored_count, stored_attribute, context_of}
use Rattle.ultra_format.proofs.Decoded.{used_decoded}
use Rattle.ultra_acceptance.proofs.Walked.{Accepted, accepted, walk_reached}
use Rattle.ultra_stepping.proofs.WalkLaws.{Reached}
use Rattle.ultra_locating.specs.Passing.{Accepts}

pub record HeadInside (b : List ℕ) : Type 0 where
  pub room : 8 ≤ length b
  pub most : stored_count b ≤ 1024

pub record Inside (b : List ℕ) (i : ℕ) : Type 0 where
  pub least : 8 ≤ stored_size b i
  pub within : start b i + stored_size b i ≤ length b
  pub small : start b i + stored_size b i ≤ 65536
  pub suits : size_suits (stored_size b i) (stored_attribute b i).body ≡ true

-- attribute i, where its start is known as `at`: what is loaded there is its type and size
pub record Loaded (b : List ℕ) (i at : ℕ) : Type 0 where
  pub reached : Reached b (room_of b) i at
  pub body_is : decoded b at (u32_at b (at + 4)) (u32_at b at) ≡ (stored_attribute b i).body
  pub suits : size_suits (u32_at b (at + 4)) (decoded b at (u32_at b (at + 4)) (u32_at b at)) ≡ true

module _ (b : List ℕ) (a : Accepts b) where
  pub reading : Accepted 2 b a.0
  reading = accepted 2 b a.0 a.1

  pub head_inside : HeadInside b
  head_inside = record { room = omega (arith, reading.head.room); most = reading.head.most }

  -- what reading answers is the used length of the context
  pub used_is_law : a.0 ≡ used (context_of b)
  used_is_law = reading.used ∙ sym (used_decoded b)

  pub inside : (i : ℕ) → i < stored_count b → Inside b i
  inside i h =
      let p = reading.each i h in
      let k = p.bounds in
      let w = k.within in
      record { least = k.least; within = omega arith; small = omega arith; suits = p.body.suits }

  pub loaded : (i at : ℕ) → i < stored_count b → at ≡ start b i → Loaded b i at
  loaded i at h e = record { reached = walk_reached 2 b a.0 reading i at h e; body_is = rw e; suits = rw e (inside i h).suits }

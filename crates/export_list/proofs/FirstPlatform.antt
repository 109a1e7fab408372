-- The first attribute of an accepted buffer is its platform, from byte 8 on.
use Prim.Native.Nat.{ℕ, ◌≤◌, ◌<◌}
use mathlib.Core.Path.{◌≡◌, sym, ap, ◌∙◌}
use mathlib.Core.List.{List}
use native.Mathlib.Omega.{arith}
use lib.ListN.{length}
use borrow.Author.Tests.{eqb-true}
use Rattle.words.specs.Words.{u64_at}
use Rattle.byte_layout.specs.Stored.{text_at}
use Rattle.ultra_format.specs.Contexts.{Body.platform, Attribute, body_at}
use Rattle.ultra_format.specs.Decoding.{platform_at, decoded, start, stored_type, stored_size, stored_count, types_before, context_of}
use Rattle.ultra_format.specs.Places.{placed, place_check}
use Rattle.ultra_format.proofs.Decoded.{at_decoded}
use Rattle.ultra_format.proofs.Sizes.{platform_least}
use Rattle.refusals.proofs.Chains.{passed}
use Rattle.ultra_locating.specs.Passing.{Accepts}
use Rattle.ultra_locating.proofs.Located.{reading, inside}
use Rattle.export_list.specs.ExportList.{platform_or, no_platform, platform_in, agent_of}

module _ (b : List ℕ) (a : Accepts b) where
  some : 0 < stored_count b
  some = omega (arith, (reading b a).head.enough)

  first_type : stored_type b 0 ≡ 1
  unfolding types_before place_check placed
  first_type = eqb-true (stored_type b 0) 1 (passed _ _ _ ((reading b a).each 0 some).place).0

  first_body : body_at (context_of b) 0 ≡ platform (platform_at b 8 (stored_size b 0))
  unfolding decoded start
  first_body = ap (λ (x : Attribute). x.body) (at_decoded b 0 some) ∙ ap (decoded b (start b 0) (stored_size b 0)) first_type

  pub first_room : 64 ≤ length b
  unfolding start
  first_room =
      let h = inside b a 0 some in
      omega (arith, h.within, platform_least b (start b 0) (stored_size b 0) (stored_type b 0) first_type h.suits)

  pub agent_is : text_at b 24 32 ≡ agent_of (context_of b)
  unfolding platform_or
  agent_is = ap (λ x. (platform_or no_platform x).name) (sym first_body)

  pub rsdp_is : u64_at b 56 ≡ (platform_in (context_of b)).rsdp
  unfolding platform_or
  rsdp_is = ap (λ x. (platform_or no_platform x).rsdp) (sym first_body)

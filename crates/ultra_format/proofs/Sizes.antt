-- What it says of a decoded body's size, by its type, that it suits the table.
use Prim.Native.Nat.{ℕ, ◌+◌, ◌-◌, ◌*◌, ◌/◌, ◌≤◌}
use mathlib.Core.Path.{◌≡◌, refl, sym, ap, ◌∙◌}
use mathlib.Core.Bool.{Bool, true, ◌&&◌}
use mathlib.Core.List.{List}
use lib.ListN.{length}
use lib.Dec.{leb}
use borrow.Author.Tests.{leb-true}
use Rattle.ultra_format.specs.Contexts.{Body}
use Rattle.ultra_format.specs.Contexts.{Body.platform}
use Rattle.ultra_format.specs.Members.{size_suits}
use Rattle.ultra_format.specs.Decoding.{decoded, platform_at, entries_at}
use Rattle.refusals.proofs.Chains.{both_hold}
use Rattle.ultra_format.proofs.Bodies as bodies

module _ (b : List ℕ) (o s : ℕ) where
  -- `size_suits` asks at least n bytes of type k
  least : (t k n : ℕ) {x : Body} → t ≡ k → decoded b o s k ≡ x → size_suits s x ≡ leb n s → size_suits s (decoded b o s t) ≡ true → n ≤ s
  least t k n {x} e d q h = leb-true n s (sym q ∙ sym (ap (size_suits s) (ap (decoded b o s) e ∙ d)) ∙ h)

  pub kernel_least : (t : ℕ) → t ≡ 2 → size_suits s (decoded b o s t) ≡ true → 336 ≤ s
  unfolding decoded size_suits
  kernel_least t e h = least t 2 336 e refl refl h

  pub module_least : (t : ℕ) → t ≡ 4 → size_suits s (decoded b o s t) ≡ true → 96 ≤ s
  unfolding decoded size_suits
  module_least t e h = least t 4 96 e refl refl h

  pub framebuffer_least : (t : ℕ) → t ≡ 6 → size_suits s (decoded b o s t) ≡ true → 32 ≤ s
  unfolding decoded size_suits
  framebuffer_least t e h = least t 6 32 e refl refl h

  pub platform_least : (t : ℕ) → t ≡ 1 → size_suits s (decoded b o s t) ≡ true → 56 ≤ s
  unfolding decoded size_suits
  platform_least t e h =
      let k : size_suits s (platform (platform_at b o s)) ≡ true = rw e at h in
      leb-true 56 s (first4 (leb 56 s) _ _ _ _ k)
    where
      first4 : (t u v w x : Bool) → (t && u && v && w && x) ≡ true → t ≡ true
      first4 t u v w x h = (both_hold t u (both_hold (t && u) v (both_hold (t && u && v) w (both_hold (t && u && v && w) x h).0).0).0).0

  pub line_least : (t : ℕ) → t ≡ 5 → size_suits s (decoded b o s t) ≡ true → 16 ≤ s
  unfolding decoded size_suits
  line_least t e h = least t 5 16 e refl refl h

  -- a map has its header and its entries
  pub map_size_law : (t : ℕ) → t ≡ 3 → size_suits s (decoded b o s t) ≡ true → s ≡ 8 + 24 * length (entries_at b (o + 8) ((s - 8) / 24))
  unfolding decoded size_suits
  map_size_law t e h = bodies.map_size_law s (entries_at b (o + 8) ((s - 8) / 24)) (rw e at h)

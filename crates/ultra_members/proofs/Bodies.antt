-- Laws of single bodies: when the size of a decoded one suits the table, and which body a type decodes to.
use Prim.Native.Nat.{ℕ, ◌+◌, ◌-◌, ◌*◌, ◌/◌, ◌%◌, ◌≤◌}
use mathlib.Core.Path.{◌≡◌, refl}
use mathlib.Core.Bool.{Bool, true, false, and-true}
use mathlib.Core.List.{List}
use native.Mathlib.Omega.{arith}
use lib.Dec.{leb}
use borrow.Author.Tests.{ne_eqb}
use Rattle.ultra_format.specs.Contexts.{Body, Body.platform, Body.memory_map}
use Rattle.ultra_format.specs.Members.{present_if, size_suits, values, texts, ranges, ordered, body_check}
use Rattle.ultra_format.specs.Decoding.{member_when, platform_at, entries_at, decoded}
use Rattle.ultra_format.proofs.Numbers.{length_entries}

-- a decoded member is present exactly if the size says so
as_said : (t : Bool) (n : ℕ) → present_if t (member_when t n) ≡ true
as_said true n = refl
as_said false n = refl

pub platform_suits : (b : List ℕ) (o s : ℕ) → size_suits s (platform (platform_at b o s)) ≡ leb 56 s
unfolding size_suits
platform_suits b o s =
    simp (as_said (leb 64 s), as_said (leb 65 s), as_said (leb 80 s), as_said (leb 88 s), and-true)

-- what does not fill a whole number of entries is no map
pub map_misfits : (b : List ℕ) (o s : ℕ) → 8 ≤ s → ((s - 8) % 24 ≡ 0 → ⊥) → size_suits s (memory_map (entries_at b o ((s - 8) / 24))) ≡ false
unfolding size_suits
map_misfits b o s h e = rw length_entries (ne_eqb s (8 + 24 * ((s - 8) / 24)) (λ q. e (omega arith)))

-- the answer for a body is the answer for the bytes that decode to it
module _ (b : List ℕ) (o s : ℕ) where
  pub of_type_law : {t k : ℕ} {x : Body} → t ≡ k → decoded b o s k ≡ x → body_check s x ≡ body_check s (decoded b o s t)
  of_type_law e d = rw (e, d)

  pub of_other : (t : ℕ) → (t ≡ 1 → ⊥) → (t ≡ 2 → ⊥) → (t ≡ 3 → ⊥) → (t ≡ 4 → ⊥) → (t ≡ 5 → ⊥) → (t ≡ 6 → ⊥)
      → 0 ≡ body_check s (decoded b o s t)
  unfolding decoded body_check size_suits values texts ranges ordered
  of_other t m₁ m₂ m₃ m₄ m₅ m₆ = simp (ne_eqb t 1 m₁, ne_eqb t 2 m₂, ne_eqb t 3 m₃, ne_eqb t 4 m₄, ne_eqb t 5 m₅, ne_eqb t 6 m₆)

-- Laws of the records of a decoded body, by its type.
use Prim.Native.Nat.{ℕ}
use mathlib.Core.Path.{◌≡◌, refl}
use mathlib.Core.List.{List}
use Rattle.ultra_format.specs.Contexts.{Body}
use Rattle.ultra_format.specs.Decoding.{decoded}
use Rattle.ultra_format.specs.Records.{blank_records, records_of}
use Rattle.ultra_format.proofs.Bodies.{by_type}

module _ (b : List ℕ) (o s : ℕ) where
  pub records_of_law : {t k : ℕ} {x : Body} → t ≡ k → decoded b o s k ≡ x → records_of x ≡ records_of (decoded b o s t)
  records_of_law e d = rw (e, d)

  pub records_blank : (t : ℕ) → (t ≡ 1 → ⊥) → (t ≡ 2 → ⊥) → (t ≡ 4 → ⊥) → (t ≡ 6 → ⊥) → blank_records ≡ records_of (decoded b o s t)
  unfolding records_of
  records_blank t n1 n2 n4 n6 =
      by_type (λ (x : Body). blank_records ≡ records_of x) b o s t (λ e. absurd (n1 e)) (λ e. absurd (n2 e)) (λ e. refl) (λ e. absurd (n4 e)) (λ e. refl) (λ e. absurd (n6 e)) (λ n. refl)

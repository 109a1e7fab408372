-- Laws of a decoded body, by its type: its part, and whether it is a module that holds an address.
use Prim.Native.Nat.{ℕ, ◌+◌, ◌-◌, ◌*◌, ◌/◌, ◌≤◌}
use mathlib.Core.Path.{◌≡◌, refl, sym, ap, ◌∙◌}
use mathlib.Core.Bool.{true, false}
use mathlib.Core.List.{List}
use native.Mathlib.Omega.{arith}
use lib.ListN.{length}
use borrow.Author.Tests.{leb-true, eqb-true}
use Rattle.words.specs.Words.{u64_at}
use Rattle.byte_layout.specs.Stored.{text_at}
use Rattle.byte_layout.proofs.Copies.{text_short}
use Rattle.ultra_format.specs.Contexts.{Body}
use Rattle.ultra_format.specs.Members.{size_suits}
use Rattle.ultra_format.specs.Decoding.{decoded, entries_at}
use Rattle.ultra_format.proofs.Bodies.{by_type}
use Rattle.ultra_format.proofs.Sizes.{map_size_law}
use Rattle.lent_buffers.specs.LentParts.{part, no_part}
use Rattle.ultra_questions.specs.Parts.{body_part}
use Rattle.address_ranges.specs.Ranges.{pages_cover}
use Rattle.ultra_questions.specs.ModuleQuestion.{holding}

module _ (b : List ℕ) (o s t : ℕ) where
  pub map_part : t ≡ 3 → size_suits s (decoded b o s t) ≡ true → part (o + 8) (s - 8) ≡ body_part o (decoded b o s t)
  unfolding decoded body_part
  map_part e h =
      let z = map_size_law b o s t e h in
      let q : s - 8 ≡ 24 * length (entries_at b (o + 8) ((s - 8) / 24)) = omega arith in
      ap (part (o + 8)) q ∙ sym (ap (λ (k : ℕ). body_part o (decoded b o s k)) e)

  pub line_part : t ≡ 5 → part (o + 8) (length (text_at b (o + 8) (s - 8))) ≡ body_part o (decoded b o s t)
  unfolding decoded body_part
  line_part e = sym (ap (λ (k : ℕ). body_part o (decoded b o s k)) e)

  pub no_part_law : (t ≡ 3 → ⊥) → (t ≡ 5 → ⊥) → no_part ≡ body_part o (decoded b o s t)
  unfolding body_part
  no_part_law n3 n5 =
      by_type (λ (x : Body). no_part ≡ body_part o x) b o s t (λ e. refl) (λ e. refl) (λ e. absurd (n3 e)) (λ e. refl) (λ e. absurd (n5 e)) (λ e. refl) (λ n. refl)

  -- a part lies within its attribute
  pub part_within : size_suits s (decoded b o s t) ≡ true → (body_part o (decoded b o s t)).start + (body_part o (decoded b o s t)).length ≤ o + s
  unfolding size_suits body_part
  part_within h =
      by_type (λ (x : Body). size_suits s x ≡ true → (body_part o x).start + (body_part o x).length ≤ o + s) b o s t
      (λ e k. omega arith) (λ e k. omega arith) (λ e k. let z = eqb-true s (8 + 24 * length (entries_at b (o + 8) ((s - 8) / 24))) k in omega arith) (λ e k. omega arith)
      (λ e k. let z = text_short b (o + 8) (s - 8) in let l = leb-true 16 s k in omega arith) (λ e k. omega arith) (λ n k. omega arith) h

  module _ (a : ℕ) where
    pub no_module_law : (t ≡ 4 → ⊥) → false ≡ holding a (decoded b o s t)
    no_module_law n4 =
        by_type (λ (x : Body). false ≡ holding a x) b o s t (λ e. refl) (λ e. refl) (λ e. refl) (λ e. absurd (n4 e)) (λ e. refl) (λ e. refl) (λ n. refl)

    pub is_module : t ≡ 4 → pages_cover (u64_at b (o + 80)) (u64_at b (o + 88)) a ≡ holding a (decoded b o s t)
    unfolding decoded
    is_module e = sym (ap (λ (k : ℕ). holding a (decoded b o s k)) e)

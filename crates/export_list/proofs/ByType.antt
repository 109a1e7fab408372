-- What the attribute at a place becomes, by the type that is asked for.
use Prim.Native.Nat.{ℕ, ◌+◌, ◌-◌, ◌/◌, ◌≤◌}
use mathlib.Core.Path.{◌≡◌, refl, ap, ◌∙◌}
use mathlib.Core.List.{List, [], ◌∷◌}
use native.Mathlib.Omega.{arith}
use lib.ListN.{length}
use borrow.Author.Tests.{eq-eqb, ne_eqb}
use Rattle.words.specs.Words.{u32_at, u64_at}
use Rattle.byte_layout.specs.Stored.{text_at}
use Rattle.ultra_format.specs.Contexts.{Body}
use Rattle.ultra_format.specs.Decoding.{entries_at, module_at, decoded}
use Rattle.ultra_format.proofs.Bodies.{by_type}
use Rattle.ultra_format.proofs.Sizes.{platform_least, module_least}
use Rattle.handover_format.specs.Tags.{handover_rsdp}
use Rattle.handover_format.specs.WrittenForm.{strings}
use Rattle.handover_format.proofs.WrittenLaws.{strings_none}
use Rattle.export_list.specs.ExportList.{bare, range_entries, file_entry, line_entry, pointer_entries, records_of, records_if}
use Rattle.export_list.specs.AttributeEntries.{AttributeAt, becomes}
use Rattle.export_list.proofs.BareLaws.{ranges_strings}
use Rattle.export_list.proofs.SelfLaws.{pointer_strings}

-- an RSDP address, 0 or not
pub no_pointer : (a : ℕ) → a ≡ 0 → pointer_entries a ≡ []
unfolding pointer_entries
no_pointer a e = rw e

pub one_pointer : (a : ℕ) → (a ≡ 0 → ⊥) → pointer_entries a ≡ bare handover_rsdp a 20 ∷ []
unfolding pointer_entries
one_pointer a n = rw (ne_eqb a 0 n)

module _ (b : List ℕ) (o k : ℕ) where
  abbrev s : ℕ
  s = u32_at b (o + 4)

  -- of another type
  pub is_other : (u32_at b o ≡ k → ⊥) → becomes b o k ≡ []
  unfolding becomes records_if
  is_other n = rw (ne_eqb (u32_at b o) k n)

  module _ (h : u32_at b o ≡ k) where
    chosen : (t : ℕ) → k ≡ t → becomes b o k ≡ records_of (decoded b o s t)
    unfolding becomes records_if
    chosen t e = rw (eq-eqb (u32_at b o) k h) (ap (λ (n : ℕ). records_of (decoded b o s n)) (h ∙ e))

    pub is_platform : k ≡ 1 → becomes b o k ≡ pointer_entries (u64_at b (o + 48))
    unfolding decoded records_of
    is_platform e = chosen 1 e

    pub is_map : k ≡ 3 → becomes b o k ≡ range_entries (entries_at b (o + 8) ((s - 8) / 24))
    unfolding decoded records_of
    is_map e = chosen 3 e

    pub is_module : k ≡ 4 → becomes b o k ≡ file_entry (module_at b o) ∷ []
    unfolding decoded records_of
    is_module e = chosen 4 e

    pub is_line : k ≡ 5 → becomes b o k ≡ line_entry (text_at b (o + 8) (s - 8)) ∷ []
    unfolding decoded records_of
    is_line e = chosen 5 e

    -- left behind
    pub is_none : (k ≡ 1 → ⊥) → (k ≡ 3 → ⊥) → (k ≡ 4 → ⊥) → (k ≡ 5 → ⊥) → becomes b o k ≡ []
    unfolding records_of
    is_none n1 n3 n4 n5 =
        chosen k refl
        ∙ by_type (λ (x : Body). records_of x ≡ []) b o s k (λ e. absurd (n1 e)) (λ e. refl) (λ e. absurd (n3 e)) (λ e. absurd (n4 e)) (λ e. absurd (n5 e)) (λ e. refl) (λ n. refl)

    -- only a module and a command line become records with strings
    pub is_stringless : (k ≡ 4 → ⊥) → (k ≡ 5 → ⊥) → strings (becomes b o k) ≡ []
    unfolding records_of
    is_stringless n4 n5 =
        ap strings (chosen k refl)
        ∙ by_type (λ (x : Body). strings (records_of x) ≡ []) b o s k (λ e. pointer_strings (u64_at b (o + 48))) (λ e. strings_none) (λ e. ranges_strings (entries_at b (o + 8) ((s - 8) / 24))) (λ e. absurd (n4 e)) (λ e. absurd (n5 e)) (λ e. strings_none) (λ n. strings_none)

    -- how large it is at least
    module _ (w : AttributeAt b o) where
      pub platform_fits : k ≡ 1 → o + 56 ≤ length b
      platform_fits e = omega (arith, w.within, platform_least b o s (u32_at b o) (h ∙ e) w.suits)

      pub module_fits : k ≡ 4 → o + 96 ≤ length b
      module_fits e = omega (arith, w.within, module_least b o s (u32_at b o) (h ∙ e) w.suits)

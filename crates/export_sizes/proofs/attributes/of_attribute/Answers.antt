-- `attributes::of_attribute` meets its contract, by the type.
use Prim.Native.Nat.{ℕ, ◌+◌, ◌-◌, ◌/◌}
use mathlib.Core.Path.{◌≡◌, refl, sym, ap, ◌∙◌}
use mathlib.Core.List.{[], ◌∷◌}
use native.Mathlib.Omega.{arith}
use lib.ListN.{length}
use Rattle.words.specs.Words.{u32_at}
use Rattle.byte_layout.specs.Stored.{text_at}
use Rattle.ultra_format.specs.Decoding.{module_at, entries_at}
use Rattle.ultra_format.proofs.Numbers.{length_entries}
use Rattle.export_list.specs.ExportList.{range_entries, file_entry, line_entry, pointer_entries}
use Rattle.export_list.proofs.BareLaws.{ranges_strings, ranges_length, file_width, line_width}
use Rattle.export_list.proofs.ByType.{is_other, is_platform, is_map, is_module, is_line, is_none, platform_fits, module_fits}
use Rattle.export_sizes.specs.Extents.{grown}
use Rattle.export_sizes.proofs.ExtentLaws.{extent_is, grown_none}
use Rattle.export_sizes.proofs.attributes.of_attribute.Goals as goal
use Rattle.export_sizes.proofs.attributes.of_attribute.Goals.{Else-kind}

-- the attribute is of the type that is asked for
here : (c : Else-kind) → let a = c.args in u32_at a.buf.now a.at ≡ a.kind
here c = sym c.kind.ensures ∙ c.if-kind.false

pub returns-then-kind : goal.returns-then-kind
returns-then-kind c =
    let a = c.args in
    (grown_none a.m ∙ ap (grown a.m) (sym (is_other a.buf.now a.at a.kind (λ e. c.if-kind.true (c.kind.ensures ∙ e)))), omega arith, omega arith)

pub rsdp-requires : goal.rsdp-requires
rsdp-requires c =
    platform_fits c.args.buf.now c.args.at c.args.kind (here (goal.at.rsdp-requires c).Else-kind) c.requires.attribute_at c.in-1.is

pub text_length-requires : goal.text_length-requires
text_length-requires c =
    omega (arith, module_fits c.args.buf.now c.args.at c.args.kind (here (goal.at.text_length-requires c).Else-kind) c.requires.attribute_at c.in-4.is)

pub returns-in-1 : goal.returns-in-1
returns-in-1 c =
    let a = c.args in
    let p = c.pointer.ensures in (
      p.0 ∙ ap (λ (x : ℕ). grown a.m (pointer_entries x)) c.rsdp.ensures ∙ ap (grown a.m) (sym (is_platform a.buf.now a.at a.kind (here (goal.at.returns-in-1 c).Else-kind) c.in-1.is)),
      omega (arith, p.1),
      omega (arith, p.2),
    )

pub returns-in-3 : goal.returns-in-3
returns-in-3 c =
    let a = c.args in
    let b = a.buf.now in
    let size = c.size-size.ensures in
    let n = (u32_at b (a.at + 4) - 8) / 24 in
    let es = entries_at b (a.at + 8) n in (
      extent_is a.m (range_entries es) _ _ (omega (arith, size, ranges_length es, length_entries b (a.at + 8) n)) (omega (arith, ap length (ranges_strings es)))
          ∙ ap (grown a.m) (sym (is_map b a.at a.kind (here (goal.at.returns-in-3 c).Else-kind) c.in-3.is)),
      omega (arith, size),
      omega arith,
    )

pub returns-in-4 : goal.returns-in-4
returns-in-4 c =
    let a = c.args in
    let b = a.buf.now in (
      extent_is a.m (file_entry (module_at b a.at) ∷ []) _ _ refl (omega (arith, c.text_length.ensures.0, file_width (module_at b a.at)))
          ∙ ap (grown a.m) (sym (is_module b a.at a.kind (here (goal.at.returns-in-4 c).Else-kind) c.in-4.is)),
      omega arith,
      omega (arith, c.text_length.ensures.1),
    )

pub returns-in-5 : goal.returns-in-5
returns-in-5 c =
    let a = c.args in
    let b = a.buf.now in
    let x = text_at b (a.at + 8) (u32_at b (a.at + 4) - 8) in
    let n = c.text_length-in-5.ensures.0 ∙ ap (λ (k : ℕ). length (text_at b (a.at + 8) (k - 8))) c.size-size.ensures in (
      extent_is a.m (line_entry x ∷ []) _ _ refl (omega (arith, n, line_width x))
          ∙ ap (grown a.m) (sym (is_line b a.at a.kind (here (goal.at.returns-in-5 c).Else-kind) c.in-5.is)),
      omega arith,
      omega (arith, c.text_length-in-5.ensures.1, c.size-size.ensures),
    )

pub returns-in_default : goal.returns-in_default
returns-in_default c =
    let a = c.args in
    let k = a.kind in
    let n1 : k ≡ 1 → ⊥ = omega arith in
    let n3 : k ≡ 3 → ⊥ = omega arith in
    let n4 : k ≡ 4 → ⊥ = omega arith in
    let n5 : k ≡ 5 → ⊥ = omega arith in
    (grown_none a.m ∙ ap (grown a.m) (sym (is_none a.buf.now a.at a.kind (here (goal.at.returns-in_default c).Else-kind) n1 n3 n4 n5)), omega arith, omega arith)

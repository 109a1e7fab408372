-- `attributes::of_attribute` meets its contract, by the type.
use Prim.Native.Nat.{ℕ, ◌+◌, ◌-◌}
use mathlib.Core.Path.{◌≡◌, sym, ap, ◌∙◌}
use mathlib.Core.List.{List}
use native.Mathlib.Omega.{arith}
use lib.ListN.{length}
use Rattle.words.specs.Words.{u32_at}
use Rattle.byte_layout.specs.Stored.{text_at, closed}
use Rattle.handover_format.specs.Payloads.{Entry}
use Rattle.handover_format.specs.WrittenForm.{strings}
use Rattle.handover_format.proofs.WrittenLaws.{strings_none}
use Rattle.export_list.specs.AttributeEntries.{becomes}
use Rattle.export_list.proofs.BareLaws.{line_strings}
use Rattle.export_list.proofs.ByType.{is_other, is_module, is_line, is_stringless, module_fits}
use Rattle.export_strings.specs.StringPuts.{bytes_put}
use Rattle.export_strings.proofs.PutLaws.{bytes_put_none}
use Rattle.export_strings.proofs.attributes.of_attribute.Goals as goal
use Rattle.export_strings.proofs.attributes.of_attribute.Goals.{Else-kind, In-5}

-- the attribute is of the type that is asked for
here : (c : Else-kind) → let a = c.args in u32_at a.buf.now a.at ≡ a.kind
here c = sym c.kind.ensures ∙ c.if-kind.false

-- the command line's string, by the size that was loaded
line_is : (c : In-5) → let a = c.args in
    strings (becomes a.buf.now a.at a.kind) ≡ closed (text_at a.buf.now (a.at + 8) (c.size-size.result - 8))
line_is c =
    let here' : (let a = c.args in u32_at a.buf.now a.at ≡ a.kind) =
    sym c.kind.ensures ∙ c.if-kind.false in
    let a = c.args in
    let b = a.buf.now in
    ap strings (is_line b a.at a.kind here' c.in-5.is)
    ∙ line_strings (text_at b (a.at + 8) (u32_at b (a.at + 4) - 8))
    ∙ ap (λ (n : ℕ). closed (text_at b (a.at + 8) (n - 8))) (sym c.size-size.ensures)

pub returns-then-kind : goal.returns-then-kind
returns-then-kind c =
    let a = c.args in
    let b = a.buf.now in
    bytes_put_none a.out.now a.to
    ∙ ap (bytes_put (a.out.now, a.to)) (sym (ap strings (is_other b a.at a.kind (λ e. c.if-kind.true (c.kind.ensures ∙ e))) ∙ strings_none))

pub file-requires : goal.file-requires
file-requires c =
    let a = c.args in
    let b = a.buf.now in
    record { at_in_bounds = module_fits b a.at a.kind (here (goal.at.file-requires c).Else-kind) c.requires.attribute_at c.in-4.is; at_in_bounds_2 = omega (arith, c.requires.kind_in_bounds, ap (λ (l : List Entry). length (strings l)) (is_module b a.at a.kind (here (goal.at.file-requires c).Else-kind) c.in-4.is)) }

pub text-requires : goal.text-requires
text-requires c =
    (omega (arith, c.requires.attribute_at.within, c.requires.attribute_at.least, c.size-size.ensures), omega (arith, c.requires.kind_in_bounds, ap length (line_is (goal.at.text-requires c).In-5)))

pub returns-in-4 : goal.returns-in-4
returns-in-4 c =
    let a = c.args in
    c.file.ensures ∙ ap (λ (l : List Entry). bytes_put (a.out.now, a.to) (strings l)) (sym (is_module a.buf.now a.at a.kind (here (goal.at.returns-in-4 c).Else-kind) c.in-4.is))

pub returns-in-5 : goal.returns-in-5
returns-in-5 c =
    let a = c.args in
    c.text.ensures ∙ ap (bytes_put (a.out.now, a.to)) (sym (line_is (goal.at.returns-in-5 c).In-5))

pub returns-in_default : goal.returns-in_default
returns-in_default c =
    let a = c.args in
    let k = a.kind in
    let n4 : k ≡ 4 → ⊥ = omega arith in
    let n5 : k ≡ 5 → ⊥ = omega arith in
    bytes_put_none a.out.now a.to ∙ ap (bytes_put (a.out.now, a.to)) (sym (is_stringless a.buf.now a.at a.kind (here (goal.at.returns-in_default c).Else-kind) n4 n5))

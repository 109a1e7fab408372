-- `attributes::of_attribute` meets its contract, by the type.
use Prim.Native.Nat.{ℕ, ◌+◌, ◌-◌, ◌/◌}
use mathlib.Core.Path.{◌≡◌, sym, ap, subst, ◌∙◌}
use mathlib.Core.List.{List, [], ◌∷◌}
use native.Mathlib.Omega.{arith}
use Rattle.words.specs.Words.{u32_at}
use Rattle.byte_layout.specs.Stored.{text_at}
use Rattle.ultra_format.specs.Decoding.{entries_at}
use Rattle.handover_format.specs.Payloads.{Entry}
use Rattle.export_list.specs.ExportList.{range_entries, line_entry, pointer_entries}
use Rattle.export_list.specs.AttributeEntries.{becomes}
use Rattle.export_list.proofs.ByType.{is_other, is_platform, is_map, is_module, is_line, is_none, platform_fits, module_fits}
use Rattle.export_records.specs.Rows.{rows_put, RowsFit}
use Rattle.export_records.proofs.RowLaws.{rows_put_none}
use Rattle.export_records.proofs.attributes.of_attribute.Goals as goal
use Rattle.export_records.proofs.attributes.of_attribute.Goals.{After-rsdp, Else-kind, In-3, In-5}

-- the attribute is of the type that is asked for
here : (c : Else-kind) → let a = c.args in u32_at a.buf.now a.at ≡ a.kind
here c = sym c.kind.ensures ∙ c.if-kind.false

-- what it becomes is known by another name, of which the same is asked and said
asked : (c : Else-kind) (es : List Entry) → let a = c.args in becomes a.buf.now a.at a.kind ≡ es → RowsFit a.out.now a.m es
asked c es e = subst (λ (l : List Entry). RowsFit c.args.out.now c.args.m l) e c.requires.rows_fit

pointer_is : (c : After-rsdp) → let a = c.args in becomes a.buf.now a.at a.kind ≡ pointer_entries c.rsdp.result
pointer_is c =
    let here' : (let a = c.args in u32_at a.buf.now a.at ≡ a.kind) =
    sym c.kind.ensures ∙ c.if-kind.false in
    let a = c.args in
    is_platform a.buf.now a.at a.kind here' c.in-1.is ∙ ap pointer_entries (sym c.rsdp.ensures)

map_is : (c : In-3) → let a = c.args in
    becomes a.buf.now a.at a.kind ≡ range_entries (entries_at a.buf.now (a.at + 8) ((c.size-size.result - 8) / 24))
map_is c =
    let here' : (let a = c.args in u32_at a.buf.now a.at ≡ a.kind) =
    sym c.kind.ensures ∙ c.if-kind.false in
    let a = c.args in
    let b = a.buf.now in
    is_map b a.at a.kind here' c.in-3.is ∙ ap (λ (n : ℕ). range_entries (entries_at b (a.at + 8) ((n - 8) / 24))) (sym c.size-size.ensures)

line_is : (c : In-5) → let a = c.args in
    becomes a.buf.now a.at a.kind ≡ line_entry (text_at a.buf.now (a.at + 8) (c.size-size.result - 8)) ∷ []
line_is c =
    let here' : (let a = c.args in u32_at a.buf.now a.at ≡ a.kind) =
    sym c.kind.ensures ∙ c.if-kind.false in
    let a = c.args in
    let b = a.buf.now in
    is_line b a.at a.kind here' c.in-5.is ∙ ap (λ (n : ℕ). line_entry (text_at b (a.at + 8) (n - 8)) ∷ []) (sym c.size-size.ensures)

pub returns-then-kind : goal.returns-then-kind
returns-then-kind c =
    let a = c.args in
    rows_put_none a.out.now a.m ∙ ap (rows_put (a.out.now, a.m)) (sym (is_other a.buf.now a.at a.kind (λ e. c.if-kind.true (c.kind.ensures ∙ e))))

pub rsdp-requires : goal.rsdp-requires
rsdp-requires c =
    platform_fits c.args.buf.now c.args.at c.args.kind (here (goal.at.rsdp-requires c).Else-kind) c.requires.attribute_at c.in-1.is

pub pointer-requires : goal.pointer-requires
pointer-requires c = asked (goal.at.pointer-requires c).Else-kind _ (pointer_is (goal.at.pointer-requires c).After-rsdp)

pub all-requires : goal.all-requires
all-requires c =
    let w = c.requires.attribute_at in
    record { n_in_bounds = (omega (arith, w.within, w.least, c.size-size.ensures), omega (arith, w.small, c.size-size.ensures)); rows_fit = asked (goal.at.all-requires c).Else-kind _ (map_is (goal.at.all-requires c).In-3) }

pub file-requires : goal.file-requires
file-requires c =
    let b = c.args.buf.now in
    record { at_in_bounds = module_fits b c.args.at c.args.kind (here (goal.at.file-requires c).Else-kind) c.requires.attribute_at c.in-4.is; rows_fit = asked (goal.at.file-requires c).Else-kind _ (is_module b c.args.at c.args.kind (here (goal.at.file-requires c).Else-kind) c.in-4.is) }

pub line-requires : goal.line-requires
line-requires c =
    let w = c.requires.attribute_at in
    record { width_in_bounds = omega (arith, w.within, w.least, c.size-size.ensures); rows_fit = asked (goal.at.line-requires c).Else-kind _ (line_is (goal.at.line-requires c).In-5) }

pub returns-in-1 : goal.returns-in-1
returns-in-1 c =
    let a = c.args in
    c.pointer.ensures ∙ ap (rows_put (a.out.now, a.m)) (sym (pointer_is (goal.at.returns-in-1 c).After-rsdp))

pub returns-in-3 : goal.returns-in-3
returns-in-3 c =
    let a = c.args in
    c.all.ensures ∙ ap (rows_put (a.out.now, a.m)) (sym (map_is (goal.at.returns-in-3 c).In-3))

pub returns-in-4 : goal.returns-in-4
returns-in-4 c =
    let a = c.args in
    c.file.ensures ∙ ap (rows_put (a.out.now, a.m)) (sym (is_module a.buf.now a.at a.kind (here (goal.at.returns-in-4 c).Else-kind) c.in-4.is))

pub returns-in-5 : goal.returns-in-5
returns-in-5 c =
    let a = c.args in
    c.line.ensures ∙ ap (rows_put (a.out.now, a.m)) (sym (line_is (goal.at.returns-in-5 c).In-5))

pub returns-in_default : goal.returns-in_default
returns-in_default c =
    let a = c.args in
    let k = a.kind in
    let n1 : k ≡ 1 → ⊥ = omega arith in
    let n3 : k ≡ 3 → ⊥ = omega arith in
    let n4 : k ≡ 4 → ⊥ = omega arith in
    let n5 : k ≡ 5 → ⊥ = omega arith in
    rows_put_none a.out.now a.m ∙ ap (rows_put (a.out.now, a.m)) (sym (is_none a.buf.now a.at a.kind (here (goal.at.returns-in_default c).Else-kind) n1 n3 n4 n5))

-- `ranges::range` meets its contract.
use mathlib.Core.Path.{◌≡◌, sym, ap, subst, ◌∙◌}
use mathlib.Core.List.{[], ◌∷◌}
use Rattle.ultra_format.specs.Decoding.{entry_at}
use Rattle.handover_format.specs.Payloads.{Entry}
use Rattle.export_list.specs.ExportList.{bare, tag_of, range_entry}
use Rattle.export_list.proofs.BareLaws.{Nameless, range_nameless}
use Rattle.export_records.specs.Rows.{rows_put, RowsFit}
use Rattle.export_records.proofs.ranges.range.Goals as goal
use Rattle.export_records.proofs.ranges.range.Goals.{After-size-size}

-- what is loaded is the entry's
loaded : (c : After-size-size) → let a = c.args in
    bare c.tag_of-tag.result c.address-start.result c.size-size.result ≡ range_entry (entry_at a.buf.now a.at)
loaded c =
    let q = c.tag_of-tag.ensures ∙ ap tag_of c.kind.ensures in
    λ j. bare (q j) (c.address-start.ensures j) (c.size-size.ensures j)

pub bare-requires : goal.bare-requires
bare-requires c = record { tag_value = subst Nameless (sym c.tag_of-tag.ensures) (range_nameless c.kind.result); rows_fit = subst (λ (e : Entry). RowsFit c.args.out.now c.args.m (e ∷ [])) (sym (loaded (goal.at.bare-requires c).After-size-size)) c.requires.rows_fit }

pub returns : goal.returns
returns c =
    let a = c.args in
    c.bare.ensures ∙ ap (λ (e : Entry). rows_put (a.out.now, a.m) (e ∷ [])) (loaded (goal.at.returns c).After-size-size)

-- `ranges::all` meets its contract. The invariant: the ranges that are left, stored from here on, lead to what all of them lead to.
use Prim.Native.Nat.{ℕ, ◌+◌, ◌*◌}
use mathlib.Core.Path.{◌≡◌, refl, sym, ap, subst, ◌∙◌}
use mathlib.Core.List.{List, [], ◌∷◌, ◌++◌}
use native.Mathlib.Omega.{arith}
use Rattle.ultra_format.specs.Decoding.{entry_at}
use Rattle.handover_format.specs.Payloads.{Entry}
use Rattle.export_list.specs.ExportList.{range_entry}
use Rattle.export_records.specs.Rows.{rows_put, RowsFit}
use Rattle.export_records.proofs.EntryWords.{ranges_left, ranges_split, ranges_whole, ranges_none}
use Rattle.export_records.proofs.RowLaws.{rows_put_none, rows_front, rows_rest, rows_step}
use Rattle.export_records.proofs.ranges.all.Goals as goal
use Rattle.export_records.proofs.ranges.all.Goals.{In-loop-i}

-- the range that the loop has come to, and those that are left
abbrev this : In-loop-i → List Entry
this c = let a = c.args in range_entry (entry_at a.buf.now (a.first + 24 * c.loop-i.i)) ∷ []

abbrev rest : In-loop-i → ℕ → List Entry
rest c i = let a = c.args in ranges_left a.buf.now a.first a.n i

splits : (c : In-loop-i) → rest c c.loop-i.i ≡ this c ++ rest c (c.loop-i.i + 1)
splits c = let a = c.args in ranges_split a.buf.now a.first a.n c.loop-i.i c.loop-i-test.true

pub loop-i-init : goal.loop-i-init
loop-i-init c =
    let a = c.args in
    record { fit = subst (λ (es : List Entry). RowsFit a.out.now a.before es) (sym (ranges_whole a.buf.now a.first a.n)) c.requires.rows_fit; leads = refl }

pub range-m-requires-clause-rows_fit : goal.range-m-requires-clause-rows_fit
range-m-requires-clause-rows_fit c =
    let w = (goal.at.range-m-requires-clause-rows_fit c).In-loop-i in
    rows_front c.loop-i.out c.loop-i.m (this w) (rest w (c.loop-i.i + 1)) (rest w c.loop-i.i) (splits w) c.loop-i.invariant.fit

pub loop-i-preserved : goal.loop-i-preserved
loop-i-preserved c =
    let w = (goal.at.loop-i-preserved c).In-loop-i in
    let v = c.loop-i.invariant in
    let e = c.range-m.ensures in
    let n = c.range-m.auto.out in
    let y = rest w (c.loop-i.i + 1) in
    let z = rest w c.loop-i.i in
    record {
      fit = rows_rest c.loop-i.out c.loop-i.m (this w) y z (splits w) v.fit _ _ e n;
      leads = rows_step c.loop-i.out c.loop-i.m (this w) y z (splits w) v.fit _ _ e n ∙ v.leads;
    }

pub returns : goal.returns
returns c =
    let a = c.args in
    let b = a.buf.now in
    rows_put_none c.loop-i.out c.loop-i.m ∙ ap (rows_put (c.loop-i.out, c.loop-i.m)) (sym (ranges_none b a.first a.n c.loop-i.i (omega arith))) ∙ c.loop-i.invariant.leads
    ∙ ap (rows_put (a.out.now, a.before)) (ranges_whole b a.first a.n)

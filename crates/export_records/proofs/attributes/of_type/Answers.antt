-- `attributes::of_type` meets its contract. The invariant: `at` is where the attribute to come starts, and the records that are left, stored
-- from here on, lead to what all of them lead to.
use Rattle.std.proofs.Common.{ℕ, ◌+◌, List, refl, sym, ap, subst, ◌∙◌, arith}
use Rattle.ultra_format.specs.Decoding.{start}
use Rattle.ultra_locating.proofs.Located.{head_inside}
use Rattle.handover_format.specs.Payloads.{Entry}
use Rattle.export_list.specs.AttributeEntries.{becomes}
use Rattle.export_list.proofs.Gathering.{left, Here, here_is, all_left, none_left}
use Rattle.export_records.specs.Rows.{rows_put, RowsFit}
use Rattle.export_records.proofs.RowLaws.{rows_put_none, rows_front, rows_rest, rows_step}
use Rattle.export_records.proofs.attributes.of_type.Goals as goal
use Rattle.export_records.proofs.attributes.of_type.Goals.{In-loop}

-- the attribute that the loop has come to
here : (c : In-loop) → Here c.args.buf.now c.args.kind c.count-count.result c.loop.counter c.loop.at
here c =
    here_is c.args.buf.now c.args.kind _ _ _ c.requires.accepts c.count-count.ensures c.loop-test.true c.loop.invariant.here

-- its records, and those that are left
abbrev these : In-loop → List Entry
these c = let a = c.args in becomes a.buf.now c.loop.at a.kind

abbrev rest : In-loop → ℕ → List Entry
rest c i = let a = c.args in left a.buf.now a.kind c.count-count.result i

pub count-count-requires : goal.count-count-requires
count-count-requires c = omega (arith, head_inside c.args.buf.now c.requires.accepts)

pub loop-init : goal.loop-init
unfolding start
loop-init c =
    let a = c.args in
    let all = all_left a.buf.now a.kind c.count-count.result c.count-count.ensures in
    record { here = refl; fit = subst (λ (es : List Entry). RowsFit a.out.now a.before es) (sym all) c.requires.rows_fit; leads = refl }

pub of_attribute-m-requires : goal.of_attribute-m-requires
of_attribute-m-requires c =
    let w = (goal.at.of_attribute-m-requires c).In-loop in
    let h = here w in
    record { attribute_at = h.attribute; rows_fit = rows_front c.loop.out c.loop.m (these w) (rest w (c.loop.counter + 1)) (rest w c.loop.counter) h.splits c.loop.invariant.fit }

pub size-requires : goal.size-requires
size-requires c = let h = (here (goal.at.size-requires c).In-loop).attribute in omega (arith, h.within, h.least)

pub overflow_add-at : goal.overflow_add-at
overflow_add-at c = omega (arith, (here (goal.at.overflow_add-at c).In-loop).attribute.small, c.size.ensures)

pub loop-preserved : goal.loop-preserved
loop-preserved c =
    let w = (goal.at.loop-preserved c).In-loop in
    let v = c.loop.invariant in
    let h = here w in
    let e = c.of_attribute-m.ensures in
    let n = c.of_attribute-m.auto.out in
    let y = rest w (c.loop.counter + 1) in
    let z = rest w c.loop.counter in
    record {
      here = omega (arith, c.size.ensures, h.next);
      fit = rows_rest c.loop.out c.loop.m (these w) y z h.splits v.fit _ _ e n;
      leads = rows_step c.loop.out c.loop.m (these w) y z h.splits v.fit _ _ e n ∙ v.leads;
    }

pub returns : goal.returns
returns c =
    let a = c.args in
    let b = a.buf.now in
    let n = c.count-count.result in
    rows_put_none c.loop.out c.loop.m ∙ ap (rows_put (c.loop.out, c.loop.m)) (sym (none_left b a.kind n c.loop.counter (omega arith))) ∙ c.loop.invariant.leads
    ∙ ap (rows_put (a.out.now, a.before)) (all_left b a.kind n c.count-count.ensures)

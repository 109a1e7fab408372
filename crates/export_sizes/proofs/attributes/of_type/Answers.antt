-- `attributes::of_type` meets its contract. The invariant: `at` is where the attribute to come starts, and what is left to gather, added from
-- here on, leads to what all of it leads to.
use Rattle.std.proofs.Common.{◌+◌, ◌≤◌, refl, sym, ap, ◌∙◌, arith}
use Rattle.ultra_format.specs.Decoding.{start}
use Rattle.ultra_locating.proofs.Located.{head_inside}
use Rattle.export_list.specs.AttributeEntries.{becomes}
use Rattle.export_list.proofs.Gathering.{left, Here, here_is, all_left, none_left}
use Rattle.export_sizes.specs.Extents.{grown}
use Rattle.export_sizes.specs.declared.Extent.{Extent}
use Rattle.export_sizes.proofs.ExtentLaws.{grown_none, grown_then}
use Rattle.export_sizes.proofs.attributes.of_type.Goals as goal
use Rattle.export_sizes.proofs.attributes.of_type.Goals.{At-loop, In-loop}

few : (c : At-loop) → c.count-count.result ≤ 1024
few c = omega (arith, c.count-count.ensures, (head_inside c.args.buf.now c.requires.accepts).most)

-- the attribute that the loop has come to
here : (c : In-loop) → Here c.args.buf.now c.args.kind c.count-count.result c.loop.counter c.loop.at
here c =
    here_is c.args.buf.now c.args.kind _ _ _ c.requires.accepts c.count-count.ensures c.loop-test.true c.loop.invariant.here

pub count-count-requires : goal.count-count-requires
count-count-requires c = omega (arith, head_inside c.args.buf.now c.requires.accepts)

pub loop-init : goal.loop-init
unfolding start
loop-init c = record { here = refl; leads = refl; few = omega arith; narrow = omega arith }

pub of_attribute-m-requires : goal.of_attribute-m-requires
of_attribute-m-requires c =
    let p = c.requires.count_bound in
    let v = c.loop.invariant in
    let n = few (goal.at.of_attribute-m-requires c).At-loop in
    record { attribute_at = (here (goal.at.of_attribute-m-requires c).In-loop).attribute; count_bound = (omega (arith, p.0, v.few, n, c.loop-test.true), omega (arith, p.1, v.narrow, n, c.loop-test.true)) }

pub size-requires : goal.size-requires
size-requires c = let h = (here (goal.at.size-requires c).In-loop).attribute in omega (arith, h.within, h.least)

pub overflow_add-at : goal.overflow_add-at
overflow_add-at c = omega (arith, (here (goal.at.overflow_add-at c).In-loop).attribute.small, c.size.ensures)

pub loop-preserved : goal.loop-preserved
loop-preserved c =
    let a = c.args in
    let h = here (goal.at.loop-preserved c).In-loop in
    let e = c.of_attribute-m.ensures in
    let v = c.loop.invariant in
    let x = becomes a.buf.now c.loop.at a.kind in
    let rest = left a.buf.now a.kind c.count-count.result (c.loop.counter + 1) in
    record {
      here = omega (arith, c.size.ensures, h.next);
      leads = ap (λ (m : Extent). grown m rest) e.0 ∙ grown_then c.loop.m x rest ∙ ap (grown c.loop.m) (sym h.splits) ∙ v.leads;
      few = omega (arith, e.1, v.few);
      narrow = omega (arith, e.2, v.narrow);
    }

pub returns : goal.returns
returns c =
    let a = c.args in
    let b = a.buf.now in
    let n = c.count-count.result in
    let v = c.loop.invariant in
    let k = few (goal.at.returns c).At-loop in (
      grown_none c.loop.m ∙ ap (grown c.loop.m) (sym (none_left b a.kind n c.loop.counter (omega arith))) ∙ v.leads
          ∙ ap (grown a.first) (all_left b a.kind n c.count-count.ensures),
      omega (arith, v.few, k),
      omega (arith, v.narrow, k),
    )

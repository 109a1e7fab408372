-- `attributes::all` meets its contract. The invariant: `at` is where the attribute to come starts, and the attributes that are left, put from
-- here on, lead to what all of them lead to.
use Rattle.std.proofs.Common.{ℕ, List, refl, sym, ap, ◌∙◌, arith}
use native.Mathlib.Nat.{sub-zero}
use Rattle.key_value_text.specs.Lines.{Line}
use Rattle.key_value_text.specs.LineOutput.{put_lines}
use Rattle.ultra_format.specs.Decoding.{start, attributes_from}
use Rattle.ultra_locating.proofs.Located.{Loaded, head_inside, loaded}
use Rattle.listing_format.proofs.LineLaws.{lines_at, attribute_next, attribute_end}
use Rattle.listing_format.specs.Listing.{attributes_lines}
use Rattle.ultra_listing.proofs.attributes.all.Goals as goal
use Rattle.ultra_listing.proofs.attributes.all.Goals.{In-loop}

-- what is loaded where the loop has come to
here : (c : In-loop) → Loaded c.args.buf.now c.loop.counter c.loop.at
here c =
    loaded c.args.buf.now c.requires c.loop.counter _ (omega (arith, c.count-count.ensures)) c.loop.invariant.here

pub count-count-requires : goal.count-count-requires
count-count-requires c = omega (arith, head_inside c.args.buf.now c.requires)

pub loop-init : goal.loop-init
unfolding start
loop-init c = record { here = refl; leads = rw sub-zero refl }

pub kind-kind-requires : goal.kind-kind-requires
kind-kind-requires c = omega (arith, (here (goal.at.kind-kind-requires c).In-loop).reached)

pub size-size-requires : goal.size-size-requires
size-size-requires c = omega (arith, (here (goal.at.size-size-requires c).In-loop).reached)

pub attribute-end-requires : goal.attribute-end-requires
attribute-end-requires c =
    let h = here (goal.at.attribute-end-requires c).In-loop in
    record { size_in_bounds = (omega (arith, h.reached, c.size-size.ensures), omega (arith, h.reached, c.size-size.ensures)); kind_value = rw (c.size-size.ensures, c.kind-kind.ensures) h.suits }

pub overflow_add-at : goal.overflow_add-at
overflow_add-at c = omega (arith, (here (goal.at.overflow_add-at c).In-loop).reached, c.size-size.ensures)

pub loop-preserved : goal.loop-preserved
loop-preserved c =
    let b = c.args.buf.now in
    let h = (here (goal.at.loop-preserved c).In-loop).reached in
    let e = lines_at b c.loop.counter c.loop.at c.size-size.result c.kind-kind.result c.loop.invariant.here (c.size-size.ensures ∙ h.size_is) (c.kind-kind.ensures ∙ h.type_is) in
    record {
      here = omega (arith, c.size-size.ensures, h.next);
      leads = attribute_next b c.count-count.result c.loop.counter _ _ c.loop-test.true (c.attribute-end.ensures ∙ ap (λ (ls : List Line). put_lines (c.loop.out, c.loop.end) ls) e)
          ∙ c.loop.invariant.leads;
    }

pub returns : goal.returns
returns c =
    let a = c.args in
    sym (attribute_end a.buf.now c.count-count.result c.loop.counter _ (omega arith))
    ∙ c.loop.invariant.leads
    ∙ ap (λ (n : ℕ). put_lines (a.out.now, a.to) (attributes_lines (attributes_from a.buf.now 0 n))) c.count-count.ensures

-- `attributes::of_type` meets its contract. The invariant: `at` is where the attribute to come starts, and the strings that are left, stored
-- from here on, lead to what all of them lead to.
use Rattle.std.proofs.Common.{ℕ, ◌+◌, List, ◌++◌, length, ◌≡◌, refl, sym, ap, ◌∙◌, arith}
use Rattle.ultra_format.specs.Decoding.{start}
use Rattle.ultra_locating.proofs.Located.{head_inside}
use Rattle.handover_format.specs.Payloads.{Entry}
use Rattle.handover_format.specs.WrittenForm.{strings}
use Rattle.handover_format.proofs.WrittenLaws.{strings_none, strings_append}
use Rattle.export_list.specs.AttributeEntries.{becomes}
use Rattle.export_list.proofs.Gathering.{left, Here, here_is, all_left, none_left}
use Rattle.export_strings.specs.StringPuts.{bytes_put}
use Rattle.export_strings.proofs.PutLaws.{bytes_put_none, bytes_front, bytes_rest, bytes_step}
use Rattle.export_strings.proofs.attributes.of_type.Goals as goal
use Rattle.export_strings.proofs.attributes.of_type.Goals.{In-loop}

-- the attribute that the loop has come to
here : (c : In-loop) → Here c.args.buf.now c.args.kind c.count-count.result c.loop.counter c.loop.at
here c =
    here_is c.args.buf.now c.args.kind _ _ _ c.requires.accepts c.count-count.ensures c.loop-test.true c.loop.invariant.here

-- its strings, and those that are left after them
abbrev these : In-loop → List ℕ
these c = let a = c.args in strings (becomes a.buf.now c.loop.at a.kind)

abbrev rest : In-loop → ℕ → List ℕ
rest c i = let a = c.args in strings (left a.buf.now a.kind c.count-count.result i)

splits : (c : In-loop) → rest c c.loop.counter ≡ these c ++ rest c (c.loop.counter + 1)
splits c =
    let a = c.args in
    ap strings (here c).splits ∙ strings_append (becomes a.buf.now c.loop.at a.kind) (left a.buf.now a.kind c.count-count.result (c.loop.counter + 1))

pub count-count-requires : goal.count-count-requires
count-count-requires c = omega (arith, head_inside c.args.buf.now c.requires.accepts)

pub loop-init : goal.loop-init
unfolding start
loop-init c =
    let a = c.args in
    let all = ap (λ (l : List Entry). length (strings l)) (all_left a.buf.now a.kind c.count-count.result c.count-count.ensures) in
    record { here = refl; room = omega (arith, c.requires.buf_in_bounds, all); leads = refl }

pub of_attribute-to-requires : goal.of_attribute-to-requires
of_attribute-to-requires c =
    let w = (goal.at.of_attribute-to-requires c).In-loop in
    record { attribute_at = (here w).attribute; kind_in_bounds = bytes_front c.loop.out c.loop.to (these w) (rest w (c.loop.counter + 1)) (rest w c.loop.counter) (splits w) c.loop.invariant.room }

pub size-requires : goal.size-requires
size-requires c = let h = (here (goal.at.size-requires c).In-loop).attribute in omega (arith, h.within, h.least)

pub overflow_add-at : goal.overflow_add-at
overflow_add-at c = omega (arith, (here (goal.at.overflow_add-at c).In-loop).attribute.small, c.size.ensures)

pub loop-preserved : goal.loop-preserved
loop-preserved c =
    let w = (goal.at.loop-preserved c).In-loop in
    let v = c.loop.invariant in
    let e = c.of_attribute-to.ensures in
    let n = c.of_attribute-to.auto.out in
    let y = rest w (c.loop.counter + 1) in
    let z = rest w c.loop.counter in
    record {
      here = omega (arith, c.size.ensures, (here w).next);
      room = bytes_rest c.loop.out c.loop.to (these w) y z (splits w) v.room _ _ e n;
      leads = bytes_step c.loop.out c.loop.to (these w) y z (splits w) v.room _ _ e n ∙ v.leads;
    }

pub returns : goal.returns
returns c =
    let a = c.args in
    let b = a.buf.now in
    let n = c.count-count.result in
    let none = ap strings (none_left b a.kind n c.loop.counter (omega arith)) ∙ strings_none in
    bytes_put_none c.loop.out c.loop.to ∙ ap (bytes_put (c.loop.out, c.loop.to)) (sym none) ∙ c.loop.invariant.leads
    ∙ ap (λ (es : List Entry). bytes_put (a.out.now, a.first) (strings es)) (all_left b a.kind n c.count-count.ensures)

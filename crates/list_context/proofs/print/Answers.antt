-- `print` is safe: a listing that was made lies within the output.
use Rattle.std.proofs.Common.{◌∙◌, ap, arith, sym}
use Rattle.std.proofs.lemmas.List.{length-take-le}
use Rattle.refusals.specs.Answers.{Answer}
use Rattle.ultra_listing.proofs.Written.{listed_within}
use Rattle.list_context.proofs.print.Goals as goal

-- src/main.rt:18:18
pub slice_bounds-write_all-end : goal.slice_bounds-write_all-end
slice_bounds-write_all-end g c =
    let l = c.list-answer in
    let listed = ap (λ (r : Answer). (r, l.new.out)) (sym c.in-Ok.is) ∙ l.ensures in
    omega (arith, listed_within c.args.input.now c.args.text.now c.in-Ok.length l.new.out listed, l.auto.out)

-- src/main.rt:18:18
pub slice_bounds-write_all-end-2 : goal.slice_bounds-write_all-end-2
slice_bounds-write_all-end-2 g c = sym (length-take-le _ _ (slice_bounds-write_all-end g c))

-- `export` is safe: a payload that was made lies within the output.
use Rattle.std.proofs.Common.{◌∙◌, ap, arith, sym}
use Rattle.std.proofs.lemmas.List.{length-take-le}
use Rattle.handover_export.proofs.ExportLaws.{exported_within}
use Rattle.export_context.proofs.export.Goals as goal

pub slice_bounds-write_all-end : goal.slice_bounds-write_all-end
slice_bounds-write_all-end g c =
    let e = c.export-answer in
    omega (arith, exported_within c.args.input.now c.args.load c.args.out.now c.in-Ok.size (sym (ap (λ p. p.0) e.ensures) ∙ c.in-Ok.is), e.auto.out)

pub slice_bounds-write_all-end-in-Ok : goal.slice_bounds-write_all-end-in-Ok
slice_bounds-write_all-end-in-Ok g c = sym (length-take-le _ _ (slice_bounds-write_all-end g c))

-- `handover_writing::fill::string_at` meets its contract: a string that is named lies within the run, and there is room for it.
use Rattle.std.proofs.Common.{◌≡◌, true, arith, rules}
use Rattle.handover_arguments.specs.PayloadGiven.{start_given, length_given}
use Rattle.handover_arguments.proofs.JudgeLaws.{named_said}
use Rattle.handover_writing.proofs.FillLaws.{length_named}
use Rattle.handover_writing.proofs.fill.string_at.Goals as goal

pub string-requires : goal.string-requires
string-requires c =
    let a = c.args in
    let t : a.named ≡ true = search rules in
    let w = length_named a.named a.run.now (start_given a.parts.now a.k) (length_given a.parts.now a.k) t in
    (omega (arith, named_said _ _ _ a.named t c.requires.k_value.0, c.start_at-start.ensures, c.length_at-size.ensures), omega (arith, w, c.requires.k_in_bounds, c.length_at-size.ensures))

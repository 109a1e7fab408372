-- `ultra_map::one_pass::check` meets its contract: what the three tests say is the number of the map.
use mathlib.Core.Path.{ap, ◌∙◌}
use native.Mathlib.Omega.{arith}
use Rattle.ultra_format.specs.Additions.{entries_given}
use Rattle.refusals.specs.Answers.{checked}
use Rattle.ultra_map.proofs.OnePass.{in_one_pass, no_entries}
use Rattle.ultra_map.proofs.Triples.{no_entry_law, is_none, is_pairless, addresses}
use Rattle.ultra_map.proofs.one_pass.check.Goals as goal

pub returns-then-end-eq0 : goal.returns-then-end-eq0
returns-then-end-eq0 g c = ap checked (no_entries (no_entry_law (g.N.Numbers.numbers c.args.map) 0 (omega arith)))

pub returns : goal.returns
returns g c =
    let ns = g.N.Numbers.numbers c.args.map in
    c.first_broken.ensures
    ∙ ap checked
    (in_one_pass (entries_given ns) c.first_unsettled-unsettled.ensures.1 c.first_unfit-unfit.ensures.1 (addresses ns c.requires.bounded) c.all_typed-typed.ensures
    (is_none ns _ _ c.count-end.ensures c.first_unfit-unfit.ensures.0) (is_pairless ns _ _ (omega arith) c.first_unsettled-unsettled.ensures.0))

-- `ultra_members::module::check` meets its contract: each test answers for its rule.
use mathlib.Core.Path.{refl, ◌∙◌, ap}
use native.Mathlib.Omega.{arith}
use borrow.Author.Tests.{le-leb, lt-leb}
use Rattle.address_ranges.specs.Ranges.{range_fits}
use Rattle.ultra_format.specs.Members.{module_values, size_suits, values, texts, ranges, ordered}
use Rattle.ultra_rules.proofs.Judged.{misfits, judged}
use Rattle.refusals.specs.Answers.{checked}
use Rattle.ultra_members.proofs.module.check.Goals as goal

pub returns-then-size-lt-LEAST_SIZE : goal.returns-then-size-lt-LEAST_SIZE
unfolding size_suits
returns-then-size-lt-LEAST_SIZE c = ap checked (misfits _ _ (lt-leb 96 c.args.size (omega arith)))

pub returns : goal.returns
unfolding size_suits values texts ranges ordered
returns c =
    let s = c.args.size in
    let address = c.address-address.ensures in
    c.check.ensures ∙ ap checked (judged _ _ (le-leb 96 s (omega arith)) (λ i. module_values (c.kind-kind.ensures i) (address i)) c.ascii-text.ensures
    (λ i. range_fits (address i) (c.size-length.ensures i)) refl)

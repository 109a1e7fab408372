-- `ultra_members::platform::check` meets its contract: each test answers for its rule.
use mathlib.Core.Path.{refl, ap, ◌∙◌}
use native.Mathlib.Omega.{arith}
use borrow.Author.Tests.{le-leb, lt-leb}
use Rattle.ultra_format.specs.Members.{nonzero, values, texts, ranges, ordered}
use Rattle.ultra_rules.proofs.Judged.{misfits, judged}
use Rattle.ultra_members.proofs.Bodies.{platform_suits}
use Rattle.refusals.specs.Answers.{checked}
use Rattle.ultra_members.proofs.platform.check.Goals as goal

pub returns-then-size-lt-LEAST_SIZE : goal.returns-then-size-lt-LEAST_SIZE
returns-then-size-lt-LEAST_SIZE c = ap checked (misfits _ _ (platform_suits _ _ _ ∙ lt-leb 56 c.args.size (omega arith)))

pub returns : goal.returns
unfolding values texts ranges ordered
returns c =
    let s = c.args.size in
    c.first_broken.ensures ∙ ap checked (judged _ _ (platform_suits _ _ _ ∙ le-leb 56 s (omega arith)) (ap nonzero c.kind-value.ensures) c.ascii-text.ensures refl refl)

-- `ultra_members::command_line::check` meets its contract: each test answers for its rule.
use mathlib.Core.Path.{refl, ◌∙◌, ap}
use native.Mathlib.Omega.{arith}
use borrow.Author.Tests.{le-leb, lt-leb}
use Rattle.ultra_format.specs.Members.{size_suits, values, texts, ranges, ordered}
use Rattle.ultra_rules.proofs.Judged.{misfits, judged}
use Rattle.refusals.specs.Answers.{checked}
use Rattle.ultra_members.proofs.command_line.check.Goals as goal

pub returns-then-size-lt-LEAST_SIZE : goal.returns-then-size-lt-LEAST_SIZE
unfolding size_suits
returns-then-size-lt-LEAST_SIZE c = ap checked (misfits _ _ (lt-leb 16 c.args.size (omega arith)))

pub returns : goal.returns
unfolding size_suits values texts ranges ordered
returns c =
    let s = c.args.size in
    c.first_broken.ensures ∙ ap checked (judged _ _ (le-leb 16 s (omega arith)) refl c.ascii-text.ensures refl refl)

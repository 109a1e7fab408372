-- `ultra_members::kernel::check` meets its contract: each test answers for its rule.
use mathlib.Core.Path.{refl, ◌∙◌, ap}
use mathlib.Core.Bool.{◌&&◌}
use native.Mathlib.Omega.{arith}
use borrow.Author.Tests.{le-leb, lt-leb}
use Rattle.address_ranges.specs.Ranges.{range_fits}
use Rattle.ultra_format.specs.Members.{kernel_values, size_suits, values, texts, ranges, ordered}
use Rattle.ultra_rules.proofs.Judged.{misfits, judged}
use Rattle.refusals.specs.Answers.{checked}
use Rattle.ultra_members.proofs.kernel.check.Goals as goal

pub returns-then-size-lt-LEAST_SIZE : goal.returns-then-size-lt-LEAST_SIZE
unfolding size_suits
returns-then-size-lt-LEAST_SIZE c = ap checked (misfits _ _ (lt-leb 336 c.args.size (omega arith)))

pub returns : goal.returns
unfolding size_suits values texts ranges ordered
returns c =
    let s = c.args.size in
    let phys = c.physical_base-phys.ensures in
    let virt = c.virtual_base-virt.ensures in
    let size = c.size-length.ensures in
    c.check.ensures ∙ ap checked (judged _ _ (le-leb 336 s (omega arith)) (λ i. kernel_values (phys i) (virt i) (size i) (c.partition_type-partition.ensures i)) c.path-text.ensures
    (λ i. range_fits (phys i) (size i) && range_fits (virt i) (size i)) refl)

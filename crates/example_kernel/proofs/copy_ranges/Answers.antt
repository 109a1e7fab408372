-- `copy_ranges` meets its contract: the value of `copy_map`'s answer, or 0.
use Rattle.std.proofs.Common.{◌∙◌, ap, sym}
use Rattle.example_kernel.specs.Kernel.{value_or_none}
use Rattle.example_kernel.proofs.copy_ranges.Goals as goal

pub returns-in-Ok : goal.returns-in-Ok
returns-in-Ok c = ap value_or_none (sym c.in-Ok.is ∙ ap (λ p. p.0) c.copy_map.ensures)

pub returns-in-Err : goal.returns-in-Err
returns-in-Err c = ap value_or_none (sym c.in-Err.is ∙ ap (λ p. p.0) c.copy_map.ensures)

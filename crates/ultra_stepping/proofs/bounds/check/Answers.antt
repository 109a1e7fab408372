-- `ultra_stepping::bounds::check` meets its contract: one law a return.
use native.Mathlib.Omega.{arith}
use Rattle.ultra_stepping.proofs.BoundsLaws.{stop_header, stop_least, stop_eights, stop_overrun, stop_type, bounds_pass}
use mathlib.Core.Path.{ap}
use Rattle.refusals.specs.Answers.{checked}
use Rattle.ultra_stepping.proofs.bounds.check.Goals as goal

pub returns-then-room-at : goal.returns-then-room-at
returns-then-room-at c = ap checked (stop_header _ _ _ (omega arith))

pub returns-then-size-lt8 : goal.returns-then-size-lt8
returns-then-size-lt8 c = ap checked (stop_least _ _ _ (omega arith) (omega arith))

pub returns-then-size-ne0 : goal.returns-then-size-ne0
returns-then-size-ne0 c = ap checked (stop_eights _ _ _ (omega arith) (omega arith) (λ e. omega arith))

pub returns-then-room-at-2 : goal.returns-then-room-at-2
returns-then-room-at-2 c = ap checked (stop_overrun _ _ _ (omega arith) (omega arith) (omega arith) (omega arith))

pub returns-then-load_u32-eq0 : goal.returns-then-load_u32-eq0
returns-then-load_u32-eq0 c = ap checked (stop_type _ _ _ (omega arith) (omega arith) (omega arith) (omega arith) (omega arith))

pub returns : goal.returns
returns c = ap checked (bounds_pass _ _ _ (omega arith) (omega arith) (omega arith) (omega arith) (omega arith))

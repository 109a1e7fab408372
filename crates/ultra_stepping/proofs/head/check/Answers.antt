-- `ultra_stepping::head::check` meets its contract: one law a return.
use native.Mathlib.Omega.{arith}
use Rattle.ultra_stepping.proofs.HeadLaws.{stop_short, stop_version, stop_count, stop_missing, head_passes}
use mathlib.Core.Path.{ap}
use Rattle.refusals.specs.Answers.{checked}
use Rattle.ultra_stepping.proofs.head.check.Goals as goal

pub returns-then-room-lt8 : goal.returns-then-room-lt8
returns-then-room-lt8 c = ap checked (stop_short _ _ (omega arith))

pub returns-then-buf-eq0 : goal.returns-then-buf-eq0
returns-then-buf-eq0 c = ap checked (stop_version _ _ (omega arith) (omega arith))

pub returns-then-count-gt1024 : goal.returns-then-count-gt1024
returns-then-count-gt1024 c = ap checked (stop_count _ _ (omega arith) (omega arith) (omega arith))

pub returns-then-count-fewest : goal.returns-then-count-fewest
returns-then-count-fewest c = ap checked (stop_missing _ _ (omega arith) (omega arith) (omega arith) (omega arith))

pub returns : goal.returns
returns c = ap checked (head_passes _ _ (omega arith) (omega arith) (omega arith) (omega arith))

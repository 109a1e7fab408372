-- `handover_reading::head::check` meets its contract: one law a return.
use native.Mathlib.Omega.{arith}
use Rattle.handover_reading.proofs.HeadLaws.{stop_short, stop_magic, stop_none, stop_many, stop_least, stop_within, head_passes}
use mathlib.Core.Path.{ap}
use Rattle.refusals.specs.Answers.{checked}
use Rattle.handover_reading.proofs.head.check.Goals as goal

pub returns-then-room-lt16 : goal.returns-then-room-lt16
returns-then-room-lt16 c = ap checked (stop_short _ (omega arith))

pub returns-then-load_u32-ne-MAGIC : goal.returns-then-load_u32-ne-MAGIC
returns-then-load_u32-ne-MAGIC c = ap checked (stop_magic _ (omega arith) (λ e. omega arith))

pub returns-then-count-eq0 : goal.returns-then-count-eq0
returns-then-count-eq0 c = ap checked (stop_none _ (omega arith) (omega arith) (omega arith))

pub returns-then-count-gt1024 : goal.returns-then-count-gt1024
returns-then-count-gt1024 c = ap checked (stop_many _ (omega arith) (omega arith) (omega arith) (omega arith))

pub returns-then-size-count : goal.returns-then-size-count
returns-then-size-count c = ap checked (stop_least _ (omega arith) (omega arith) (omega arith) (omega arith) (omega arith))

pub returns-then-room-size : goal.returns-then-room-size
returns-then-room-size c = ap checked (stop_within _ (omega arith) (omega arith) (omega arith) (omega arith) (omega arith) (omega arith))

pub returns : goal.returns
returns c = ap checked (head_passes _ (omega arith) (omega arith) (omega arith) (omega arith) (omega arith) (omega arith))

-- `ultra_appending::raise_count` meets its contract.
use mathlib.Core.Path.{sym, ◌∙◌}
use native.Mathlib.Omega.{arith}
use Rattle.ultra_appending.proofs.Appending.{Read, was_read, appended_at, raise_refused, raise_done}
use Rattle.ultra_appending.proofs.raise_count.Goals as goal
use Rattle.ultra_appending.proofs.raise_count.Goals.{In-Ok}

-- the offset was found in a buffer that was read
read : (c : In-Ok) → Read c.args.buf.now c.in-Ok.field-0
read c = was_read _ _ (appended_at _ _ _ _ _ (sym c.offset-answer.ensures ∙ c.in-Ok.is)).0

pub returns-in_default : goal.returns-in_default
returns-in_default c = raise_refused _ _ _ _ _ _ c.in_default.is c.offset-answer.ensures

pub load_u32-count-requires : goal.load_u32-count-requires
load_u32-count-requires c = omega (arith, read (goal.at.load_u32-count-requires c).In-Ok)

pub overflow_add-count : goal.overflow_add-count
overflow_add-count c = omega (arith, read (goal.at.overflow_add-count c).In-Ok, c.load_u32-count.ensures)

pub store_u32-requires : goal.store_u32-requires
store_u32-requires c = omega (arith, read (goal.at.store_u32-requires c).In-Ok)

pub returns : goal.returns
returns c =
    raise_done _ _ _ _ _ _ _ _ c.in-Ok.is c.offset-answer.ensures c.load_u32-count.ensures c.store_u32.ensures

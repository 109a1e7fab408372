-- `add_next` counts the module where the single add is not refused.
use Rattle.ultra_modules.proofs.Turns.{next_added_law}
use Rattle.ultra_modules.proofs.add_next.Goals as goal

pub returns-in-Ok : goal.returns-in-Ok
returns-in-Ok c = next_added_law _ _ c.args.so_far _ _ _ c.in-Ok.is c.add_module-answer.ensures

pub returns-in-Err : goal.returns-in-Err
returns-in-Err c = next_added_law _ _ c.args.so_far _ _ _ c.in-Err.is c.add_module-answer.ensures

use Rattle.ultra_modules.proofs.Turns.{goes_on_done}
use Rattle.ultra_modules.proofs.goes_on.Goals as goal

pub returns-in-Ok : goal.returns-in-Ok
returns-in-Ok c = let args = c.args in goes_on_done args.so_far args.count _ c.in-Ok.is

-- `handover_writing::store::string` meets its contract.
use mathlib.Core.Path.{refl}
use Rattle.handover_writing.proofs.StoreLaws.{string_stored}
use Rattle.handover_writing.proofs.store.string.Goals as goal

pub returns : goal.returns
returns c =
    let a = c.args in
    string_stored a.out.now a.run.now _ _ a.at a.start a.size c.requires.0 c.requires.1 refl c.store.ensures

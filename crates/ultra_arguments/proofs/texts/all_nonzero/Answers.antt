-- `ultra_arguments::texts::all_nonzero` meets its contract: `every` is what `all` tells.
use Rattle.std.proofs.Common.{rules, tests}
use Rattle.std.proofs.lemmas.Iterator.{YieldsList-from_slice}
use Rattle.std.proofs.lemmas.Iterator.Search.{all_from_yields_List}
use Rattle.ultra_format.specs.Members.{nonzero}
use Rattle.ultra_rules.proofs.Every.{every_all}
use Rattle.ultra_arguments.proofs.texts.all_nonzero.Goals as goal

pub returns : goal.returns
returns c =
    rw (every_all nonzero c.args.bytes.now)
    (all_from_yields_List nonzero _ _ _ c.all.ensures.ran (YieldsList-from_slice c.args.bytes.now cc) (λ x b q h. search (rules, tests)))

-- `ultra_arguments::texts::all_ascii` meets its contract: `every` is what `all` tells.
use Rattle.std.proofs.Common.{rules, tests}
use Rattle.std.proofs.lemmas.Iterator.{YieldsList-from_slice}
use Rattle.std.proofs.lemmas.Iterator.Search.{all_from_yields_List}
use Rattle.ultra_format.specs.Members.{ascii}
use Rattle.ultra_rules.proofs.Every.{every_all}
use Rattle.ultra_arguments.proofs.texts.all_ascii.Goals as goal

pub returns : goal.returns
returns c =
    rw (every_all ascii c.args.bytes.now)
    (all_from_yields_List ascii _ _ _ c.all.ensures.ran (YieldsList-from_slice c.args.bytes.now cc) (λ x b q h. search (rules, tests)))

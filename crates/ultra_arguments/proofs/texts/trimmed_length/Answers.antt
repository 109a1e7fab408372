-- `ultra_arguments::texts::trimmed_length` meets its contract: from the end, the trailing zeros come first.
use mathlib.Core.Path.{◌≡◌}
use native.Mathlib.Omega.{arith}
use lib.ListN.{length}
use lib.Dec.{eqb}
use Rattle.std.specs.List.{take_while}
use Rattle.std.proofs.Common.{rules, tests, reverse}
use Rattle.std.proofs.lemmas.Iterator.Adapters.{YieldsList-from_rev_slice}
use Rattle.std.proofs.lemmas.Iterator.Consumers.{count_from_yields_List}
use Rattle.std.proofs.lemmas.Iterator.Search.{YieldsList-from_take_while}
use Rattle.ultra_arguments.proofs.Trimmed.{trimmed_is}
use Rattle.ultra_arguments.proofs.texts.trimmed_length.Goals as goal

pub returns : goal.returns
returns c =
    let n : c.count-zeros.result ≡ length (take_while (λ x. eqb x 0) (reverse c.args.bytes.now)) =
    count_from_yields_List _ _ c.count-zeros.ensures.ran
    (YieldsList-from_take_while _ (λ x. eqb x 0) (YieldsList-from_rev_slice c.args.bytes.now cc) c.take_while.ensures.closure c.take_while.ensures.done
    (λ x b q k. search (rules, tests))) in
    (omega arith, rw n (trimmed_is c.args.bytes.now))

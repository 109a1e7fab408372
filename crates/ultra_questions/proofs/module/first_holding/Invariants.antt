-- `ultra_questions::module::first_holding` meets its contract. The invariant: `at` is where the attribute that the loop has come to starts,
-- and the search from there on finds what the whole search finds.
use Prim.Native.Nat.{◌-◌}
use mathlib.Core.Path.{◌≡◌}
use Rattle.ultra_format.specs.Decoding.{start, context_of}
use Rattle.ultra_locating.specs.Searching.{first_in}
use Rattle.ultra_questions.specs.ModuleQuestion.{holding}
use Rattle.ultra_locating.proofs.Searches.{searched}
use Rattle.ultra_questions.proofs.module.first_holding.Given as goal

abbrev pub invariant-loop : goal.invariant-loop
invariant-loop l =
    (l.at ≡ start l.buf l.counter)
    × (searched (holding l.address) l.buf l.counter (l.count - l.counter) ≡ first_in (holding l.address) (context_of l.buf))

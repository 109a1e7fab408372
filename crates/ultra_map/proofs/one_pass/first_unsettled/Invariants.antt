-- `ultra_map::one_pass::first_unsettled` meets its contract. The invariant: what is unsettled of all entries is what is unsettled of those left.
use mathlib.Core.Path.{◌≡◌}
use Rattle.ultra_format.specs.Additions.{entries_given}
use Rattle.ultra_map.specs.OnePass.{Whole, given_from, left_by, settled}
use Rattle.ultra_map.proofs.one_pass.first_unsettled.Given as goal

abbrev pub invariant-loop-place : goal.invariant-loop-place
invariant-loop-place g l = Whole 3 l.place l.last × (left_by settled (given_from (g.N.Numbers.numbers l.map) l.place) ≡ left_by settled (entries_given (g.N.Numbers.numbers l.map)))

-- `ultra_map::one_pass::first_unfit` meets its contract. The invariant: what is unfit of all entries is what is unfit of those left.
use mathlib.Core.Path.{◌≡◌}
use Rattle.ultra_map.specs.OnePass.{Whole, given_from, left_by, typed_and_fits}
use Rattle.ultra_map.proofs.one_pass.first_unfit.Given as goal

abbrev pub invariant-loop-place : goal.invariant-loop-place
invariant-loop-place g l = Whole 3 l.place l.end × (left_by typed_and_fits (given_from (g.N.Numbers.numbers l.map) l.place) ≡ left_by typed_and_fits (given_from (g.N.Numbers.numbers l.map) l.at))

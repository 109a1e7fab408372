-- `ultra_map::one_pass::all_typed` meets its contract. The invariant: all entries have a type if and only if those left have.
use mathlib.Core.Path.{◌≡◌}
use Rattle.ultra_format.specs.Members.{every, entry_typed}
use Rattle.ultra_map.specs.OnePass.{Whole, given_from}
use Rattle.ultra_map.proofs.one_pass.all_typed.Given as goal

abbrev pub invariant-loop-place : goal.invariant-loop-place
invariant-loop-place g l = Whole 3 l.place l.end × (every entry_typed (given_from (g.N.Numbers.numbers l.map) l.place) ≡ every entry_typed (given_from (g.N.Numbers.numbers l.map) l.at))

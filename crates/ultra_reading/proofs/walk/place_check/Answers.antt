-- `ultra_reading::walk::place_check` meets its contract: a type above those before is new.
use native.Mathlib.Omega.{arith}
use Rattle.ultra_places.proofs.PlaceLaws.{length_types}
use Rattle.ultra_reading.proofs.ReadingLaws.{pass_above}
use mathlib.Core.Path.{ap}
use Rattle.refusals.specs.Answers.{checked}
use Rattle.ultra_reading.proofs.walk.place_check.Goals as goal

pub returns-then-highest-kind : goal.returns-then-highest-kind
returns-then-highest-kind c = ap checked (pass_above _ _ (rw length_types (omega arith)) (omega arith) (omega arith))

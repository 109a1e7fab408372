-- `ultra_adding::add_command_line` meets its contract.
use mathlib.Core.Path.{refl}
use mathlib.Core.Bool.{true}
use native.Mathlib.Omega.{arith}
use Rattle.ultra_format.specs.Contexts.{Body}
use Rattle.ultra_format.specs.Additions.{body_given, Addition.add_command_line}
use Rattle.ultra_adding.proofs.Adding.{Adds, adds}
use Rattle.ultra_adding.proofs.add_command_line.Goals as goal
use Rattle.ultra_adding.proofs.add_command_line.Goals.{After-raise_count-answer}

abbrev body : After-raise_count-answer → Body
body c = body_given (add_command_line c.args.text.now)

add : (c : After-raise_count-answer) → Adds c.args.buf.now c.raise_count-answer.new.buf true (body c) c.raise_count-answer.result c.size-size.result
unfolding body_given
add c = adds c.raise_count-answer.ensures refl c.check-judged.ensures c.size-size.ensures

pub returns-in_default : goal.returns-in_default
returns-in_default c = (add (goal.at.returns-in_default c).After-raise_count-answer).refused c.in_default.is

pub slice_bounds-write-count : goal.slice_bounds-write-count
slice_bounds-write-count c = omega (arith, (add (goal.at.slice_bounds-write-count c).After-raise_count-answer).space c.in-Ok.is)

pub slice_bounds-write-start : goal.slice_bounds-write-start
slice_bounds-write-start c = omega (arith, (add (goal.at.slice_bounds-write-start c).After-raise_count-answer).space c.in-Ok.is)

pub write-requires : goal.write-requires
write-requires c = let h = (add (goal.at.write-requires c).After-raise_count-answer).space c.in-Ok.is in
    record { text_in_bounds = omega arith; text_bound = omega arith }

pub overflow_cast-result : goal.overflow_cast-result
overflow_cast-result c = omega (arith, (add (goal.at.overflow_cast-result c).After-raise_count-answer).space c.in-Ok.is)

pub overflow_add-result : goal.overflow_add-result
overflow_add-result c = omega (arith, (add (goal.at.overflow_add-result c).After-raise_count-answer).space c.in-Ok.is)

pub returns : goal.returns
returns c =
    (add (goal.at.returns c).After-raise_count-answer).written c.in-Ok.is c.write.ensures

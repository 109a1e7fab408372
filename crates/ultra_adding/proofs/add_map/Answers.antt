-- `ultra_adding::add_map` meets its contract.
use mathlib.Core.Path.{refl}
use native.Mathlib.Omega.{arith}
use borrow.Author.Tests.{eqb-true}
use Rattle.ultra_format.specs.Additions.{Addition, formed, body_given, Addition.add_map}
use Rattle.ultra_adding.proofs.Adding.{Adds, adds}
use Rattle.ultra_adding.proofs.add_map.Goals as goal
use Rattle.ultra_adding.proofs.add_map.Goals.{After-raise_count-answer}

abbrev map : After-raise_count-answer → Addition
map c = add_map c.args.numbers.now

add : (c : After-raise_count-answer) → Adds c.args.buf.now c.raise_count-answer.new.buf (formed (map c)) (body_given (map c)) c.raise_count-answer.result c.size-size.result
unfolding body_given
add c = adds c.raise_count-answer.ensures refl c.check-judged.ensures c.size-size.ensures

pub returns-in_default : goal.returns-in_default
returns-in_default c = (add (goal.at.returns-in_default c).After-raise_count-answer).refused c.in_default.is

pub slice_bounds-write-count : goal.slice_bounds-write-count
slice_bounds-write-count c = omega (arith, (add (goal.at.slice_bounds-write-count c).After-raise_count-answer).space c.in-Ok.is)

pub slice_bounds-write-start : goal.slice_bounds-write-start
slice_bounds-write-start c = omega (arith, (add (goal.at.slice_bounds-write-start c).After-raise_count-answer).space c.in-Ok.is)

pub write-requires : goal.write-requires
write-requires c =
    let h = (add (goal.at.write-requires c).After-raise_count-answer).space c.in-Ok.is in
    let f = ((add (goal.at.write-requires c).After-raise_count-answer).holds c.in-Ok.is).0 in
    record { numbers_in_bounds = omega arith; numbers_len = (eqb-true _ 0 f, omega arith) }

pub overflow_cast-result : goal.overflow_cast-result
overflow_cast-result c = omega (arith, (add (goal.at.overflow_cast-result c).After-raise_count-answer).space c.in-Ok.is)

pub overflow_add-result : goal.overflow_add-result
overflow_add-result c = omega (arith, (add (goal.at.overflow_add-result c).After-raise_count-answer).space c.in-Ok.is)

pub returns : goal.returns
returns c =
    (add (goal.at.returns c).After-raise_count-answer).written c.in-Ok.is c.write.ensures

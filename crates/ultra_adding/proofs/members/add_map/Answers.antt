-- `ultra_adding::members::add_map` meets its contract.
use Prim.Native.Nat.{ℕ, ◌+◌, ◌*◌, ◌/◌, ◌%◌}
use mathlib.Core.Path.{◌≡◌, refl}
use mathlib.Core.List.{List}
use native.Mathlib.Omega.{arith}
use borrow.Author.Tests.{eqb-true}
use lib.ListN.{length}
use Rattle.ultra_format.specs.Additions.{map_of, map_formed}
use Rattle.ultra_format.proofs.Numbers.{map_given_size}
use Rattle.ultra_adding.proofs.Adding.{Adds, adds}
use Rattle.ultra_adding.proofs.members.add_map.Goals as goal
use Rattle.ultra_adding.proofs.members.add_map.Goals.{After-raise_count-answer}

abbrev bytes : After-raise_count-answer → List ℕ
bytes c = c.args.entries.now

add : (c : After-raise_count-answer) → Adds c.args.buf.now c.raise_count-answer.new.buf (map_formed (bytes c)) (map_of (bytes c)) c.raise_count-answer.result (8 + length (bytes c) / 24 * 24)
add c = adds c.raise_count-answer.ensures refl c.bytes_check-judged.ensures (omega (arith, map_given_size (bytes c)))

pub returns-in_default : goal.returns-in_default
returns-in_default c = (add (goal.at.returns-in_default c).After-raise_count-answer).refused c.in_default.is

pub slice_bounds-write_bytes-count : goal.slice_bounds-write_bytes-count
slice_bounds-write_bytes-count c = omega (arith, (add (goal.at.slice_bounds-write_bytes-count c).After-raise_count-answer).space c.in-Ok.is)

pub slice_bounds-write_bytes-start : goal.slice_bounds-write_bytes-start
slice_bounds-write_bytes-start c = omega (arith, (add (goal.at.slice_bounds-write_bytes-start c).After-raise_count-answer).space c.in-Ok.is)

pub write_bytes-requires : goal.write_bytes-requires
write_bytes-requires c =
    let e : length (bytes (goal.at.write_bytes-requires c).After-raise_count-answer) % 24 ≡ 0 = eqb-true (length (bytes (goal.at.write_bytes-requires c).After-raise_count-answer) % 24) 0 ((add (goal.at.write_bytes-requires c).After-raise_count-answer).holds c.in-Ok.is).0 in
    let h = (add (goal.at.write_bytes-requires c).After-raise_count-answer).space c.in-Ok.is in
    (omega (arith, map_given_size (bytes (goal.at.write_bytes-requires c).After-raise_count-answer)), e, omega (arith, map_given_size (bytes (goal.at.write_bytes-requires c).After-raise_count-answer)))

pub overflow_cast-result : goal.overflow_cast-result
overflow_cast-result c = omega (arith, (add (goal.at.overflow_cast-result c).After-raise_count-answer).space c.in-Ok.is)

pub overflow_add-result : goal.overflow_add-result
overflow_add-result c = omega (arith, (add (goal.at.overflow_add-result c).After-raise_count-answer).space c.in-Ok.is)

pub returns : goal.returns
returns c =
    (add (goal.at.returns c).After-raise_count-answer).written c.in-Ok.is c.write_bytes.ensures

-- `ultra_adding::members::add_kernel` meets its contract.
use mathlib.Core.Path.{refl, ◌∙◌, ap}
use native.Mathlib.Omega.{arith}
use Rattle.ultra_format.specs.Contexts.{Body}
use Rattle.ultra_format.specs.Members.{size_suits, values, texts, ranges, ordered}
use Rattle.ultra_format.specs.Plain.{written_size}
use Rattle.ultra_format.specs.Additions.{kernel_of, guids_formed}
use Rattle.ultra_arguments.proofs.Judged.{judged}
use Rattle.ultra_adding.proofs.GivenMembers.{path_short, guids_wide}
use Rattle.ultra_adding.proofs.Adding.{Adds, adds}
use Rattle.refusals.specs.Answers.{checked}
use Rattle.ultra_adding.proofs.members.add_kernel.Goals as goal
use Rattle.ultra_adding.proofs.members.add_kernel.Goals.{After-raise_count-answer}

abbrev body : After-raise_count-answer → Body
body c = kernel_of c.args.phys c.args.virt c.args.size c.args.partition_type c.args.disk.now c.args.partition.now c.args.disk_index c.args.partition_index c.args.path.now

add : (c : After-raise_count-answer)
    → Adds c.args.buf.now c.raise_count-answer.new.buf (guids_formed c.args.disk.now c.args.partition.now) (body c) c.raise_count-answer.result 336
unfolding written_size size_suits values texts ranges ordered
add c = adds c.raise_count-answer.ensures refl (c.check-judged.ensures ∙ ap checked (judged _ (body c) refl refl refl refl refl)) refl

pub returns-in_default : goal.returns-in_default
returns-in_default c = (add (goal.at.returns-in_default c).After-raise_count-answer).refused c.in_default.is

pub slice_bounds-write-count : goal.slice_bounds-write-count
slice_bounds-write-count c = omega (arith, (add (goal.at.slice_bounds-write-count c).After-raise_count-answer).space c.in-Ok.is)

pub slice_bounds-write-start : goal.slice_bounds-write-start
slice_bounds-write-start c = omega (arith, (add (goal.at.slice_bounds-write-start c).After-raise_count-answer).space c.in-Ok.is)

pub write-requires : goal.write-requires
unfolding written_size texts
write-requires c =
    let d = (add (goal.at.write-requires c).After-raise_count-answer).holds c.in-Ok.is in
    let g = guids_wide c.args.disk.now c.args.partition.now d.0 in
    (omega (arith, (add (goal.at.write-requires c).After-raise_count-answer).space c.in-Ok.is), g.0, g.1, omega (arith, path_short _ d.1.texts_hold))

pub overflow_add-result : goal.overflow_add-result
overflow_add-result c = omega (arith, (add (goal.at.overflow_add-result c).After-raise_count-answer).space c.in-Ok.is)

pub returns : goal.returns
returns c =
    (add (goal.at.returns c).After-raise_count-answer).written c.in-Ok.is c.write.ensures

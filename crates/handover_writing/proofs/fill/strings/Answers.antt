-- `handover_writing::fill::strings` meets its contract: the strings of the records before `i` are stored, and `at` is where they end.
use Rattle.std.proofs.Common.{arith}
use Rattle.handover_arguments.specs.Judging.{strings_good}
use Rattle.handover_arguments.proofs.EveryLaws.{every_at}
use Rattle.handover_writing.proofs.FillLaws.{strings_below, first_strings, next_strings}
use Rattle.handover_writing.proofs.fill.strings.Goals as goal

pub loop-i-init : goal.loop-i-init
loop-i-init c =
    let a = c.args in
    let f = first_strings a.records.now a.parts.now a.run.now a.out.now a.first in
    record { next = f.0; stored = f.1 }

pub strings_at-at-requires : goal.strings_at-at-requires
strings_at-at-requires c =
    let a = c.args in
    let i = c.loop-i.i in
    let k = c.loop-i-test.true in
    let g = every_at (strings_good a.records.now a.parts.now a.run.now) a.count c.requires.count_in_bounds.2 i k in
    let w = strings_below a.records.now a.parts.now a.run.now a.count i k in
    record { i_in_bounds = (omega (arith, c.requires.count_in_bounds.0), omega (arith, c.requires.count_in_bounds.1), g); i_in_bounds_2 = omega (arith, w, c.loop-i.invariant.next, c.loop-i.auto.out, c.requires.count_in_bounds_2) }

pub loop-i-preserved : goal.loop-i-preserved
loop-i-preserved c =
    let a = c.args in
    let v = c.loop-i.invariant in
    let w = strings_below a.records.now a.parts.now a.run.now a.count c.loop-i.i c.loop-i-test.true in
    let f = next_strings a.records.now a.parts.now a.run.now a.out.now c.loop-i.out _ a.first c.loop-i.i _ _ v.next c.strings_at-at.ensures.value (omega (arith, v.next, w, c.requires.count_in_bounds_2)) v.stored c.strings_at-at.ensures.out_after in
    record { next = f.0; stored = f.1 }

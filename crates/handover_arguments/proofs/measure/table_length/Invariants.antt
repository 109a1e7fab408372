-- `handover_arguments::measure::table_length` meets its contract: `total` is the sum of all strings before those of record `i`.
use Prim.Native.Nat.{min}
use mathlib.Core.Path.{◌≡◌}
use Rattle.handover_arguments.specs.Measures.{strings_start}
use Rattle.handover_arguments.proofs.measure.table_length.Given as goal

abbrev pub invariant-loop-i : goal.invariant-loop-i
invariant-loop-i l = l.total ≡ min (strings_start l.records l.parts l.i) 65537

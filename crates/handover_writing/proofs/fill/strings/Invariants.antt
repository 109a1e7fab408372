-- `handover_writing::fill::strings` meets its contract: the strings of the records before `i` are stored, and `at` is where they end.
use Prim.Native.Nat.{◌+◌}
use mathlib.Core.Path.{◌≡◌}
use lib.ListN.{length}
use Rattle.handover_format.specs.WrittenForm.{strings}
use Rattle.handover_arguments.specs.PayloadGiven.{entries_from}
use Rattle.handover_writing.specs.Stores.{put}
use Rattle.handover_writing.proofs.fill.strings.Given as goal

abbrev pub invariant-loop-i : goal.invariant-loop-i
invariant-loop-i l = record {
  next : l.at ≡ l.first + length (strings (entries_from l.records l.parts l.run 0 l.i));
  stored : l.out ≡ put l.initial.out l.first (strings (entries_from l.records l.parts l.run 0 l.i));
}

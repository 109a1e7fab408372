-- `handover_writing::fill::rows` meets its contract: the records before `i` are stored, and `at` is where this one's strings start.
use mathlib.Core.Path.{◌≡◌}
use mathlib.Core.List.{List}
use Prim.Native.Nat.{ℕ}
use lib.ListN.{length}
use Rattle.byte_layout.specs.Stored.{closed}
use Rattle.handover_format.specs.WrittenForm.{rows_bytes}
use Rattle.handover_arguments.specs.PayloadGiven.{agent_given, entries_from}
use Rattle.handover_arguments.specs.Measures.{strings_start}
use Rattle.handover_writing.specs.Stores.{put}
use Rattle.handover_writing.proofs.fill.rows.Given as goal

abbrev pub invariant-loop-i : goal.invariant-loop-i
invariant-loop-i l = record {
  next : l.at ≡ strings_start l.records l.parts l.i;
  stored : (run : List ℕ) → l.out ≡ put l.initial.out 16 (rows_bytes (length (closed (agent_given l.parts run))) (entries_from l.records l.parts run 0 l.i));
}

-- `output::put_all` meets its contract: after each turn, the bytes so far are put.
use mathlib.Core.Path.{◌≡◌}
use lib.ListN.{take}
use Rattle.text_output.specs.Output.{State, puts}
use Rattle.text_output.proofs.output.put_all.Given as goal

abbrev pub invariant-loop-byte : goal.invariant-loop-byte
invariant-loop-byte l = ◌≡◌ {A = State} (l.out, l.at) (puts (l.initial.out, l.to) (take l.byte-index l.bytes))

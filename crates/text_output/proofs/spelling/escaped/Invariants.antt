-- `spelling::escaped` meets its contract: after each turn, the bytes so far are put.
use mathlib.Core.Path.{◌≡◌}
use lib.ListN.{take}
use Rattle.text_output.specs.Output.{State, puts}
use Rattle.text_output.specs.Spelling.{each, spelled}
use Rattle.text_output.proofs.spelling.escaped.Given as goal

abbrev pub invariant-loop-byte : goal.invariant-loop-byte
invariant-loop-byte l = ◌≡◌ {A = State} (l.out, l.at) (puts (l.initial.out, l.to) (each spelled (take l.byte-index l.byte-items)))

-- `spelling::hexadecimal` meets its contract: after each turn, the bytes so far are put.
use mathlib.Core.Path.{◌≡◌}
use lib.ListN.{take}
use Rattle.text_output.specs.Output.{State, puts}
use Rattle.text_output.specs.Spelling.{each, hex_pair}
use Rattle.text_output.proofs.spelling.hexadecimal.Given as goal

abbrev pub invariant-loop-byte : goal.invariant-loop-byte
invariant-loop-byte l = ◌≡◌ {A = State} (l.out, l.at) (puts (l.initial.out, l.to) (each hex_pair (take l.byte-index l.byte-items)))

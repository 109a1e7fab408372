-- `spelling::joined` meets its contract: after each turn, the numbers so far are put.
use mathlib.Core.Path.{◌≡◌}
use lib.ListN.{take}
use Rattle.text_output.specs.Output.{State, puts}
use Rattle.text_output.specs.Spelling.{each, after}
use Rattle.text_output.proofs.spelling.joined.Given as goal

abbrev pub invariant-loop-number : goal.invariant-loop-number
invariant-loop-number l = ◌≡◌ {A = State} (l.out, l.at) (puts (l.initial.out, l.initial.at) (each (after l.separator) (take l.number-index l.others)))

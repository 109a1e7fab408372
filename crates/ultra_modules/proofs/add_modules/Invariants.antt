-- `add_modules` goes on while a module is left. What is left to add from a turn on is Turns.antt's.
use Rattle.std.proofs.Common.{◌≡◌, length}
use Rattle.ultra_modules.specs.Modules.{modules_added}
use Rattle.ultra_modules.proofs.Turns.{left_from, left}
use Rattle.ultra_modules.proofs.add_modules.Given as goal

abbrev pub invariant-loop-buf : goal.invariant-loop-buf
invariant-loop-buf l = left_from l.modules l.buf l.so_far ≡ modules_added l.initial.buf l.modules

abbrev pub decreases-loop-buf : goal.decreases-loop-buf
decreases-loop-buf l = left (length l.modules) l.so_far

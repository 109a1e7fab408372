-- The size of a command line.
use Prim.Native.Nat.{ℕ, ◌+◌, ◌*◌, ◌/◌}
use mathlib.Core.Path.{◌≡◌, refl}
use mathlib.Core.List.{List}
use lib.ListN.{length}
use Rattle.ultra_format.specs.Plain.{written_size}
use Rattle.ultra_format.specs.Additions.{body_given, size_given}
use Rattle.ultra_format.specs.Additions.{Addition.add_command_line}

pub line_size_law : (t : List ℕ) → size_given (add_command_line t) ≡ 8 + (length t + 1 + 7) / 8 * 8
unfolding body_given written_size
line_size_law t = refl

-- `byte_layout::store` meets its contract: after i turns the front of the part written to has the first i bytes.
use mathlib.Core.Path.{◌≡◌}
use mathlib.Core.List.{◌++◌}
use lib.ListN.{drop}
use Rattle.byte_layout.specs.Stored.{bytes_at}
use Rattle.byte_layout.proofs.store.Given as goal

abbrev pub invariant-loop-i : goal.invariant-loop-i
invariant-loop-i l = l.byte-items ≡ bytes_at l.bytes 0 l.i ++ drop l.i l.initial.byte-items

-- `map::write` meets its contract: after i turns the first i numbers are fields after the header.
use Prim.Native.Nat.{◌+◌, ◌*◌}
use mathlib.Core.Path.{◌≡◌}
use mathlib.Core.List.{List, [], ◌∷◌}
use lib.ListN.{length, take}
use Rattle.byte_layout.specs.Fields.{Field.number}
use Rattle.byte_layout.proofs.Written.{Front}
use Rattle.ultra_writing.proofs.Entries.{numbers_fields}
use Rattle.ultra_writing.proofs.map.write.Given as goal

abbrev pub invariant-loop-i : goal.invariant-loop-i
invariant-loop-i l =
    (length l.part ≡ length l.initial.part)
    × ((e : List _) → Front e 8 (number 4 3 ∷ number 4 l.whole ∷ []) l.initial.part → Front e (8 + 8 * l.i) (number 4 3 ∷ number 4 l.whole ∷ numbers_fields (take l.i l.numbers)) l.part)

-- `empty` meets its contract.
use Prim.Native.Nat.{◌+◌}
use mathlib.Core.Path.{refl}
use mathlib.Core.List.{[]}
use native.Mathlib.Omega.{arith}
use Rattle.words.proofs.Widths.{byte_stored}
use Rattle.byte_layout.specs.Stored.{closed}
use Rattle.export_strings.proofs.PutLaws.{bytes_stored}
use Rattle.export_strings.proofs.empty.Goals as goal

pub returns : goal.returns
returns c = let a = c.args in bytes_stored a.out.now _ (closed []) a.to 1 (a.to + 1) refl refl (byte_stored a.out.now a.to 0 (omega arith) (omega (arith, c.requires)))

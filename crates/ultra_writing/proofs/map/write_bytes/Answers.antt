-- `map::write_bytes` meets its contract: the bytes are the entries' fields.
use Prim.Native.Nat.{◌+◌}
use native.Mathlib.Omega.{arith}
use lib.ListN.{length}
use Rattle.byte_layout.specs.Fields.{width}
use Rattle.byte_layout.proofs.Written.{begun}
use Rattle.ultra_writing.specs.Leading.{header_fields}
use Rattle.ultra_writing.proofs.Entries.{bytes_stored}
use Rattle.ultra_writing.proofs.map.write_bytes.Goals as goal

pub returns : goal.returns
unfolding width
returns c =
    let b = c.args.entries.now in
    bytes_stored b c.requires.1 (λ i. omega (arith, c.type_inv.entries i)) (begun c.args.part.now (header_fields 3 (8 + length b)) c.header.ensures) c.store.ensures

-- `ultra_map::entries_check` meets its contract: the entries in the bytes are those that their numbers give.
use Prim.Native.Nat.{◌*◌}
use mathlib.Core.Path.{ap, ◌∙◌}
use native.Mathlib.Omega.{arith}
use Rattle.words.proofs.Numbers.{length_numbers}
use Rattle.refusals.specs.Answers.{checked}
use Rattle.ultra_map.proofs.Entries.{bounded, part_numbers, stored_number}
use Rattle.ultra_map.proofs.entries_check.Goals as goal

pub check-requires-clause-whole : goal.check-requires-clause-whole
check-requires-clause-whole c =
    let a = c.args in
    rw (part_numbers a.bytes.now a.at a.count c.requires, length_numbers a.bytes.now a.at (3 * a.count)) (omega arith)

pub check-requires-clause-bounded : goal.check-requires-clause-bounded
check-requires-clause-bounded c i =
    let a = c.args in
    rw (part_numbers a.bytes.now a.at a.count c.requires) (bounded a.bytes.now (λ i. omega (arith, c.type_inv.bytes i)) a.at (3 * a.count) i)

pub returns : goal.returns
returns c =
    let a = c.args in
    c.check.ensures ∙ ap checked (rw (part_numbers a.bytes.now a.at a.count c.requires) (stored_number a.bytes.now a.at a.count))

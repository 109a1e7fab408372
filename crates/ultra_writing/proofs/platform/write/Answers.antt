-- `platform::write` meets its contract: each member is a field more.
use native.Mathlib.Omega.{arith}
use mathlib.Core.Path.{◌≡◌}
use lib.ListN.{length, set, length-set}
use Rattle.words.proofs.Widths.{byte_stored}
use Rattle.byte_layout.specs.Fields.{width, Field.number, Field.padding}
use Rattle.byte_layout.proofs.Written.{begun, next, no_padding}
use Rattle.ultra_format.specs.Plain.{written_size}
use Rattle.ultra_writing.specs.Leading.{platform_leading}
use borrow.Author.Rules.{rules}
use Rattle.ultra_writing.proofs.platform.write.Goals as goal
use Rattle.ultra_writing.proofs.platform.write.Goals.{After-store_u64}

-- the depth is set in a part as long as before
kept : (c : After-store_u64) → let q = c.store_u64.new.bytes in length (set q 64 c.args.depth) ≡ length q
kept c = simp length-set

pub clear-requires : goal.clear-requires
clear-requires c = simp length-set (omega arith)

pub store_u64-requires-2 : goal.store_u64-requires-2
store_u64-requires-2 c = omega (arith, kept (goal.at.store_u64-requires-2 c).After-store_u64)

pub store_u64-requires-3 : goal.store_u64-requires-3
store_u64-requires-3 c = omega (arith, kept (goal.at.store_u64-requires-3 c).After-store_u64)

pub shape_of-part : goal.shape_of-part
shape_of-part c = omega (arith, kept (goal.at.shape_of-part c).After-store_u64)

pub returns : goal.returns
unfolding written_size width
returns c =
    let a = c.args in
    let s0 = begun a.part.now (platform_leading a.kind a.loader_major a.loader_minor a.name.now a.rsdp) c.leading.ensures in
    let s1 = next (number 8 a.higher_half_base) s0 c.store_u64.ensures in
    let s2 = next (number 1 a.depth) s1 (byte_stored c.store_u64.new.bytes 64 a.depth (omega (arith, c.ranges.depth)) (search rules)) in
    let s3 = next (padding 7) s2 c.clear.ensures in
    let s4 = next (number 8 a.dtb) s3 c.store_u64-2.ensures in
    (no_padding (next (number 8 a.smbios) s4 c.store_u64-3.ensures)).front

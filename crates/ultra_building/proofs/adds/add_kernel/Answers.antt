-- `ultra_building::adds::add_kernel` meets its contract: the members are those of the record.
use mathlib.Core.Path.{◌≡◌, ◌∙◌}
use mathlib.Core.Bool.{true}
use borrow.Author.Rules.{rules}
use lib.ListN.{length}
use Rattle.ultra_format.specs.Additions.{kernel_of, body_given, guids_formed}
use Rattle.ultra_adding.specs.Adding.{added_members}
use Rattle.ultra_building.proofs.GivenRecords.{text_part}
use Rattle.ultra_building.proofs.adds.add_kernel.Goals as goal
use Rattle.ultra_building.proofs.adds.add_kernel.Goals.{Start}

formed : (c : Start) → guids_formed c.args.given.disk_guid c.args.given.partition_guid ≡ true
formed c =
    let d : length c.args.given.disk_guid ≡ 16 = search rules in
    let p : length c.args.given.partition_guid ≡ 16 = search rules in
    rw (d, p)

pub returns : goal.returns
unfolding body_given
returns c =
    let a = c.args in
    let g = a.given in
    let f = formed (goal.at.returns c).Start in
    c.add_kernel.ensures
    ∙ (λ i. added_members a.buf.now (f i) (kernel_of g.physical_base g.virtual_base g.size g.partition_type g.disk_guid g.partition_guid g.disk_index g.partition_index (text_part g.path c.trimmed_length-length.result c.trimmed_length-length.ensures.1 i)))

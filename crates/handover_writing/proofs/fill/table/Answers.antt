-- `handover_writing::fill::table` meets its contract: the agent's string, and those of the records after it.
use Rattle.std.proofs.Common.{length-append, arith}
use Rattle.byte_layout.specs.Stored.{closed}
use Rattle.handover_format.specs.Payloads.{record_start}
use Rattle.handover_format.specs.WrittenForm.{closed_if, strings}
use Rattle.handover_arguments.specs.PayloadGiven.{agent_given, entries_from}
use Rattle.handover_writing.proofs.StoreLaws.{put_then}
use Rattle.handover_writing.proofs.fill.table.Goals as goal

pub returns : goal.returns
unfolding closed_if
returns c =
    let a = c.args in
    let x = closed (agent_given a.parts.now a.run.now) in
    let y = strings (entries_from a.records.now a.parts.now a.run.now 0 a.count) in
    put_then a.out.now _ _ x y (record_start a.count) _ c.string_at-first.ensures.value (omega (arith, length-append x y, c.string_at-first.ensures.value, c.requires.agent_part_value.1))
    c.string_at-first.ensures.out_after c.strings.ensures

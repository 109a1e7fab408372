-- `handover_writing::fill::strings_at` meets its contract: the name, and the meta after it.
use Rattle.std.proofs.Common.{Bool, ap, ◌∙◌, arith}
use Rattle.handover_format.specs.Payloads.{names_name, names_meta}
use Rattle.handover_format.specs.RecordTests.{if_named}
use Rattle.handover_arguments.specs.PayloadGiven.{meta_part}
use Rattle.handover_arguments.specs.Judging.{string_good}
use Rattle.handover_arguments.proofs.JudgeLaws.{strings_said}
use Rattle.handover_writing.proofs.FillLaws.{both_length}
use Rattle.handover_writing.proofs.fill.strings_at.Goals as goal

pub string_at-next-requires-clause-k_in_bounds : goal.string_at-next-requires-clause-k_in_bounds
string_at-next-requires-clause-k_in_bounds c =
    let a = c.args in
    let n = c.names_name-name.ensures ∙ ap names_name c.load_u32-tag.ensures in
    let m = c.names_meta-meta.ensures ∙ ap names_meta c.load_u32-tag.ensures in
    omega (arith, both_length a.records.now a.parts.now a.run.now a.i _ _ n m, c.requires.i_in_bounds_2)

pub string_at-requires-clause-k_value : goal.string_at-requires-clause-k_value
string_at-requires-clause-k_value c =
    let a = c.args in
    let m = c.names_meta-meta.ensures ∙ ap names_meta c.load_u32-tag.ensures in
    (ap (λ (t : Bool). if_named t (string_good a.parts.now a.run.now (meta_part a.i))) m ∙ (strings_said _ _ _ _ c.requires.i_in_bounds.2).1, omega (arith, c.requires.i_in_bounds.1))

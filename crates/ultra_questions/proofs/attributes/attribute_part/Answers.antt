-- `ultra_questions::attributes::attribute_part` meets its contract.
use Prim.Native.Nat.{◌+◌, ◌≤◌}
use mathlib.Core.Path.{sym, subst}
use lib.ListN.{length}
use Rattle.ultra_questions.specs.declared.attributes.AttributeAnswer.{AttributeAnswer}
use Rattle.lent_buffers.specs.LentParts.{PartOf}
use Rattle.ultra_questions.proofs.AttributeLaws.{part_inside}
use Rattle.ultra_questions.proofs.attributes.attribute_part.Goals as goal

pub slice-requires : goal.slice-requires
slice-requires c =
    let s = c.args in
    subst (λ (a : AttributeAnswer). a.part.start + a.part.length ≤ length s.buf.now) (sym c.attribute-answer.ensures) (part_inside s.buf.now s.index)

pub returns : goal.returns
returns c =
    subst (λ (x : AttributeAnswer). PartOf c.slice.result c.args.buf x.part) c.attribute-answer.ensures c.slice.ensures

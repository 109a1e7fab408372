-- `handover_questions::record_at` meets its contract.
use Rattle.std.specs.Prelude.{Ok}
use mathlib.Core.Path.{◌≡◌, sym, ap, ◌∙◌}
use native.Mathlib.Omega.{arith}
use Rattle.handover_format.specs.Payloads.{record_start, names_name, names_meta}
use Rattle.handover_questions.specs.Questions.{record_refused, index_answer}
use Rattle.handover_questions.proofs.QuestionLaws.{Found, found, found_strings, slot_at, named_at, record_passed, record_found}
use Rattle.handover_questions.proofs.record_at.Goals as goal
use Rattle.handover_questions.proofs.record_at.Goals.{In-Ok}

-- after the `let .. else` there is such a record
done : (c : In-Ok) → let a = c.args in
    index_answer a.buf.now a.index ≡ Ok c.in-Ok.size
done c = sym c.indexed-answer.ensures ∙ c.in-Ok.is

here : (c : In-Ok) → let a = c.args in
    Found a.buf.now a.index c.in-Ok.size
here c = found _ _ _ (done c)

pub returns-in_default : goal.returns-in_default
returns-in_default c =
    let s = c.args in
    let e = c.in_default.is in
    c.no_answer.ensures ∙ ap record_refused e ∙ record_passed s.buf.now s.index _ (sym c.indexed-answer.ensures ∙ e)

pub load_u32-requires : goal.load_u32-requires
load_u32-requires c = omega (arith, (here (goal.at.load_u32-requires c).In-Ok).accepts.head)

pub overflow_sub-extent : goal.overflow_sub-extent
overflow_sub-extent c = let h = here (goal.at.overflow_sub-extent c).In-Ok in omega (arith, h.accepts.used, h.accepts.head, c.load_u32.ensures)

pub overflow_mul-index : goal.overflow_mul-index
overflow_mul-index c = let h = here (goal.at.overflow_mul-index c).In-Ok in omega (arith, h.below, h.accepts.head)

pub overflow_add-index : goal.overflow_add-index
overflow_add-index c = let h = here (goal.at.overflow_add-index c).In-Ok in omega (arith, h.below, h.accepts.head)

pub load-row-requires : goal.load-row-requires
load-row-requires c = let h = here (goal.at.load-row-requires c).In-Ok in omega (arith, h.below, h.accepts.head)

pub named_part-name-requires : goal.named_part-name-requires
named_part-name-requires c =
    let h = here (goal.at.named_part-name-requires c).In-Ok in
    let z = h.accepts.used in
    let n = c.load_u32.ensures in
    record { extent_in_bounds = (omega (arith, h.accepts.head), omega (arith, h.accepts.head)); offset_value = slot_at _ _ _ _ names_name (λ r. r.name) _ _ n z c.load-row.ensures c.names_name.ensures (found_strings _ _ _ (done (goal.at.named_part-name-requires c).In-Ok)).0 }

pub named_part-meta-requires : goal.named_part-meta-requires
named_part-meta-requires c =
    let h = here (goal.at.named_part-meta-requires c).In-Ok in
    let z = h.accepts.used in
    let n = c.load_u32.ensures in
    record { extent_in_bounds = (omega (arith, h.accepts.head), omega (arith, h.accepts.head)); offset_value = slot_at _ _ _ _ names_meta (λ r. r.meta) _ _ n z c.load-row.ensures c.names_meta.ensures (found_strings _ _ _ (done (goal.at.named_part-meta-requires c).In-Ok)).1 }

pub returns : goal.returns
returns c =
    let s = c.args in
    record_found s.buf.now s.index _ _ _ _ _ (done (goal.at.returns c).In-Ok) (ap record_start c.load_u32.ensures) c.load-row.ensures
    (named_at _ _ _ _ c.named_part-name.ensures c.names_name.ensures)
    (named_at _ _ _ _ c.named_part-meta.ensures c.names_meta.ensures)

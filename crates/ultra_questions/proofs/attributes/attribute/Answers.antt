-- `ultra_questions::attributes::attribute` meets its contract.
use mathlib.Core.Bool.{true}
use mathlib.Core.Path.{◌≡◌, sym, ap, ◌∙◌}
use native.Mathlib.Omega.{arith}
use Rattle.ultra_format.specs.Members.{size_suits}
use Rattle.ultra_format.specs.Decoding.{decoded}
use Rattle.ultra_locating.proofs.Located.{Loaded, loaded}
use Rattle.ultra_questions.specs.AttributeQuestion.{unanswered}
use Rattle.ultra_questions.proofs.AttributeLaws.{StartIs, start_said, answer_passed, answer_found, answer_loaded}
use Rattle.ultra_questions.proofs.attributes.attribute.Goals as goal
use Rattle.ultra_questions.proofs.attributes.attribute.Goals.{After-load_u32-size, In-Ok}

-- after the `let .. else` there is such an attribute, at `start`
said : (c : In-Ok) → StartIs c.args.buf.now c.args.index c.in-Ok.start
said c =
    let s = c.args in
    start_said s.buf.now s.index _ (sym c.attribute_start-answer.ensures ∙ c.in-Ok.is)

here : (c : In-Ok) → let s = c.args in Loaded s.buf.now s.index c.in-Ok.start
here c = let k = said c in loaded _ k.accepts _ _ k.below k.is

-- its size suits its type
suits : (c : After-load_u32-size)
    → size_suits c.load_u32-size.result (decoded c.args.buf.now c.in-Ok.start c.load_u32-size.result c.load_u32-kind.result) ≡ true
suits c =
    let here' : (let s = c.args in Loaded s.buf.now s.index c.in-Ok.start) =
    let k : StartIs c.args.buf.now c.args.index c.in-Ok.start =
    start_said c.args.buf.now c.args.index _ (sym c.attribute_start-answer.ensures ∙ c.in-Ok.is) in
    loaded _ k.accepts _ _ k.below k.is in
    rw (c.load_u32-size.ensures, c.load_u32-kind.ensures) here'.suits

pub returns-in_default : goal.returns-in_default
returns-in_default c =
    let s = c.args in
    let e = c.in_default.is in
    c.unanswered.ensures ∙ ap unanswered e ∙ answer_passed s.buf.now s.index (sym c.attribute_start-answer.ensures ∙ e)

pub load_u32-kind-requires : goal.load_u32-kind-requires
load_u32-kind-requires c = omega (arith, (here (goal.at.load_u32-kind-requires c).In-Ok).reached)

pub load_u32-size-requires : goal.load_u32-size-requires
load_u32-size-requires c = omega (arith, (here (goal.at.load_u32-size-requires c).In-Ok).reached)

pub records-records-requires : goal.records-records-requires
records-records-requires c = record { size_in_bounds = omega (arith, c.load_u32-size.ensures, (here (goal.at.records-records-requires c).In-Ok).reached); kind_value = suits (goal.at.records-records-requires c).After-load_u32-size }

pub of_body-part-requires : goal.of_body-part-requires
of_body-part-requires c =
    let z = c.load_u32-size.ensures in
    let w = (here (goal.at.of_body-part-requires c).In-Ok).reached in
    record { size_in_bounds = (omega arith, omega arith); kind_value = suits (goal.at.of_body-part-requires c).After-load_u32-size }

pub returns : goal.returns
returns c =
    let s = c.args in
    let w = (here (goal.at.returns c).In-Ok).reached in
    answer_loaded s.buf.now s.index _ _ _ _ _ (said (goal.at.returns c).In-Ok).is (c.load_u32-kind.ensures ∙ w.type_is) (c.load_u32-size.ensures ∙ w.size_is) c.records-records.ensures c.of_body-part.ensures
    ∙ answer_found s.buf.now s.index _ (sym c.attribute_start-answer.ensures ∙ c.in-Ok.is)

-- `ultra_questions::module::module_holding` meets its contract.
use Rattle.std.specs.Prelude.{Ok}
use mathlib.Core.Path.{sym, ap, ◌∙◌}
use Rattle.ultra_locating.specs.Passing.{Accepts}
use Rattle.ultra_questions.proofs.ModuleLaws.{module_passed, module_read}
use Rattle.ultra_questions.proofs.module.module_holding.Goals as goal
use Rattle.ultra_questions.proofs.module.module_holding.Goals.{In-Ok}

-- after the `let .. else`, reading has accepted the buffer
abbrev accepts : (c : In-Ok) → Accepts c.args.buf.now
accepts c = (_, sym c.used_length-answer.ensures ∙ c.in-Ok.is)

pub returns-in_default : goal.returns-in_default
returns-in_default c =
    let s = c.args in
    let e = c.in_default.is in
    e ∙ module_passed s.buf.now s.address (sym c.used_length-answer.ensures ∙ e)

pub first_holding-requires : goal.first_holding-requires
first_holding-requires c = accepts (goal.at.first_holding-requires c).In-Ok

pub returns : goal.returns
returns c =
    let s = c.args in
    ap Ok c.first_holding.ensures ∙ module_read s.buf.now s.address (accepts (goal.at.returns c).In-Ok).1

-- `ultra_questions::line::command_line_part` meets its contract.
use mathlib.Core.Path.{◌≡◌, sym, ap₂, ◌∙◌}
use native.Mathlib.Omega.{arith}
use Rattle.ultra_format.specs.Decoding.{decoded, stored_attribute}
use Rattle.ultra_locating.specs.Passing.{Accepts}
use Rattle.ultra_questions.specs.Parts.{body_part}
use Rattle.ultra_locating.specs.Searching.{of_type}
use Rattle.ultra_locating.proofs.Searches.{none_at, FirstOfType, first_of}
use Rattle.ultra_questions.proofs.LineLaws.{line_passed, line_found_law}
use Rattle.ultra_questions.proofs.line.command_line_part.Goals as goal
use Rattle.ultra_questions.proofs.line.command_line_part.Goals.{After-load_u32-size, Else-start-eq0, In-Ok}

-- after the `let .. else`, reading has accepted the buffer
abbrev accepts : (c : In-Ok) → Accepts c.args.buf.now
accepts c = (_, sym c.used_length-answer.ensures ∙ c.in-Ok.is)

-- there is a command line, at `start`
line : (c : Else-start-eq0) → FirstOfType c.args.buf.now 5 c.first_of_type-start.result
line c =
    let accepts' : Accepts c.args.buf.now =
    (_, sym c.used_length-answer.ensures ∙ c.in-Ok.is) in
    first_of _ 5 _ accepts' c.first_of_type-start.ensures c.if-start-eq0.false

-- its body is that of a command line
body : (c : After-load_u32-size) (l : FirstOfType c.args.buf.now 5 c.first_of_type-start.result)
    → let b = c.args.buf.now in
    decoded b c.first_of_type-start.result c.load_u32-size.result 5 ≡ (stored_attribute b l.found.index).body
body c l = rw c.load_u32-size.ensures (rw l.type_is at l.here.body_is)

pub returns-in_default : goal.returns-in_default
returns-in_default c =
    c.no_part.ensures ∙ line_passed c.args.buf.now (sym c.used_length-answer.ensures ∙ c.in_default.is)

pub first_of_type-start-requires : goal.first_of_type-start-requires
first_of_type-start-requires c = accepts (goal.at.first_of_type-start-requires c).In-Ok

pub returns-then-start-eq0 : goal.returns-then-start-eq0
returns-then-start-eq0 c =
    let a = accepts (goal.at.returns-then-start-eq0 c).In-Ok in
    let b = c.args.buf.now in
    c.no_part-then-start-eq0.ensures ∙ line_found_law b a.1 (none_at (of_type 5) b (sym c.first_of_type-start.ensures ∙ c.if-start-eq0.true))

pub load_u32-size-requires : goal.load_u32-size-requires
load_u32-size-requires c = omega (arith, (line (goal.at.load_u32-size-requires c).Else-start-eq0).here.reached)

pub of_body-requires : goal.of_body-requires
of_body-requires c =
    let l = line (goal.at.of_body-requires c).Else-start-eq0 in
    let w = l.here.reached in
    let z = c.load_u32-size.ensures in
    record { size_in_bounds = (omega arith, omega arith); kind_value = rw z (rw l.type_is at l.here.suits) }

pub returns : goal.returns
returns c =
    let a = accepts (goal.at.returns c).In-Ok in
    c.of_body.ensures ∙ ap₂ body_part (line (goal.at.returns c).Else-start-eq0).at (body (goal.at.returns c).After-load_u32-size (line (goal.at.returns c).Else-start-eq0)) ∙ line_found_law _ a.1 (line (goal.at.returns c).Else-start-eq0).found.is

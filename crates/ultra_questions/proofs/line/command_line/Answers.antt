-- `ultra_questions::line::command_line` meets its contract: a part that starts at 0 is no line.
use Prim.Native.Nat.{◌+◌, ◌≤◌}
use mathlib.Core.Path.{refl, sym, ap, subst, ◌∙◌}
use lib.ListN.{length}
use Rattle.lent_buffers.specs.declared.Part.{Part}
use Rattle.lent_buffers.specs.LentParts.{PartOf}
use Rattle.ultra_questions.proofs.LineLaws.{line_within, hands_line, hands_board}
use Rattle.ultra_questions.proofs.line.command_line.Goals as goal

pub slice-line-requires : goal.slice-line-requires
slice-line-requires c =
    let b = c.args.buf.now in
    subst (λ (p : Part). p.start + p.length ≤ length b) (sym c.command_line_part-part.ensures) (line_within b)

pub returns-then-part-eq0 : goal.returns-then-part-eq0
returns-then-part-eq0 c =
    let args = c.args in
    hands_board _ args.buf args.board (ap (λ (x : Part). x.start) (sym c.command_line_part-part.ensures) ∙ c.if-part-eq0.true) (refl, refl)

pub returns-else-part-eq0 : goal.returns-else-part-eq0
returns-else-part-eq0 c =
    let args = c.args in
    hands_line _ args.buf args.board (λ z. c.if-part-eq0.false (ap (λ (x : Part). x.start) c.command_line_part-part.ensures ∙ z))
    (subst (PartOf _ args.buf) c.command_line_part-part.ensures c.slice-line.ensures)

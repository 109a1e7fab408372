-- `ultra_arguments::command_line::check` meets its contract: each test answers for its rule.
use mathlib.Core.Path.{◌∙◌, refl, ap}
use mathlib.Core.Bool.{true}
use Rattle.ultra_format.specs.Members.{size_suits, values, texts, ranges, ordered}
use Rattle.ultra_format.specs.Plain.{written_size}
use Rattle.ultra_format.specs.Additions.{Addition, body_given}
use Rattle.ultra_arguments.proofs.Judged.{judged, line_form, line_text_law}
use Rattle.refusals.specs.Answers.{checked}
use Rattle.ultra_arguments.proofs.command_line.check.Goals as goal

pub returns : goal.returns
unfolding body_given written_size size_suits values texts ranges ordered
returns c =
    let t = c.args.text.now in
    c.first_broken.ensures ∙ ap checked (judged true (body_given (Addition.add_command_line t)) (line_form t) refl (c.all_ascii-ascii.ensures ∙ line_text_law t) refl refl)

-- `ultra_arguments::framebuffer::check` meets its contract: each test answers for its rule.
use mathlib.Core.Path.{◌∙◌, refl, ap}
use mathlib.Core.Bool.{true}
use Rattle.ultra_format.specs.Members.{size_suits, values, texts, ranges, ordered}
use Rattle.ultra_format.specs.Plain.{written_size}
use Rattle.ultra_format.specs.Additions.{Addition, body_given}
use Rattle.ultra_arguments.proofs.Judged.{judged}
use Rattle.refusals.specs.Answers.{checked}
use Rattle.ultra_arguments.proofs.framebuffer.check.Goals as goal

pub returns : goal.returns
unfolding body_given written_size size_suits values texts ranges ordered
returns c = c.check.ensures ∙ ap checked (judged true (body_given (Addition.add_framebuffer c.args.given)) refl refl refl refl refl)

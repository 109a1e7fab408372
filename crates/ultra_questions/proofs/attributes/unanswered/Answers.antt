-- `ultra_questions::attributes::unanswered` meets its contract.
use Rattle.ultra_questions.proofs.attributes.unanswered.Goals as goal

pub returns : goal.returns
returns c = rw (c.blank-records.ensures, c.no_part-part.ensures)

-- `write` meets its contract: the lines of the context, or of the refusal.
use mathlib.Core.Path.{sym, ◌∙◌}
use Rattle.key_value_text.proofs.LinePuts.{lines_put}
use Rattle.listing_format.specs.Listing.{lines_of}
use Rattle.ultra_locating.specs.Passing.{Accepts}
use Rattle.ultra_locating.proofs.Located.{used_is_law}
use Rattle.ultra_listing.proofs.write.Goals as goal

pub accepted-requires : goal.accepted-requires
accepted-requires c =
    let a : Accepts c.args.buf.now = (c.in-Ok.used, sym c.used_length-answer.ensures ∙ c.in-Ok.is) in
    record { accepts = a; used_value = used_is_law c.args.buf.now a }

pub returns-in-Err : goal.returns-in-Err
unfolding lines_of
returns-in-Err c =
    rw (← c.used_length-answer.ensures, c.in-Err.is) (c.refused.ensures ∙ lines_put _ _)

pub returns-in-Ok : goal.returns-in-Ok
unfolding lines_of
returns-in-Ok c =
    rw (← c.used_length-answer.ensures, c.in-Ok.is) (c.accepted.ensures ∙ lines_put _ _)

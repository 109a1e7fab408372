-- `ultra_appending::offset` meets its contract: reading's refusal, the check's, or the used length.
use Rattle.std.specs.Prelude.{Ok}
use mathlib.Core.Path.{◌≡◌, refl, sym, ◌∙◌}
use Rattle.ultra_reading.specs.Reading.{used_length}
use Rattle.refusals.proofs.Chains.{broken, unbroken}
use Rattle.ultra_appending.proofs.Appending.{unread, append_refused, append_done}
use Rattle.ultra_appending.proofs.offset.Goals as goal
use Rattle.ultra_appending.proofs.offset.Goals.{In-Ok}

-- reading accepted the buffer
was : (c : In-Ok) → used_length 0 c.args.buf.now ≡ Ok c.in-Ok.used
was c = sym c.used_length-answer.ensures ∙ c.in-Ok.is

pub returns-in_default : goal.returns-in_default
returns-in_default c = unread _ _ _ _ _ _ c.used_length-answer.ensures c.in_default.is

pub check-requires : goal.check-requires
check-requires c = record { buf_value = was (goal.at.check-requires c).In-Ok; le_kind = c.requires.le_kind }

pub returns-in-Err : goal.returns-in-Err
returns-in-Err c =
    let b = broken _ _ (sym c.in-Err.ensures) in
    append_refused _ _ _ _ _ _ _ (was (goal.at.returns-in-Err c).In-Ok) (sym b.0) (λ z. b.1 (b.0 ∙ z)) c.new.ensures

pub returns : goal.returns
returns c = append_done _ _ _ _ _ _ (was (goal.at.returns c).In-Ok) refl (unbroken _ (sym c.in_default-check.ensures))

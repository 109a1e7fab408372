-- `ultra_map_question::map_numbers` meets its contract.
use Rattle.std.specs.Prelude.{Err}
use mathlib.Core.Path.{◌≡◌, sym, ap, ap₂, ◌∙◌}
use native.Mathlib.Omega.{arith}
use Rattle.ultra_format.specs.Decoding.{start}
use Rattle.refusals.specs.declared.Refusal.{Refusal}
use Rattle.ultra_locating.specs.Passing.{Accepts}
use Rattle.ultra_locating.proofs.Searches.{FirstOfType, first_of}
use Rattle.ultra_map_question.specs.MapQuestion.{entries_stored, no_numbers, numbers_from}
use Rattle.ultra_map_question.proofs.MapLaws.{numbers_passed, numbers_absent, numbers_room, numbers_found}
use Rattle.ultra_map_question.proofs.map_numbers.Goals as goal
use Rattle.ultra_map_question.proofs.map_numbers.Goals.{After-entries_at-entries, Else-start-eq0, In-Ok}

-- after the `let .. else`, reading has accepted the buffer
abbrev accepts : (c : In-Ok) → Accepts c.args.buf.now
accepts c = (_, sym c.used_length-answer.ensures ∙ c.in-Ok.is)

-- there is a map, at `start`
map : (c : Else-start-eq0) → FirstOfType c.args.buf.now 3 c.first_of_type-start.result
map c =
    let accepts' : Accepts c.args.buf.now =
    (_, sym c.used_length-answer.ensures ∙ c.in-Ok.is) in
    first_of _ 3 _ accepts' c.first_of_type-start.ensures c.if-start-eq0.false

entries : (c : After-entries_at-entries) (m : FirstOfType c.args.buf.now 3 c.first_of_type-start.result)
    → let b = c.args.buf.now in c.entries_at-entries.result ≡ entries_stored b (start b m.found.index)
entries c m = c.entries_at-entries.ensures ∙ ap (entries_stored c.args.buf.now) m.at

pub returns-in_default : goal.returns-in_default
returns-in_default c =
    let e = c.in_default.is in
    c.no_numbers.ensures ∙ ap no_numbers e ∙ numbers_passed _ _ (sym c.used_length-answer.ensures ∙ e)

pub first_of_type-start-requires : goal.first_of_type-start-requires
first_of_type-start-requires c = accepts (goal.at.first_of_type-start-requires c).In-Ok

pub returns-then-start-eq0 : goal.returns-then-start-eq0
returns-then-start-eq0 c =
    c.no_numbers-then-start-eq0.ensures
    ∙ ap (λ (r : Refusal). no_numbers (Err r)) c.new.ensures
    ∙ numbers_absent _ _ _ (accepts (goal.at.returns-then-start-eq0 c).In-Ok).1 (sym c.first_of_type-start.ensures ∙ c.if-start-eq0.true)

pub entries_at-entries-requires : goal.entries_at-entries-requires
entries_at-entries-requires c = let w = (map (goal.at.entries_at-entries-requires c).Else-start-eq0).here.reached in (omega (arith, w), w.least)

pub returns-then-capacity-count : goal.returns-then-capacity-count
returns-then-capacity-count c =
    c.no_numbers-then-capacity-count.ensures
    ∙ ap (λ (r : Refusal). no_numbers (Err r)) c.new-then-capacity-count.ensures
    ∙ numbers_room _ _ _ (accepts (goal.at.returns-then-capacity-count c).In-Ok).1 (map (goal.at.returns-then-capacity-count c).Else-start-eq0).found (omega (arith, entries (goal.at.returns-then-capacity-count c).After-entries_at-entries (map (goal.at.returns-then-capacity-count c).Else-start-eq0), c.if-capacity-count.true))

pub returns : goal.returns
returns c =
    ap₂ numbers_from (map (goal.at.returns c).Else-start-eq0).at (entries (goal.at.returns c).After-entries_at-entries (map (goal.at.returns c).Else-start-eq0)) ∙ numbers_found _ _ _ (accepts (goal.at.returns c).In-Ok).1 (map (goal.at.returns c).Else-start-eq0).found (omega (arith, entries (goal.at.returns c).After-entries_at-entries (map (goal.at.returns c).Else-start-eq0), c.if-capacity-count.false))

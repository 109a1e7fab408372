-- The cases of specs/MemberCases.antt hold, by computing the definitions.
use mathlib.Core.Path.{◌≡◌, refl}
use mathlib.Core.Bool.{Bool, true, false, not, ◌&&◌}
use mathlib.Core.List.{List, [], ◌∷◌}
use lib.Dec.{eqb}
use borrow.Author.Tests.{eqb-true}
use Rattle.words.specs.Words.{number_at, numbers_at}
use Rattle.ultra_format.specs.Members.{every, size_suits, values, kernel_values, module_values, bpp_suits, framebuffer_values, texts, ascii_text, path_text, ranges, ordered, entries_ordered, body_check}
use Rattle.ultra_format.specs.Places.{placed, occurs, place_check}
use Rattle.ultra_format.specs.Plain.{written_size}
use Rattle.ultra_format.specs.Records.{trimmed}
use Rattle.ultra_format.specs.Additions.{entries_given, body_given, given_check}
use Rattle.ultra_format.specs.MemberCases.{Case, AllHold, cases, ListsGiven, Rooms}
use Rattle.ultra_format.specs.MemberCases.{Case.◌gives◌, Case.◌is◌}
use Rattle.refusals.proofs.Chains.{both_hold}

alike : Bool → Bool → Bool
alike true v = v
alike false v = not v

alike_true : (x v : Bool) → alike x v ≡ true → x ≡ v
unfolding alike
alike_true true true e = refl
alike_true true false e = cc
alike_true false true e = cc
alike_true false false e = refl

-- every case as a test, so that the whole list is one computation
tests : List Case → Bool
tests [] = true
tests (x gives n ∷ cs) = eqb x n && tests cs
tests (x is v ∷ cs) = alike x v && tests cs

tested : (cs : List Case) → tests cs ≡ true → AllHold cs
unfolding tests
tested [] e = tt
tested (x gives n ∷ cs) e = let h = both_hold (eqb x n) (tests cs) e in (eqb-true x n h.0, tested cs h.1)
tested (x is v ∷ cs) e = let h = both_hold (alike x v) (tests cs) e in (alike_true x v h.0, tested cs h.1)

pub member_cases : AllHold cases
unfolding tests alike every size_suits values kernel_values module_values bpp_suits framebuffer_values texts ascii_text path_text ranges ordered entries_ordered body_check placed occurs place_check written_size entries_given body_given given_check number_at numbers_at
member_cases = tested cases refl

pub lists_given : ListsGiven
unfolding entries_given trimmed
lists_given = (refl, refl, refl, refl)

pub rooms : Rooms
rooms b = (λ e. rw e, λ e. rw e, λ e. rw e)

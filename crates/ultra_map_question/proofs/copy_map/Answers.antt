-- `ultra_map_question::copy_map` meets its contract.
use Prim.Native.Nat.{ℕ}
use mathlib.Core.Path.{refl, sym, ap, ◌∙◌, subst}
use mathlib.Core.List.{List}
use lib.ListN.{length}
use Rattle.ultra_map_question.proofs.MapLaws.{Copies, numbers_copied}
use Rattle.ultra_map_question.proofs.copy_map.Goals as goal
use Rattle.ultra_map_question.proofs.copy_map.Goals.{After-map_numbers-numbers}

copies : (c : After-map_numbers-numbers) → let s = c.args in Copies s.buf.now (length s.out.now) c.map_numbers-numbers.result
copies c = subst (Copies _ _) (sym c.map_numbers-numbers.ensures) (numbers_copied _ _)

pub copy_numbers-requires : goal.copy_numbers-requires
copy_numbers-requires c = let k = copies (goal.at.copy_numbers-requires c).After-map_numbers-numbers in (k.within, k.room)

pub returns : goal.returns
returns c =
    ap (λ (l : List ℕ). (c.map_numbers-numbers.result.answer, l)) c.copy_numbers.ensures ∙ sym ((copies (goal.at.returns c).After-map_numbers-numbers).copied c.args.out.now refl)

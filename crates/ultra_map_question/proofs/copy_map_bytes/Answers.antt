-- `ultra_map_question::copy_map_bytes` meets its contract.
use Prim.Native.Nat.{ℕ, ◌/◌}
use mathlib.Core.Path.{sym, ap, ◌∙◌, subst}
use mathlib.Core.List.{List}
use native.Mathlib.Omega.{arith}
use lib.ListN.{length}
use Rattle.ultra_map_question.proofs.MapLaws.{Copies, numbers_copied}
use Rattle.ultra_map_question.proofs.MapBytes.{bytes_copied_law}
use Rattle.ultra_map_question.proofs.copy_map_bytes.Goals as goal
use Rattle.ultra_map_question.proofs.copy_map_bytes.Goals.{After-map_numbers-numbers}

copies : (c : After-map_numbers-numbers) → let s = c.args in Copies s.buf.now (length s.out.now / 8) c.map_numbers-numbers.result
copies c = subst (Copies _ _) (sym c.map_numbers-numbers.ensures) (numbers_copied _ _)

pub overflow_mul-numbers : goal.overflow_mul-numbers
overflow_mul-numbers c = omega (arith, (copies (goal.at.overflow_mul-numbers c).After-map_numbers-numbers).room)

pub copy-requires : goal.copy-requires
copy-requires c = let k = copies (goal.at.copy-requires c).After-map_numbers-numbers in (k.within, omega (arith, k.room))

pub returns : goal.returns
returns c =
    let s = c.args in
    ap (λ (l : List ℕ). (c.map_numbers-numbers.result.answer, l)) c.copy.ensures
    ∙ sym (bytes_copied_law s.buf.now s.out.now (λ i. omega (arith, (goal.at.returns c).After-map_numbers-numbers.type_inv.out i)) (λ i. omega (arith, c.type_inv.buf i)) _ (copies (goal.at.returns c).After-map_numbers-numbers))

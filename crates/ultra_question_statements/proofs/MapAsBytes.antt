-- Copying the map out into bytes copies the entries' bytes, or changes none.
use Prim.Native.Nat.{ℕ, ◌*◌, ◌/◌}
use mathlib.Core.Path.{◌≡◌, sym, ap, ap₂, ◌∙◌}
use mathlib.Core.List.{List}
use native.Mathlib.Omega.{arith}
use lib.ListN.{length}
use Rattle.byte_layout.specs.Stored.{bytes_at, over}
use Rattle.refusals.specs.Answers.{Answer}
use Rattle.ultra_map_question.specs.MapQuestion.{map_copied_bytes, map_numbers}
use Rattle.ultra_map_question.proofs.MapLaws.{numbers_copied}
use Rattle.ultra_map_question.proofs.MapBytes.{bytes_copied_law}
use Rattle.ultra_question_statements.specs.MapAsBytes.{CopiesBytes}

pub map_as_bytes : CopiesBytes
unfolding bytes_at
map_as_bytes b out y z =
    let m = map_numbers b (length out / 8) in
    let s = numbers_copied b (length out / 8) in
    let q = bytes_copied_law b out z y m s in
    let answer : m.answer ≡ (map_copied_bytes b out).0 = ap (λ (x : Answer × List ℕ). x.0) (sym q) in
    let output : (map_copied_bytes b out).1 ≡ over (bytes_at b m.start (8 * m.count)) out = ap (λ (x : Answer × List ℕ). x.1) q in
    record {
      refuses = λ r h. output ∙ ap (λ (n : ℕ). over (bytes_at b m.start (8 * n)) out) (s.none r (answer ∙ h));
      copies =
          λ n h.
          let k = s.all n (answer ∙ h) in
          let w : 8 * m.count ≡ 24 * n = omega (arith, k.4) in
          (k.0, k.1, k.2, output ∙ ap₂ (λ (o j : ℕ). over (bytes_at b o j) out) k.3 w);
    }

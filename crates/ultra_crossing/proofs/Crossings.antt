-- An answer and the lent bytes that a call left, crossed together.
use Prim.Native.Nat.{ℕ}
use mathlib.Core.Path.{◌≡◌, ap, ◌∙◌}
use mathlib.Core.List.{List}
use Rattle.refusals.specs.Answers.{Answer}
use Rattle.ultra_crossing.specs.Crossing.{answer_crossed, crossed}

pub crossing : {n : ℕ} {a : Answer} {q : List ℕ} {r : Answer × List ℕ} → n ≡ answer_crossed a → (a, q) ≡ r → (n, q) ≡ crossed r
crossing {q = q} e f = ap (λ (x : ℕ). (x, q)) e ∙ ap crossed f

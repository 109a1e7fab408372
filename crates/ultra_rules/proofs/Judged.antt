-- The number of a body from its size and from the tests of its members.
use Prim.Native.Nat.{ℕ}
use mathlib.Core.Path.{◌≡◌, ◌∙◌}
use mathlib.Core.Bool.{Bool, true, false}
use Rattle.refusals.specs.Refusals.{FORM}
use Rattle.ultra_format.specs.Contexts.{Body}
use Rattle.ultra_format.specs.Members.{size_suits, values, texts, ranges, ordered, member_check, body_check}

module _ (s : ℕ) (x : Body) where
  pub misfits : size_suits s x ≡ false → FORM ≡ body_check s x
  unfolding body_check
  misfits h = simp h

  -- of a size that suits: each test is an answer to its rule
  pub judged : size_suits s x ≡ true → {v t r o : Bool} → v ≡ values x → t ≡ texts s x → r ≡ ranges x → o ≡ ordered x
      → member_check true v t r o ≡ body_check s x
  unfolding body_check
  judged form value text range order = (λ i. member_check true (value i) (text i) (range i) (order i)) ∙ rw form

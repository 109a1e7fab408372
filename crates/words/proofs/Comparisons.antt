-- Laws of tests: what a leaf ensures and the branch on its result say together, and when two comparisons agree.
use Prim.Native.Nat.{ℕ, ◌≤◌, ◌<◌}
use mathlib.Core.Path.{◌≡◌, refl, sym, ◌∙◌}
use mathlib.Core.Bool.{Bool, true, false, not}
use lib.Dec.{leb}
use borrow.Author.Tests.{leb-true, leb-false, le-leb, lt-leb, not-true, not-false}

-- `if !leaf(..)`: taken, the leaf's test failed; left, it held
pub failed : {r t : Bool} → r ≡ t → not r ≡ true → t ≡ false
failed {r} e n = sym e ∙ not-true r n

pub held : {r t : Bool} → r ≡ t → not r ≡ false → t ≡ true
held {r} e n = sym e ∙ not-false r n

-- a test says the same of equal numbers (of two: `ap₂`)
pub ap₄ : (f : ℕ → ℕ → ℕ → ℕ → Bool) {a b c d w x y z : ℕ} → a ≡ w → b ≡ x → c ≡ y → d ≡ z → f a b c d ≡ f w x y z
ap₄ f p q r s = λ i. f (p i) (q i) (r i) (s i)

agrees : (t : Bool) (a b x y : ℕ) → leb a b ≡ t → (a ≤ b → x ≤ y) → (b < a → y < x) → t ≡ leb x y
agrees true a b x y e f g = sym (le-leb x y (f (leb-true a b e)))
agrees false a b x y e f g = sym (lt-leb x y (g (leb-false a b e)))

pub leb_same : (a b x y : ℕ) → (a ≤ b → x ≤ y) → (b < a → y < x) → leb a b ≡ leb x y
leb_same a b x y f g = agrees (leb a b) a b x y refl f g

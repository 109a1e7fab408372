-- Laws of the least number that breaks: a chain of tests that are tried in the order of their numbers answers it, or 0 where none breaks.
use Prim.Native.Nat.{ℕ, zero, suc, ◌≤◌, ◌<◌}
use mathlib.Core.Path.{◌≡◌, refl, sym, ◌∙◌}
use mathlib.Core.Bool.{Bool, true, false, true≢false}
use mathlib.Core.Logic.{◌⊎◌, ◌⊎◌.inl, ◌⊎◌.inr, ⊎_elim}
use native.Mathlib.Omega.{arith}
use borrow.Author.Count.{below_more}
use Rattle.refusals.specs.Refusals.{unless, first_of}
use Rattle.ultra_acceptance.specs.Refusing.{NoneBreaks, Least}

abbrev Below : (ℕ → Type 0) → ℕ → Type 0
Below breaks k = (m : ℕ) → m < k → breaks m → ⊥

-- ---- chains
-- f is what a chain over the numbers from lo to below hi answers, asked where none below lo breaks
abbrev pub Chain : (ℕ → Type 0) → ℕ → ℕ → ℕ → Type 0
Chain breaks lo hi f = Below breaks lo → ((f ≡ 0) × Below breaks hi) ⊎ ((f ≡ 0 → ⊥) × Least breaks f)

module _ {breaks : ℕ → Type 0} where
  pub ends : {k : ℕ} → Chain breaks k k 0
  ends below = inl (refl, below)

  -- a test that fails only where its number breaks
  pub try : {n hi rest : ℕ} (t : Bool) → (t ≡ false → breaks (suc n)) → (t ≡ true → Chain breaks (suc n) hi rest) → Chain breaks (suc n) hi (unless t (suc n) rest)
  try true fails holds = holds refl
  try false fails holds = λ below. inr (λ e. omega arith, (fails refl, below))

  pub past : {n hi f : ℕ} → (breaks n → ⊥) → Chain breaks (suc n) hi f → Chain breaks n hi f
  past not c below = c (λ m l. below_more _ _ below not m (omega arith))

  -- a test that fails exactly where its number breaks
  pub link : {n hi rest : ℕ} (t : Bool) → (t ≡ false → breaks (suc n)) → (breaks (suc n) → t ≡ false) → Chain breaks (suc (suc n)) hi rest
      → Chain breaks (suc n) hi (unless t (suc n) rest)
  link t fails back c = try t fails (λ e. past (λ x. true≢false (sym e ∙ back x)) c)

  pub then : {lo mid hi : ℕ} (f g : ℕ) → Chain breaks lo mid f → Chain breaks mid hi g → Chain breaks lo hi (first_of f g)
  then zero g c d below = ⊎_elim (λ r. d r.1) (λ r. absurd (r.0 refl)) (c below)
  then (suc f) g c d below = ⊎_elim (λ r. absurd (omega (arith, r.0))) inr (c below)

-- ---- the answer of a chain over all the numbers that can break
abbrev pub Settled : (ℕ → Type 0) → ℕ → Type 0
Settled breaks f = ((f ≡ 0) × NoneBreaks breaks) ⊎ ((f ≡ 0 → ⊥) × Least breaks f)

module _ {breaks : ℕ → Type 0} {f : ℕ} where
  pub settled : {lo hi : ℕ} → ((m : ℕ) → breaks m → (lo ≤ m) × (m < hi)) → Chain breaks lo hi f → Settled breaks f
  settled within c = ⊎_elim (λ r. inl (r.0, λ m x. r.1 m (within m x).1 x)) inr (c (λ m l x. omega (arith, (within m x).0)))

  pub settled_none : Settled breaks f → NoneBreaks breaks → f ≡ 0
  settled_none s none = ⊎_elim (λ r. r.0) (λ r. absurd (none f r.1.0)) s

  pub settled_least : {n : ℕ} → Settled breaks f → Least breaks n → (f ≡ 0 → ⊥) × (f ≡ n)
  settled_least {n} s l = ⊎_elim (λ r. absurd (r.1 n l.0)) (λ r. (r.0, same r.1)) s
    where
      same : Least breaks f → f ≡ n
      same k =
          let p : n < f → ⊥ = λ h. k.1 n h l.0 in
          let q : f < n → ⊥ = λ h. l.1 f h k.0 in
          omega arith

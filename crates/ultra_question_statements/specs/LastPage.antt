-- Statement: request R-4 of document 02, "A module fills its last page". That the question goes by the rounded size is ByIndex; here is
-- what this makes of pages. What is answered by page, with no word on rounding, is in EveryBuffer. Proved in proofs/LastPage.antt:
-- `last_page_law`.
-- A reader has to believe this file.
use Rattle.std.specs.Prelude.{ℕ, ◌+◌, ◌/◌, ◌≤◌, ◌<◌, ◌≡◌, ◌↔◌, List}
use Rattle.words.specs.Rounding.{Multiple, rounded_up}
use Rattle.ultra_format.specs.Contexts.{Module, Context}
use Rattle.ultra_format.specs.MemberRules.{Ends}
use Rattle.ultra_acceptance.specs.Acceptance.{HoldsContext}
use Rattle.ultra_question_statements.specs.ByIndex.{ModuleAt, HoldsAddress}

-- two addresses are on one page of memory
abbrev pub SamePage : ℕ → ℕ → Type 0
SamePage a x = a / 4096 ≡ x / 4096

-- of the bytes of the module, by its plain size, one is on the page of the address
abbrev pub OnPage : ℕ → Module → Type 0
OnPage a m = (x : ℕ) × (m.address ≤ x) × (x < m.address + m.size) × SamePage x a

-- of every module of a context
pub record FillsPages (c : Context) : Type 0 where
  -- "the rounded end can't pass 2^64"
  pub fits : (i : ℕ) (m : Module) → ModuleAt c i m → Ends m.address (rounded_up 4096 m.size)
  -- it holds the pages that it has a byte on, and these whole
  pub pages : (i : ℕ) (m : Module) (a : ℕ) → ModuleAt c i m → HoldsAddress a m ↔ OnPage a m
  -- its rounded end passes another's address just where its plain end does: modules that do not overlap share no page
  pub apart : (i j : ℕ) (m n : Module) → ModuleAt c i m → ModuleAt c j n
      → (m.address + m.size ≤ n.address) ↔ (m.address + rounded_up 4096 m.size ≤ n.address)

pub record LastPage : Type 0 where
  -- "addresses are page aligned, so the rounded end can't pass 2^64 where the plain one doesn't; prove that"
  pub ends : (address size : ℕ) → Multiple 4096 address → Ends address size ↔ Ends address (rounded_up 4096 size)
  pub contexts : (b : List ℕ) (c : Context) → HoldsContext 2 b c → FillsPages c
  -- "a size of 0 still holds nothing"
  pub empty : (m : Module) (a : ℕ) → m.size ≡ 0 → HoldsAddress a m → ⊥
  -- "A module of 4,097 bytes at 8,192 holds 16,383 and not 16,384."
  pub example : (m : Module) → m.address ≡ 8192 → m.size ≡ 4097 → HoldsAddress 16383 m × (HoldsAddress 16384 m → ⊥)
  -- rounded up in 64 bits this size would be 0: it is 2^64, and every address is held
  pub everywhere : (m : Module) (a : ℕ) → m.address ≡ 0 → m.size ≡ 18446744073709551615 → a < 18446744073709551616 → HoldsAddress a m

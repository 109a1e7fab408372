-- `ultra_questions::module::holds` meets its contract.
use Prim.Native.Nat.{ℕ, ◌≤◌}
use mathlib.Core.Path.{sym, ap₂, ◌∙◌}
use native.Mathlib.Omega.{arith}
use Rattle.ultra_format.proofs.Sizes.{module_least}
use Rattle.address_ranges.specs.Ranges.{pages_cover}
use Rattle.ultra_questions.proofs.BodyLaws.{no_module_law, is_module}
use Rattle.ultra_questions.proofs.module.holds.Goals as goal
use Rattle.ultra_questions.proofs.module.holds.Goals.{Else-load_u32-ne-MODULE}

-- a module has 96 bytes
least : (c : Else-load_u32-ne-MODULE) → 96 ≤ c.args.size
least c =
    module_least c.args.buf.now c.args.at c.args.size _ (sym c.load_u32.ensures ∙ c.if-load_u32-ne-MODULE.false) c.requires.at_value

pub returns-then-load_u32-ne-MODULE : goal.returns-then-load_u32-ne-MODULE
returns-then-load_u32-ne-MODULE c =
    let s = c.args in
    no_module_law s.buf.now s.at s.size _ s.address (λ e. c.if-load_u32-ne-MODULE.true (c.load_u32.ensures ∙ e))

pub load_u64-requires : goal.load_u64-requires
load_u64-requires c = omega (arith, least (goal.at.load_u64-requires c).Else-load_u32-ne-MODULE)

pub load_u64-requires-2 : goal.load_u64-requires-2
load_u64-requires-2 c = omega (arith, least (goal.at.load_u64-requires-2 c).Else-load_u32-ne-MODULE)

pub returns : goal.returns
returns c =
    let s = c.args in
    c.pages_cover.ensures
    ∙ ap₂ (λ (p n : ℕ). pages_cover p n s.address) c.load_u64.ensures c.load_u64-2.ensures
    ∙ is_module s.buf.now s.at s.size _ s.address (sym c.load_u32.ensures ∙ c.if-load_u32-ne-MODULE.false)

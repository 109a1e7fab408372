-- `ultra_members::map::check` meets its contract: a size that suits the table is the one that its entries are written with.
use Prim.Native.Nat.{◌+◌, ◌-◌, ◌*◌, ◌/◌}
use mathlib.Core.Path.{◌≡◌, ◌∙◌, ap}
use native.Mathlib.Omega.{arith}
use Rattle.ultra_format.specs.Contexts.{Body.memory_map}
use Rattle.ultra_format.specs.Members.{body_check}
use Rattle.ultra_format.specs.Decoding.{entries_at}
use Rattle.ultra_rules.proofs.Judged.{misfits}
use Rattle.ultra_members.proofs.Bodies.{map_misfits}
use Rattle.refusals.specs.Answers.{checked}
use Rattle.ultra_members.proofs.map.check.Goals as goal

pub returns-then-length-ne0 : goal.returns-then-length-ne0
returns-then-length-ne0 c = ap checked (misfits _ _ (map_misfits _ _ _ c.requires.1 c.if-length-ne0.true))

pub returns : goal.returns
returns c =
    let a = c.args in
    let n = (a.size - 8) / 24 in
    let e : 8 + 24 * n ≡ a.size = omega arith in
    c.entries_check.ensures ∙ ap checked (ap (λ k. body_check k (memory_map (entries_at a.bytes.now (a.at + 8) n))) e)

-- `payload` meets its contract.
use Prim.Native.Nat.{◌≤◌}
use mathlib.Core.Path.{ap, ◌∙◌}
use native.Mathlib.Omega.{arith}
use Rattle.ultra_format.specs.Decoding.{context_of}
use Rattle.export_list.specs.ExportList.{entries_of}
use Rattle.export_sizes.specs.Extents.{grown}
use Rattle.export_sizes.specs.declared.Extent.{Extent}
use Rattle.export_sizes.proofs.ExtentLaws.{grown_between, grown_entries}
use Rattle.export_sizes.proofs.payload.Goals as goal
use Rattle.export_sizes.proofs.payload.Goals.{After-agent-m, After-of_type-m-3}

-- before the records there is none
small : (c : After-agent-m) → (c.agent-m.result.count ≤ 0) × (c.agent-m.result.width ≤ 33)
small c = let e = c.agent-m.ensures in (omega (arith, ap (λ (m : Extent). m.count) e.0), e.1)

-- after each type but the last
most : (c : After-of_type-m-3) → (c.of_type-m-3.result.count ≤ 201326592) × (c.of_type-m-3.result.width ≤ 201326625)
most c =
    let small' : (c.agent-m.result.count ≤ 0) × (c.agent-m.result.width ≤ 33) =
    let e = c.agent-m.ensures in (omega (arith, ap (λ (m : Extent). m.count) e.0), e.1) in
    let h = small' in
    let p = c.of_type-m.ensures in
    let q = c.of_type-m-2.ensures in
    let r = c.of_type-m-3.ensures in
    (omega (arith, h.0, p.1, q.1, r.1), omega (arith, h.1, p.2, q.2, r.2))

pub of_type-m-requires : goal.of_type-m-requires
of_type-m-requires c = let h = small (goal.at.of_type-m-requires c).After-agent-m in
    record { accepts = c.requires; count_bound = (omega (arith, h.0), omega (arith, h.1)) }

pub of_type-m-requires-2 : goal.of_type-m-requires-2
of_type-m-requires-2 c =
    let h = small (goal.at.of_type-m-requires-2 c).After-agent-m in
    let p = c.of_type-m.ensures in
    record { accepts = c.requires; count_bound = (omega (arith, h.0, p.1), omega (arith, h.1, p.2)) }

pub of_type-m-requires-3 : goal.of_type-m-requires-3
of_type-m-requires-3 c =
    let h = small (goal.at.of_type-m-requires-3 c).After-agent-m in
    let p = c.of_type-m.ensures in
    let q = c.of_type-m-2.ensures in
    record { accepts = c.requires; count_bound = (omega (arith, h.0, p.1, q.1), omega (arith, h.1, p.2, q.2)) }

pub of_type-m-requires-4 : goal.of_type-m-requires-4
of_type-m-requires-4 c = let h = most (goal.at.of_type-m-requires-4 c).After-of_type-m-3 in
    record { accepts = c.requires; count_bound = (omega (arith, h.0), omega (arith, h.1)) }

pub overflow_add-result : goal.overflow_add-result
overflow_add-result c = omega (arith, (most (goal.at.overflow_add-result c).After-of_type-m-3).0, c.of_type-m-4.ensures.1)

pub returns : goal.returns
returns c =
    let b = c.args.buf.now in
    let l = (context_of b).attributes in
    let s = c.of_type-m-4.ensures in
    let h = most (goal.at.returns c).After-of_type-m-3 in
    let all = grown_between l c.agent-m.result _ _ _ _ c.of_type-m.ensures.0 c.of_type-m-2.ensures.0 c.of_type-m-3.ensures.0 s.0 in (
      grown_entries l c.agent-m.result _ 0 0 all ∙ ap (λ (m : Extent). grown m (entries_of 0 0 l)) c.agent-m.ensures.0,
      omega (arith, h.0, s.1),
      omega (arith, h.1, s.2),
    )

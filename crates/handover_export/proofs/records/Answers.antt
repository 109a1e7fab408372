-- `records` meets its contract: SELF, what is between, and the end, each after those before it.
use Prim.Native.Nat.{ℕ, ◌+◌, ◌≤◌}
use mathlib.Core.Path.{◌≡◌, refl, ap, ◌∙◌}
use mathlib.Core.List.{List, [], ◌∷◌, ◌++◌}
use native.Mathlib.Omega.{arith}
use lib.ListN.{length, length-append}
use Rattle.byte_layout.specs.Stored.{closed}
use Rattle.ultra_format.specs.Decoding.{context_of}
use Rattle.handover_format.specs.Payloads.{handover_end, Entry, record_start}
use Rattle.handover_format.specs.Tags.{handover_self}
use Rattle.handover_format.specs.WrittenForm.{strings, rows_bytes}
use Rattle.handover_writing.specs.Stores.{put}
use Rattle.export_list.specs.ExportList.{bare, between, entries_of, agent_of}
use Rattle.export_list.proofs.SelfLaws.{entries_length, entries_strings}
use Rattle.export_sizes.specs.declared.Extent.{Extent}
use Rattle.export_records.specs.Rows.{RowsFit}
use Rattle.export_records.proofs.RowLaws.{rows_out, rows_front, rows_rest, rows_step}
use Rattle.handover_export.proofs.records.Goals as goal
use Rattle.handover_export.proofs.records.Goals.{After-agent-agent, After-bare-first}

abbrev first : ℕ → ℕ → List Entry
first load size = bare handover_self load size ∷ []

abbrev inner : List ℕ → List Entry
inner b = between (context_of b).attributes

abbrev last : List Entry
last = bare handover_end 0 0 ∷ []

-- all of them
abbrev all : List ℕ → ℕ → ℕ → List Entry
all b load size = entries_of load size (context_of b).attributes

-- there is room for all of them after the agent alone
all_fit : (b o : List ℕ) (load size : ℕ) (m : Extent) → record_start (length (inner b) + 2) ≤ length o
    → length (closed (agent_of (context_of b)) ++ strings (inner b)) ≤ 65536 → m.count ≡ 0 → m.width ≡ length (closed (agent_of (context_of b))) → RowsFit o m (all b load size)
all_fit b o load size m h g e f =
    let x = context_of b in
    let l = x.attributes in
    record {
      room = omega (arith, h, e, entries_length l load size);
      strings = omega (arith, g, f, length-append (closed (agent_of x)) (strings (between l)), ap length (entries_strings l load size));
    }

none : (c : After-agent-agent) → c.agent-agent.result.count ≡ 0
none c = ap (λ (m : Extent). m.count) c.agent-agent.ensures.0

named : (c : After-agent-agent) → c.agent-agent.result.width ≡ length (closed (agent_of (context_of c.args.buf.now)))
named c = ap (λ (m : Extent). m.width) c.agent-agent.ensures.0

fit : (c : After-agent-agent) → RowsFit c.args.out.now c.agent-agent.result (all c.args.buf.now c.args.load c.args.size)
fit c =
    let p = c.requires.buf_in_bounds in
    let e = c.agent-agent.ensures.0 in
    all_fit c.args.buf.now c.args.out.now c.args.load c.args.size c.agent-agent.result p.0 p.1 (ap (λ (m : Extent). m.count) e) (ap (λ (m : Extent). m.width) e)

rest : (c : After-bare-first) → RowsFit c.bare-first.new.out c.bare-first.result (inner c.args.buf.now ++ last)
rest c =
    let a = c.args in
    let p = c.requires.buf_in_bounds in
    let e = c.agent-agent.ensures.0 in
    let f = all_fit a.buf.now a.out.now a.load a.size c.agent-agent.result p.0 p.1 (ap (λ (m : Extent). m.count) e) (ap (λ (m : Extent). m.width) e) in
    rows_rest a.out.now c.agent-agent.result (first a.load a.size) (inner a.buf.now ++ last) (all a.buf.now a.load a.size) refl f _ _ c.bare-first.ensures c.bare-first.auto.out

pub bare-first-requires : goal.bare-first-requires
bare-first-requires c =
    let a = c.args in
    record { tag_value = (refl, refl); rows_fit = rows_front a.out.now c.agent-agent.result (first a.load a.size) (inner a.buf.now ++ last) (all a.buf.now a.load a.size) refl (fit (goal.at.bare-first-requires c).After-agent-agent) }

pub between-rest-requires : goal.between-rest-requires
between-rest-requires c =
    let i = inner c.args.buf.now in
    record { accepts = c.requires.accepts; rows_fit = rows_front c.bare-first.new.out c.bare-first.result i last (i ++ last) refl (rest (goal.at.between-rest-requires c).After-bare-first) }

pub bare-requires : goal.bare-requires
bare-requires c =
    let i = inner c.args.buf.now in
    record { tag_value = (refl, refl); rows_fit = rows_rest c.bare-first.new.out c.bare-first.result i last (i ++ last) refl (rest (goal.at.bare-requires c).After-bare-first) _ _ c.between-rest.ensures c.between-rest.auto.out }

pub returns : goal.returns
returns c =
    let a = c.args in
    let e = a.out.now in
    let i = inner a.buf.now in
    let all' = all a.buf.now a.load a.size in
    let n = none (goal.at.returns c).After-agent-agent in
    let w = named (goal.at.returns c).After-agent-agent in
    rows_out e _ c.agent-agent.result _ all'
    (c.bare.ensures
    ∙ rows_step c.bare-first.new.out c.bare-first.result i last (i ++ last) refl (rest (goal.at.returns c).After-bare-first) _ _ c.between-rest.ensures c.between-rest.auto.out
    ∙ rows_step e c.agent-agent.result (first a.load a.size) (i ++ last) all' refl (fit (goal.at.returns c).After-agent-agent) _ _ c.bare-first.ensures c.bare-first.auto.out)
    ∙ (λ j. put e (record_start (n j)) (rows_bytes (w j) all'))

-- `handover_writing::write` meets its contract: a refusal keeps the bytes; else each part is stored after those before it.
use Rattle.std.specs.Prelude.{Err}
use Prim.Native.Nat.{ℕ, ◌+◌}
use mathlib.Core.Path.{◌≡◌, refl, sym, ap, ◌∙◌}
use mathlib.Core.List.{◌++◌}
use native.Mathlib.Omega.{arith}
use lib.ListN.{length}
use Rattle.byte_layout.specs.Stored.{closed}
use Rattle.lent_buffers.specs.Room.{room_of}
use Rattle.refusals.specs.declared.Refusal.{Refusal}
use Rattle.handover_format.specs.Payloads.{record_start}
use Rattle.handover_format.specs.WrittenForm.{strings, payload_size}
use Rattle.handover_arguments.specs.PayloadGiven.{count_given, agent_given, entries_given}
use Rattle.handover_arguments.specs.Judging.{write_check}
use Rattle.handover_arguments.specs.Measures.{strings_start}
use Rattle.handover_arguments.proofs.GivenLaws.{length_entries}
use Rattle.handover_arguments.proofs.JudgeLaws.{Judged, judged}
use Rattle.handover_arguments.proofs.MeasureLaws.{size_given_law}
use Rattle.handover_writing.proofs.WriteLaws.{write_refused, write_done, assembled}
use Rattle.refusals.proofs.Chains.{broken, unbroken}
use Rattle.refusals.specs.Answers.{checked}
use Rattle.handover_writing.proofs.write.Goals as goal
use Rattle.handover_writing.proofs.write.Goals.{After-check, After-size-size, In_default}

said : (c : After-check) → let a = c.args in c.check.result ≡ checked (write_check a.records.now a.parts.now a.run.now (room_of a.buf.now))
said c = c.check.ensures ∙ ap checked (ap (write_check _ _ _) c.room.ensures)

-- what is given breaks no rule
sound : (c : In_default) → let a = c.args in write_check a.records.now a.parts.now a.run.now (room_of a.buf.now) ≡ 0
sound c =
    let said' : (let a = c.args in c.check.result ≡ checked (write_check a.records.now a.parts.now a.run.now (room_of a.buf.now))) =
    c.check.ensures ∙ ap checked (ap (write_check _ _ _) c.room.ensures) in
    unbroken _ (sym said' ∙ c.in_default.is)

good : (c : In_default) → let a = c.args in Judged a.records.now a.parts.now a.run.now (room_of a.buf.now)
good c = judged _ _ _ _ (sound c)

-- the size by numbers, and by the parts that are stored
fits : (c : In_default) → let a = c.args in
    let rs = a.records.now in
    let ps = a.parts.now in
    let run = a.run.now in
    let size = payload_size (agent_given ps run) (entries_given rs ps run) in
    (size ≡ record_start (count_given rs) + strings_start rs ps (count_given rs))
    × (size ≡ record_start (count_given rs) + length (closed (agent_given ps run) ++ strings (entries_given rs ps run)))
fits c =
    let a = c.args in
    let rs = a.records.now in
    let ps = a.parts.now in
    let run = a.run.now in
    (size_given_law rs ps run, ap (λ (n : ℕ). record_start n + length (closed (agent_given ps run) ++ strings (entries_given rs ps run))) (length_entries rs ps run 0 (count_given rs)))

-- what is answered as the size is it
sized : (c : After-size-size) → let a = c.args in
    c.size-size.result ≡ payload_size (agent_given a.parts.now a.run.now) (entries_given a.records.now a.parts.now a.run.now)
sized c =
    let good' : (let a = c.args in Judged a.records.now a.parts.now a.run.now (room_of a.buf.now)) =
    let said' : (let a = c.args in c.check.result ≡ checked (write_check a.records.now a.parts.now a.run.now (room_of a.buf.now))) =
    c.check.ensures ∙ ap checked (ap (write_check _ _ _) c.room.ensures) in
    judged _ _ _ _ (unbroken _ (sym said' ∙ c.in_default.is)) in
    let fits' : (let a = c.args in let rs = a.records.now in let ps = a.parts.now in let run = a.run.now in let size = payload_size (agent_given ps run) (entries_given rs ps run) in (size ≡ record_start (count_given rs) + strings_start rs ps (count_given rs)) × (size ≡ record_start (count_given rs) + length (closed (agent_given ps run) ++ strings (entries_given rs ps run)))) =
    let a = c.args in
    let rs = a.records.now in
    let ps = a.parts.now in
    let run = a.run.now in
    (size_given_law rs ps run, ap (λ (n : ℕ). record_start n + length (closed (agent_given ps run) ++ strings (entries_given rs ps run))) (length_entries rs ps run 0 (count_given rs))) in
    omega (arith, c.size-size.ensures, fits'.0, good'.within)

pub returns-in-Err : goal.returns-in-Err
returns-in-Err c =
    let a = c.args in
    let b = broken _ _ (sym (said (goal.at.returns-in-Err c).After-check) ∙ c.in-Err.is) in
    ap (λ (r : Refusal). (Err r, a.buf.now)) c.new.ensures
    ∙ write_refused a.buf.now a.records.now a.parts.now a.run.now _ (sym b.0) (λ z. b.1 (b.0 ∙ z))

pub size-size-requires : goal.size-size-requires
size-size-requires c = (omega arith, (good (goal.at.size-size-requires c).In_default).most)

pub overflow_cast-size : goal.overflow_cast-size
overflow_cast-size c = omega (arith, sized (goal.at.overflow_cast-size c).After-size-size, (good (goal.at.overflow_cast-size c).In_default).within)

pub overflow_cast-count : goal.overflow_cast-count
overflow_cast-count c = omega (arith, (good (goal.at.overflow_cast-count c).In_default).most)

pub head-requires : goal.head-requires
head-requires c = omega (arith, (good (goal.at.head-requires c).In_default).within)

pub rows-requires : goal.rows-requires
rows-requires c =
    let g = good (goal.at.rows-requires c).In_default in
    let z = fits (goal.at.rows-requires c).In_default in
    record { count_in_bounds = (omega arith, g.most, omega (arith, z.0, g.within)); count_bound = omega (arith, z.0, g.within) }

pub table-requires : goal.table-requires
table-requires c =
    let g = good (goal.at.table-requires c).In_default in
    record { count_in_bounds = (omega arith, g.most, g.strings); agent_part_value = (g.agent, omega (arith, (fits (goal.at.table-requires c).In_default).1, g.within)) }

pub returns : goal.returns
returns c =
    let a = c.args in
    let rs = a.records.now in
    let ps = a.parts.now in
    let run = a.run.now in
    write_done a.buf.now rs ps run _ _ _ refl (sound (goal.at.returns c).In_default) (sized (goal.at.returns c).After-size-size)
    (assembled a.buf.now _ _ _ (agent_given ps run) (entries_given rs ps run) (count_given rs) _ (sym (length_entries rs ps run 0 (count_given rs))) (sized (goal.at.returns c).After-size-size) (omega (arith, (good (goal.at.returns c).In_default).within))
    c.head.ensures (c.rows.ensures run) c.table.ensures)

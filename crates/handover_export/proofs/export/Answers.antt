-- `export` meets its contract: the reader's refusal, one of its own, or the payload.
use Prim.Native.Nat.{◌+◌, ◌*◌, ◌≤◌}
use mathlib.Core.Path.{◌≡◌, refl, sym, ap, ◌∙◌}
use native.Mathlib.Omega.{arith}
use lib.ListN.{length}
use Rattle.lent_buffers.specs.Room.{room_of}
use Rattle.refusals.specs.Answers.{Answer, checked}
use Rattle.ultra_format.specs.Decoding.{context_of}
use Rattle.ultra_locating.specs.Passing.{Accepts}
use Rattle.export_list.specs.ExportList.{entries_of, agent_of, export_size}
use Rattle.export_list.proofs.FirstPlatform.{first_room, rsdp_is}
use Rattle.export_list.proofs.SelfLaws.{size_same}
use Rattle.handover_export.specs.Exporting.{tests_of, export_check}
use Rattle.handover_export.proofs.ExportLaws.{count_is, size_is, none_given, unread, refused_by, exported_by}
use Rattle.refusals.proofs.Chains.{broken, unbroken}
use Rattle.handover_export.proofs.export.Goals as goal
use Rattle.handover_export.proofs.export.Goals.{After-check, After-payload-payload, In_default-check, In-Ok}

-- after the `let .. else`, reading has accepted the buffer
abbrev accepts : (c : In-Ok) → Accepts c.args.buf.now
accepts c = (_, sym c.used_length-answer.ensures ∙ c.in-Ok.is)

counts : (c : After-payload-payload) → c.payload-payload.result.count ≡ length (entries_of 0 0 (context_of c.args.buf.now).attributes)
counts c = count_is (agent_of (context_of c.args.buf.now)) _ _ c.payload-payload.ensures.0

sizes : (c : After-payload-payload) → 16 + 32 * c.payload-payload.result.count + c.payload-payload.result.width ≡ export_size (context_of c.args.buf.now)
sizes c = size_is (agent_of (context_of c.args.buf.now)) _ _ c.payload-payload.ensures.0

said : (c : After-check) → let a = c.args in c.check.result ≡ checked (export_check (context_of a.buf.now) a.load (room_of a.out.now))
said c =
    let a = c.args in
    let x = context_of a.buf.now in
    let y : Accepts a.buf.now = (_, sym c.used_length-answer.ensures ∙ c.in-Ok.is) in
    let n = count_is (agent_of x) _ _ c.payload-payload.ensures.0 in
    let z = size_is (agent_of x) _ _ c.payload-payload.ensures.0 in
    let r = c.rsdp-rsdp.ensures ∙ rsdp_is a.buf.now y in
    c.check.ensures ∙ (λ j. checked (tests_of (n j) (z j) a.load (r j) (c.room-room.ensures j)))

-- where none is given, the payload fits
fits : (c : In_default-check) → (c.payload-payload.result.count ≤ 1024) × (16 + 32 * c.payload-payload.result.count + c.payload-payload.result.width ≤ c.room-room.result)
fits c = none_given _ _ _ _ _ (unbroken _ (sym c.in_default-check.ensures))

pub returns-in_default : goal.returns-in_default
returns-in_default c =
    let a = c.args in
    let e = c.in_default.is in
    ap (λ (x : Answer). (x, a.out.now)) e ∙ unread a.buf.now a.load a.out.now _ (sym c.used_length-answer.ensures ∙ e)

pub payload-payload-requires : goal.payload-payload-requires
payload-payload-requires c = accepts (goal.at.payload-payload-requires c).In-Ok

pub rsdp-rsdp-requires : goal.rsdp-rsdp-requires
rsdp-rsdp-requires c = omega (arith, first_room c.args.buf.now (accepts (goal.at.rsdp-rsdp-requires c).In-Ok))

pub returns-in-Err : goal.returns-in-Err
returns-in-Err c =
    let a = c.args in
    let b = broken _ _ (sym (said (goal.at.returns-in-Err c).After-check) ∙ c.in-Err.is) in
    refused_by a.buf.now a.load a.out.now _ _ (accepts (goal.at.returns-in-Err c).In-Ok).1 (sym b.0) _ c.new.ensures (λ z. b.1 (b.0 ∙ z))

pub overflow_cast-payload : goal.overflow_cast-payload
overflow_cast-payload c = omega (arith, (fits (goal.at.overflow_cast-payload c).In_default-check).0)

pub overflow_cast-size : goal.overflow_cast-size
overflow_cast-size c = omega (arith, (fits (goal.at.overflow_cast-size c).In_default-check).1, c.room-room.ensures)

pub fill-requires : goal.fill-requires
fill-requires c =
    let a = c.args in
    let x = context_of a.buf.now in
    let f = (fits (goal.at.fill-requires c).In_default-check).1 in
    let r = c.room-room.ensures in
    record { accepts = accepts (goal.at.fill-requires c).In-Ok; count_value = (counts (goal.at.fill-requires c).After-payload-payload, sizes (goal.at.fill-requires c).After-payload-payload ∙ sym (size_same (agent_of x) a.load _ x.attributes), omega (arith, f, r), omega (arith, f, r)) }

pub overflow_cast-result : goal.overflow_cast-result
overflow_cast-result c = omega (arith, (fits (goal.at.overflow_cast-result c).In_default-check).1, c.room-room.ensures)

pub returns : goal.returns
returns c =
    let a = c.args in
    exported_by a.buf.now a.load a.out.now _ _ (accepts (goal.at.returns c).In-Ok).1 refl _ _ (unbroken _ (sym (said (goal.at.returns c).After-check) ∙ c.in_default-check.is)) (sizes (goal.at.returns c).After-payload-payload) c.fill.ensures

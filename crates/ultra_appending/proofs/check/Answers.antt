-- `ultra_appending::check` meets its contract: each return from the tests that lead there.
use Prim.Native.Nat.{ℕ, ◌≤◌, ◌<◌}
use mathlib.Core.Path.{◌≡◌, sym, ap, ◌∙◌}
use native.Mathlib.Omega.{arith}
use lib.ListN.{length}
use Rattle.refusals.specs.Answers.{checked, number_in}
use Rattle.refusals.proofs.Chains.{broken, unbroken, passed_on}
use Rattle.lent_buffers.specs.Room.{room_of}
use Rattle.ultra_format.specs.Places.{place_check}
use Rattle.ultra_format.specs.Decoding.{stored_count, types_before}
use Rattle.ultra_places.proofs.PlaceLaws.{length_types}
use Rattle.ultra_appending.proofs.Appending.{Read, was_read, stop_full, stop_place, stop_given, stop_room, pass}
use Rattle.ultra_appending.proofs.check.Goals as goal
use Rattle.ultra_appending.proofs.check.Goals.{After-next_place_check, In_ok-next_place_check, In_ok-judged, Start}

read : (s : Start) → Read s.args.buf.now s.args.used
read s = was_read _ _ s.requires.buf_value

-- there are as many types before as are counted
abbrev many : (s : Start) → length (types_before s.args.buf.now (stored_count s.args.buf.now)) ≡ stored_count s.args.buf.now
many s = length_types _ _

-- the place's number is of the stored count
placed : (c : After-next_place_check)
    → let b = c.args.buf.now in
    c.next_place_check.result ≡ checked (place_check (types_before b (stored_count b)) c.args.kind)
placed c =
    c.next_place_check.ensures ∙ ap (λ (n : ℕ). checked (place_check (types_before c.args.buf.now n) c.args.kind)) c.load_u32-count.ensures

few : (c : After-next_place_check)
    → let b = c.args.buf.now in length (types_before b (stored_count b)) < 1024
few c =
    let b = c.args.buf.now in
    let many' : length (types_before b (stored_count b)) ≡ stored_count b = length_types _ _ in
    omega (arith, c.load_u32-count.ensures, c.if-count-ge1024.false)

-- past the place's test
found : (c : In_ok-next_place_check)
    → let b = c.args.buf.now in
    place_check (types_before b (stored_count b)) c.args.kind ≡ 0
found c =
    let b = c.args.buf.now in
    let placed' : c.next_place_check.result ≡ checked (place_check (types_before b (stored_count b)) c.args.kind) =
    c.next_place_check.ensures ∙ ap (λ (n : ℕ). checked (place_check (types_before b n) c.args.kind)) c.load_u32-count.ensures in
    unbroken _ (sym placed' ∙ c.in_ok-next_place_check.was)

-- past the members' own
sound : (c : In_ok-judged) → number_in c.args.given ≡ 0
sound c = unbroken _ (sym c.in_ok-judged.ensures)

-- the room that is left
left : (c : Start) → c.args.used ≤ room_of c.args.buf.now
left c = (was_read _ _ c.requires.buf_value).within

pub load_u32-count-requires : goal.load_u32-count-requires
load_u32-count-requires c = omega (arith, read (goal.at.load_u32-count-requires c).Start)

pub returns-then-count-ge1024 : goal.returns-then-count-ge1024
returns-then-count-ge1024 c = ap checked (stop_full _ _ _ _ _ _ (omega (arith, many (goal.at.returns-then-count-ge1024 c).Start, c.load_u32-count.ensures, c.if-count-ge1024.true)))

pub next_place_check-requires : goal.next_place_check-requires
next_place_check-requires c = record { in_bounds = λ j l. (read (goal.at.next_place_check-requires c).Start).bounds j (omega (arith, l, c.load_u32-count.ensures)); le_kind = c.requires.le_kind }

pub returns-in_err-next_place_check : goal.returns-in_err-next_place_check
returns-in_err-next_place_check c =
    let e = sym (placed (goal.at.returns-in_err-next_place_check c).After-next_place_check) ∙ c.in_err-next_place_check.was in
    passed_on _ c.from_residual.ensures.1 ∙ sym e ∙ ap checked (stop_place _ _ _ _ _ _ (few (goal.at.returns-in_err-next_place_check c).After-next_place_check) (broken _ _ e).1)

pub returns-in_err-judged : goal.returns-in_err-judged
returns-in_err-judged c =
    let e = sym c.judged.ensures ∙ c.in_err-judged.was in
    passed_on _ c.from_residual-in_err-judged.ensures.1 ∙ sym e
    ∙ ap checked (stop_given _ _ _ _ _ _ (few (goal.at.returns-in_err-judged c).After-next_place_check) (found (goal.at.returns-in_err-judged c).In_ok-next_place_check) (broken _ _ e).1)

pub overflow_sub-room : goal.overflow_sub-room
overflow_sub-room c = omega (arith, left (goal.at.overflow_sub-room c).Start, c.room.ensures)

pub returns-then-room-used : goal.returns-then-room-used
returns-then-room-used c =
    ap checked (stop_room _ _ _ _ _ _ (few (goal.at.returns-then-room-used c).After-next_place_check) (found (goal.at.returns-then-room-used c).In_ok-next_place_check) (sound (goal.at.returns-then-room-used c).In_ok-judged) (omega (arith, left (goal.at.returns-then-room-used c).Start, c.room.ensures)))

pub returns : goal.returns
returns c =
    ap checked (pass _ _ _ _ _ _ (few (goal.at.returns c).After-next_place_check) (found (goal.at.returns c).In_ok-next_place_check) (sound (goal.at.returns c).In_ok-judged) (omega (arith, left (goal.at.returns c).Start, c.room.ensures)))

-- What is answered of calls that write, from the demand; the model's answers are found by computation.
use Rattle.std.specs.Prelude.{Ok}
use Prim.Native.Nat.{ℕ, ◌≤◌}
use mathlib.Core.Path.{◌≡◌, refl}
use mathlib.Core.Bool.{false}
use mathlib.Core.List.{List, []}
use native.Mathlib.Omega.{arith}
use lib.ListN.{length}
use Rattle.refusals.specs.Refusals.{FORM, ROOM}
use Rattle.refusals.specs.Answers.{Answer, refused}
use Rattle.ultra_format.specs.Contexts.{total}
use Rattle.lent_buffers.specs.Room.{room_of}
use Rattle.ultra_format.specs.Members.{every, size_suits, values, ascii_text, texts, ranges, ordered, body_check}
use Rattle.ultra_format.specs.Places.{placed, occurs, place_check}
use Rattle.ultra_format.specs.Plain.{written_size}
use Rattle.ultra_format.specs.Records.{trimmed}
use Rattle.ultra_format.specs.Additions.{Addition, Addition.add_platform, body_given, given_check}
use Rattle.ultra_format.specs.declared.records.ModuleRecord.{ModuleRecord}
use Rattle.ultra_stepping.specs.declared.cursor.Cursor.{Cursor}
use Rattle.ultra_appending.specs.Appending.{append_check}
use Rattle.ultra_building.specs.Building.{begun}
use Rattle.demand_3.specs.Witness.{every_platform_record}
use Rattle.demand_2.specs.Calls.{Members.platform_members, Write, Write.begin, Write.add, Write.add_members, Write.add_modules, Question.step}
use Rattle.demand_2.specs.Calls.{Call.write, Call.ask, Reply.answer}
use Rattle.demand_2.specs.CallsFromC.{AnyCall, AnyCall.from_rattle, run_any}
use Rattle.demand_2.specs.Arguments.{ModulesTyped, AllTyped}
use Rattle.demand_2.specs.Model.{attributes_given, types_after, giving, list_after_all, reply_to}
use Rattle.demand_2.specs.Demand2.{adds, buffer_now, list_now}
use Rattle.demand_2.specs.Witness.{six_additions, one, WritesAnswered}
use Rattle.demand_2.proofs.Demand2.{demand_2}
use Rattle.demand_2.proofs.Answered.{answered, typed_one}
use Rattle.demand_2.proofs.EveryCall.{one_listed}

-- no module is given
abbrev NoModules : Write → Type 0
NoModules w = (ms : List ModuleRecord) → w ≡ add_modules ms → ⊥

other : (w : Write) → NoModules w → (ms : List ModuleRecord) → write w ≡ write (add_modules ms) → ModulesTyped ms
other w n ms e = let q : w ≡ add_modules ms = cc in absurd (n ms q)

no_step : (w : Write) (j : Cursor) → write w ≡ ask (step j) → ⊥
no_step w j e = let z : ◌≡◌ {A = ℕ} 0 1 = cc in omega arith

begin_none : NoModules begin
begin_none ms e = let z : ◌≡◌ {A = ℕ} 0 1 = cc in omega arith

add_none : (g : Addition) → NoModules (add g)
add_none g ms e = let z : ◌≡◌ {A = ℕ} 0 1 = cc in omega arith

abbrev a_platform : Write
a_platform = add (add_platform every_platform_record.platform)

abbrev incomplete : Write
incomplete = add_members (platform_members false 2 0 0 [] 0 0 0 0 0)

incomplete_none : NoModules incomplete
incomplete_none ms e = let z : ◌≡◌ {A = ℕ} 0 1 = cc in omega arith

every_write_law : (b : List ℕ) (ks : List AnyCall) (w : Write) → (begun b).0 ≡ Ok 8 → AllTyped ks → NoModules w
    → (run_any (from_rattle (write w)) (buffer_now b ks)).0 ≡ reply_to (room_of b) (write w) (list_now b ks)
every_write_law b ks w e y n = demand_2.answers b ks (from_rattle (write w)) e y (other w n) (λ u. no_step w u.0 u.1)

-- by the list gs that the calls ks leave in a room
write_answered : (b : List ℕ) (room : ℕ) → room_of b ≡ room → 8 ≤ length b → (ks : List AnyCall) (gs : List Addition) → AllTyped ks → list_after_all room ks [] ≡ gs
    → (w : Write) → NoModules w → (a : Answer) → reply_to room (write w) gs ≡ answer a → (run_any (from_rattle (write w)) (buffer_now b ks)).0 ≡ answer a
write_answered b room r long ks gs y l w n a e = answered b room r long ks gs l y (from_rattle (write w)) (other w n) (λ u. no_step w u.0 u.1) (answer a) e

-- by computation
none_listed : (room : ℕ) → list_after_all room [] [] ≡ []
unfolding list_after_all
none_listed room = refl

begin_reply : reply_to 104 (write begin) one ≡ answer (Ok 8)
unfolding reply_to attributes_given total
begin_reply = refl

platform_replies : (reply_to 96 (write a_platform) [] ≡ answer (Ok 96)) × (reply_to 95 (write a_platform) [] ≡ answer (refused ROOM 8))
unfolding reply_to attributes_given types_after append_check place_check placed occurs body_given trimmed written_size given_check body_check size_suits values texts ascii_text every ranges ordered total
platform_replies = (refl, refl)

incomplete_reply : reply_to 96 (write incomplete) [] ≡ answer (refused FORM 8)
unfolding reply_to attributes_given types_after append_check place_check placed occurs written_size given_check body_check giving total
incomplete_reply = refl

no_calls : AllTyped []
unfolding AllTyped
no_calls = tt

pub writes_answered : AllTyped (adds six_additions) → WritesAnswered
writes_answered w =
    record {
      every = every_write_law;
      begun = λ b e. write_answered b 104 (omega arith) (omega arith) (adds one) one (typed_one w) one_listed begin begin_none _ begin_reply;
      added = λ b e. write_answered b 96 (omega arith) (omega arith) [] [] no_calls (none_listed 96) a_platform (add_none _) _ platform_replies.0;
      no_room = λ b e. write_answered b 95 (omega arith) (omega arith) [] [] no_calls (none_listed 95) a_platform (add_none _) _ platform_replies.1;
      members = λ b e. write_answered b 96 (omega arith) (omega arith) [] [] no_calls (none_listed 96) incomplete incomplete_none _ incomplete_reply;
    }

-- Several modules after a platform and a kernel, from the demand: what is answered where all fit, one does not, and one is refused, and what
-- then reads back. The model's list and answers are found by computation.
use Rattle.std.specs.Prelude.{Ok}
use Prim.Native.Nat.{ℕ, zero, suc, ◌≤◌, ◌<◌, ◌^◌}
use mathlib.Core.Path.{◌≡◌, refl, ap, ◌∙◌, subst}
use mathlib.Core.List.{List, [], ◌∷◌, ◌++◌}
use native.Mathlib.Omega.{arith}
use lib.ListN.{length, take, replicate}
use Rattle.refusals.specs.Refusals.{VALUE, ROOM}
use Rattle.refusals.specs.Answers.{refused}
use Rattle.ultra_format.specs.Contexts.{Context, total}
use Rattle.lent_buffers.specs.Room.{room_of}
use Rattle.ultra_format.specs.Members.{every, size_suits, kernel_values, module_values, values, ascii_text, path_text, texts, ranges, ordered, body_check}
use Rattle.ultra_format.specs.Places.{placed, occurs, place_check}
use Rattle.ultra_format.specs.Plain.{written_size}
use Rattle.ultra_format.specs.Records.{trimmed}
use Rattle.ultra_format.specs.Examples.{zeros}
use Rattle.ultra_format.specs.Additions.{Addition, Addition.add_module, entries_given, body_given, given_check}
use Rattle.ultra_format.specs.declared.records.ModuleRecord.{ModuleRecord}
use Rattle.ultra_appending.specs.Appending.{append_check}
use Rattle.ultra_modules.specs.Modules.{answer_and_count, in_turn, modules_added}
use Rattle.ultra_modules.specs.declared.ModulesAdded.{ModulesAdded}
use Rattle.demand_2.specs.Calls.{Write.add_modules, Call.write, Reply.several, run_write}
use Rattle.demand_2.specs.CallsFromC.{AnyCall, in_rattle, run_any, after}
use Rattle.demand_2.specs.Arguments.{ModuleTyped, ModulesTyped, AllTyped}
use Rattle.demand_2.specs.Model.{attributes_given, context_given, types_after, modules_listed, list_after_all, reply_to}
use Rattle.demand_2.specs.Demand2.{Undetermined, ReadsBack, adds, modules_given, buffer_now}
use Rattle.demand_2.specs.Witness.{six_additions, two, a_module, three_modules, four_modules, adding_modules, SeveralModules}
use Rattle.demand_2.proofs.EveryCall.{some_bytes, joined}
use Rattle.demand_2.proofs.Demand2.{demand_2}
use Rattle.demand_2.proofs.Answered.{list_now_law, answered, typed_two}

-- ---- arguments
typed_module : (kind : ℕ) → kind < 2 ^ 32 → ModuleTyped (a_module kind)
unfolding every
typed_module kind l = record { kind = l; name = (refl, some_bytes (109 ∷ zeros 63) refl); address = omega arith; size = omega arith }

typed_three : ModulesTyped three_modules
typed_three = (typed_module 1 (omega arith), (typed_module 2 (omega arith), (typed_module 1 (omega arith), tt)))

typed_four : ModulesTyped four_modules
typed_four = (typed_module 1 (omega arith), (typed_module 2 (omega arith), (typed_module 3 (omega arith), (typed_module 1 (omega arith), tt))))

-- ---- the list, and what it answers
abbrev with_two : List Addition
with_two = two ++ (add_module (a_module 1) ∷ add_module (a_module 2) ∷ [])

abbrev Listed : ℕ → List ModuleRecord → ModulesAdded → Type 0
Listed room ms r = (list_after_all room (adds two) [] ≡ two) × ((modules_listed room two ms).0 ≡ r)

listed : Listed 720 three_modules (answer_and_count (Ok 720) 3) × Listed 719 three_modules (answer_and_count (refused ROOM 624) 2) × Listed 720 four_modules (answer_and_count (refused VALUE 624) 2)
unfolding list_after_all adds modules_listed in_turn attributes_given types_after append_check place_check placed occurs body_given entries_given trimmed written_size given_check body_check size_suits values kernel_values module_values texts ascii_text path_text every ranges ordered total
listed = ((refl, refl), (refl, refl), (refl, refl))

abbrev calls : List AnyCall
calls = adds two ++ (adding_modules four_modules ∷ [])

listed_back : list_after_all 720 calls [] ≡ with_two
unfolding list_after_all adds modules_listed in_turn attributes_given types_after append_check place_check placed occurs body_given entries_given trimmed written_size given_check body_check size_suits values kernel_values module_values texts ascii_text path_text every ranges ordered total
listed_back = refl

no_step : (room : ℕ) (c : Context) (ms : List ModuleRecord) → Undetermined room c (in_rattle (adding_modules ms)) → ⊥
no_step room c ms u = let e = u.1 in let z : ◌≡◌ {A = ℕ} 0 1 = cc in omega arith

typed_as : (ms : List ModuleRecord) → ModulesTyped ms → (l : List ModuleRecord) → in_rattle (adding_modules ms) ≡ write (add_modules l) → ModulesTyped l
typed_as ms y l e = let q : ms ≡ l = cc in subst ModulesTyped q y

-- ---- the buffer
module _ (w : AllTyped (adds six_additions)) (b : List ℕ) (room : ℕ) (e : room_of b ≡ room) (long : 8 ≤ length b) where
  modules_answered : (ms : List ModuleRecord) (r : ModulesAdded) → ModulesTyped ms → Listed room ms r
      → (run_any (adding_modules ms) (buffer_now b (adds two))).0 ≡ several r
  unfolding reply_to
  modules_answered ms r y l =
      answered b room e long (adds two) two l.0 (typed_two w) (adding_modules ms) (typed_as ms y) (no_step room (context_given two) ms) (several r) (ap several l.1)

  typed_calls : AllTyped calls
  unfolding AllTyped
  typed_calls = joined (adds two) (adding_modules four_modules ∷ []) (typed_two w) (typed_four, tt)

  read_back : list_after_all room calls [] ≡ with_two → ReadsBack (buffer_now b calls) with_two
  read_back l =
      let q = list_now_law b room e long calls with_two l in
      subst (ReadsBack (buffer_now b calls)) q (demand_2.reads_back b calls (demand_2.begins b long).0 typed_calls (rw q (omega arith)))

unchanged : (b : List ℕ) (ms : List ModuleRecord) → (modules_added b ms).0.added ≡ 0 → (run_any (adding_modules ms) b).1 ≡ b
unfolding modules_given adds after run_write
unchanged b ms z = (demand_2.stays b ms).0 ∙ ap (λ (n : ℕ). after (adds (modules_given (take n ms))) b) z

typed_any : (n : ℕ) → ModulesTyped (replicate n (a_module 1))
typed_any zero = tt
typed_any (suc n) = (typed_module 1 (omega arith), typed_any n)

no_modules_law : (b : List ℕ) → run_any (adding_modules []) b ≡ (several (answer_and_count (Ok 0) 0), b)
unfolding run_write modules_added in_turn
no_modules_law b = refl

pub several_modules : AllTyped (adds six_additions) → SeveralModules
several_modules w =
    record {
      all = λ b e. modules_answered w b 720 (omega arith) (omega arith) three_modules _ typed_three listed.0;
      no_room = λ b e. modules_answered w b 719 (omega arith) (omega arith) three_modules _ typed_three listed.1;
      third = λ b e. modules_answered w b 720 (omega arith) (omega arith) four_modules _ typed_four listed.2;
      back = λ b e. read_back w b 720 (omega arith) (omega arith) listed_back;
      unchanged = unchanged;
      none = no_modules_law;
      appended = λ b c n h. demand_2.appends_modules b c (replicate n (a_module 1)) h (typed_any n);
    }

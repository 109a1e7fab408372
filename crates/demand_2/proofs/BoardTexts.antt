-- The command line after a platform and a kernel, from the demand: with a line, with an empty one, with none, and of one attribute, which
-- is refused. The model's list and answers are found by computation.
use Prim.Native.Nat.{ℕ, ◌+◌, ◌≤◌}
use mathlib.Core.Path.{◌≡◌, refl, subst}
use mathlib.Core.List.{List, [], ◌∷◌}
use native.Mathlib.Omega.{arith}
use lib.ListN.{length}
use denote.Ref.{Bor}
use Rattle.ultra_format.specs.Contexts.{Context, count, total}
use Rattle.lent_buffers.specs.Room.{room_of}
use Rattle.lent_buffers.specs.LentParts.{part}
use Rattle.ultra_format.specs.Members.{every, size_suits, kernel_values, values, ascii_text, path_text, texts, ranges, ordered, body_check}
use Rattle.ultra_format.specs.Places.{placed, occurs, place_check}
use Rattle.ultra_format.specs.Plain.{written_size}
use Rattle.ultra_format.specs.Records.{trimmed}
use Rattle.ultra_format.specs.Additions.{Addition, entries_given, body_given, given_check}
use Rattle.ultra_locating.specs.Searching.{first}
use Rattle.ultra_questions.specs.Parts.{body_part, part_bytes}
use Rattle.ultra_questions.specs.CommandLineQuestion.{LineHandedBack}
use Rattle.ultra_question_statements.specs.ByContext.{ByContext}
use Rattle.ultra_question_statements.proofs.ByContext.{questions_by_context}
use Rattle.ultra_question_statements.proofs.Witness.{pointers}
use Rattle.ultra_appending.specs.Appending.{append_check}
use Rattle.demand_2.specs.Calls.{Question.ask_line, Call.ask, Reply, Reply.lent, Reply.board_text}
use Rattle.demand_2.specs.CallsFromC.{in_rattle, run_any}
use Rattle.demand_2.specs.Arguments.{AllTyped}
use Rattle.demand_2.specs.Model.{attributes_given, context_given, types_after, replies_in, list_after_all, reply_to}
use Rattle.demand_2.specs.Demand2.{Follows, Undetermined, adds, buffer_now}
use Rattle.demand_2.specs.Witness.{six_additions, two, one, asking_line, two_and_line, BoardTexts}
use Rattle.demand_2.proofs.EveryCall.{some_bytes}
use Rattle.demand_2.proofs.Demand2.{demand_2}
use Rattle.demand_2.proofs.Replies.{held_two}
use Rattle.demand_2.proofs.Answered.{list_now_law, ModulesOf, answered, typed_one, typed_two}

-- ---- the list, and what it answers
abbrev Listed : ℕ → List ℕ → List Addition → Reply → Type 0
Listed room board gs r = (list_after_all room (adds gs) [] ≡ gs) × (reply_to room (ask (ask_line board)) gs ≡ r)

module _ (board : List ℕ) where
  listed : Listed 448 board (two_and_line (113 ∷ [])) (lent (part 440 1) (113 ∷ [])) × Listed 448 board (two_and_line []) (lent (part 440 0) []) × Listed 432 board two (board_text board) × Listed 96 board one (board_text board)
  unfolding list_after_all adds reply_to replies_in attributes_given types_after append_check place_check placed occurs body_given entries_given trimmed written_size given_check body_check size_suits values kernel_values texts ascii_text path_text every ranges ordered total first body_part part_bytes
  listed = ((refl, refl), (refl, refl), (refl, refl), (refl, refl))

  no_step : (room : ℕ) (c : Context) → Undetermined room c (in_rattle (asking_line board)) → ⊥
  no_step room c u = let e = u.1 in let z : ◌≡◌ {A = ℕ} 0 1 = cc in omega arith

  no_modules_law : ModulesOf (asking_line board)
  no_modules_law ms e = absurd (let z : ◌≡◌ {A = ℕ} 0 1 = cc in omega arith)

  line_answered : (b : List ℕ) (room : ℕ) → room_of b ≡ room → 8 ≤ length b → (gs : List Addition) (r : Reply) → AllTyped (adds gs) → Listed room board gs r
      → (run_any (asking_line board) (buffer_now b (adds gs))).0 ≡ r
  line_answered b room e long gs r y l = answered b room e long (adds gs) gs l.0 y (asking_line board) no_modules_law (no_step room (context_given gs)) r l.1

module _ (w : AllTyped (adds six_additions)) where
  typed_line : AllTyped (adds (two_and_line (113 ∷ []))) × AllTyped (adds (two_and_line []))
  unfolding AllTyped adds every
  typed_line = ((w.0, (w.1.0, (some_bytes (113 ∷ []) refl, tt))), (w.0, (w.1.0, (some_bytes [] refl, tt))))

  -- ---- the slices: the buffer holds the list, with two attributes or more
  held : (b : List ℕ) (room : ℕ) (gs : List Addition) → room_of b ≡ room → 8 ≤ length b → AllTyped (adds gs) → list_after_all room (adds gs) [] ≡ gs
      → 2 ≤ count (context_given gs) → ByContext (buffer_now b (adds gs)) (context_given gs)
  held b room gs e long y l k =
      let f = subst (Follows (buffer_now b (adds gs))) (list_now_law b room e long (adds gs) gs l) (demand_2.follows b (adds gs) (demand_2.begins b long).0 y) in
      questions_by_context (buffer_now b (adds gs)) (context_given gs) (held_two (buffer_now b (adds gs)) gs f k)

  empty_slice_law : (b : List ℕ) (handed s board : Bor (List ℕ)) → length b ≡ 448 → s.now ≡ buffer_now b (adds (two_and_line [])) → LineHandedBack handed s board
      → (handed.ref_ptr.0 ≡ s.ref_ptr.0) × (handed.ref_ptr.1 ≡ 440 + s.ref_ptr.1) × (handed.now ≡ [])
  unfolding attributes_given body_given written_size entries_given total first body_part part_bytes
  empty_slice_law b handed s board e q h =
      let w = (held b 448 (two_and_line []) (omega arith) (omega arith) typed_line.1 (listed []).1.0 (omega arith)).slice handed s board q h in
      (w.0.block, w.0.offset, w.1)

  board_slice_law : (b : List ℕ) (handed s board : Bor (List ℕ)) → length b ≡ 432 → s.now ≡ buffer_now b (adds two) → LineHandedBack handed s board
      → (handed.ref_ptr.0 ≡ board.ref_ptr.0) × (handed.ref_ptr.1 ≡ board.ref_ptr.1) × (handed.now ≡ board.now)
  unfolding attributes_given body_given written_size entries_given total first
  board_slice_law b handed s board e q h =
      pointers handed board ((held b 432 two (omega arith) (omega arith) (typed_two w) (listed []).2.0 (omega arith)).slice handed s board q h).0

  pub board_texts : BoardTexts
  board_texts =
      record {
        line = λ b board e. line_answered board b 448 (omega arith) (omega arith) (two_and_line (113 ∷ [])) _ typed_line.0 (listed board).0;
        empty_line = λ b board e. line_answered board b 448 (omega arith) (omega arith) (two_and_line []) _ typed_line.1 (listed board).1;
        no_line = λ b board e. line_answered board b 432 (omega arith) (omega arith) two _ (typed_two w) (listed board).2;
        empty_slice = empty_slice_law;
        board_slice = board_slice_law;
        unread = λ b board e. line_answered board b 96 (omega arith) (omega arith) one _ (typed_one w) (listed board).3;
      }

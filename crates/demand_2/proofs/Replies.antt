-- Every call answers by the list, where the buffer follows it.
use Rattle.std.specs.Prelude.{Err}
use Prim.Native.Nat.{ℕ, zero, suc, ◌+◌, ◌*◌, ◌%◌, ◌≤◌, ◌<◌}
use mathlib.Core.Path.{◌≡◌, refl, sym, ap, ap₂, ◌∙◌}
use mathlib.Core.Bool.{Bool, true, false, ◌&&◌}
use mathlib.Core.List.{List, []}
use native.Mathlib.Omega.{arith}
use lib.ListN.{length, take}
use lib.Seq.{get_or-take}
use lib.Dec.{leb, ltb, eqb}
use borrow.Author.Tests.{leb-true, leb-false, ltb-true, ltb-false, eqb-true}
use Rattle.words.specs.Words.{number_at, u32_at, numbers_in}
use Rattle.key_value_text.specs.Lines.{Line, lines_bytes}
use Rattle.byte_layout.specs.Stored.{bytes_at}
use Rattle.refusals.specs.Refusals.{MISSING}
use Rattle.refusals.specs.Answers.{Answer, refused}
use Rattle.ultra_format.specs.Contexts.{Context, count, used, total}
use Rattle.lent_buffers.specs.Room.{room_of}
use Rattle.ultra_format.specs.Layouts.{written}
use Rattle.ultra_format.specs.Rules.{Meets}
use Rattle.ultra_format.specs.Decoding.{pick, start, stored_count}
use Rattle.ultra_format.specs.Additions.{Addition, body_given, formed}
use Rattle.refusals.proofs.Chains.{both_hold}
use Rattle.ultra_format.proofs.Decoded.{decoded_only}
use Rattle.ultra_format.specs.declared.records.ModuleRecord.{ModuleRecord}
use Rattle.ultra_stepping.specs.Checks.{head_check, bounds_check}
use Rattle.ultra_reading.specs.Reading.{used_length, version_of, with_version, reading_of}
use Rattle.ultra_stepping.specs.Stepping.{cursor_check, step_refused, cursor_at, header_at, step_of, Step, steps_to, at_end}
use Rattle.ultra_stepping.specs.declared.cursor.Cursor.{Cursor}
use Rattle.ultra_stepping.proofs.HeadLaws.{HeadHolds, stop_missing, head_passes}
use Rattle.ultra_reading.proofs.ReadingLaws.{accepted_head, head_refuses}
use Rattle.ultra_acceptance.specs.Acceptance.{HoldsContext}
use Rattle.ultra_acceptance.proofs.Walked.{Accepted, accepted}
use Rattle.ultra_acceptance.proofs.Acceptance.{complete, rehoused, held_reading}
use Rattle.lent_buffers.specs.declared.Part.{Part}
use Rattle.lent_buffers.specs.LentParts.{no_part}
use Rattle.ultra_locating.specs.Searching.{Found, Found.none, Found.found}
use Rattle.ultra_questions.specs.Parts.{body_part}
use Rattle.ultra_question_statements.specs.ByContext.{ByContext}
use Rattle.ultra_question_statements.specs.QuestionRefusals.{PassesOn}
use Rattle.ultra_questions.specs.declared.attributes.AttributeAnswer.{AttributeAnswer}
use Rattle.ultra_questions.specs.AttributeQuestion.{attribute_answer}
use Rattle.ultra_map_question.specs.MapQuestion.{map_copied_bytes, over_bytes}
use Rattle.ultra_questions.specs.CommandLineQuestion.{line_in, found_part, found_text, line_found}
use Rattle.listing_format.specs.Listing.{context_lines, refused_lines, lines_of, text_listed, listed}
use Rattle.ultra_question_statements.proofs.ByContext.{questions_by_context}
use Rattle.ultra_question_statements.proofs.QuestionRefusals.{refusals_pass_on}
use Rattle.demand_3.specs.Demand3.{ReadingIs}
use Rattle.demand_3.proofs.Demand3.{demand_3}
use Rattle.demand_2.specs.Calls.{members_formed, members_body, Write.begin, Write.add, Write.add_members, Write.add_modules}
use Rattle.demand_2.specs.Calls.{Question, Question.read, Question.step, Question.ask_attribute, Question.ask_start, Question.ask_part, Question.copy_map, Question.copy_map_bytes}
use Rattle.demand_2.specs.Calls.{Question.ask_line, Question.locate_line, Question.ask_module, Question.list, Question.ask_listing_length}
use Rattle.demand_2.specs.Calls.{Call, Call.write, Call.ask, Reply, lent_part, lent_line, reply_of, run_write, run}
use Rattle.demand_2.specs.Calls.{Reply.answer, Reply.several, Reply.reading, Reply.stepped, Reply.attribute, Reply.located, Reply.lent, Reply.copied, Reply.number}
use Rattle.demand_2.specs.CallsFromC.{reply_crossed, AnyCall, in_rattle, run_any}
use Rattle.demand_2.specs.CallsFromC.{AnyCall.from_rattle, AnyCall.from_c}
use Rattle.demand_2.specs.Arguments.{ModulesTyped}
use Rattle.demand_2.specs.Model.{context_given, members_refusal, refusal_of, giving, too_few, step_within, step_in, part_in, line_reply, replies_in, reply_to, any_reply, attributes_given}
use Rattle.demand_2.specs.Demand2.{Follows, Undetermined}
use Rattle.demand_2.proofs.Following.{Keeps, says_given, begun_is, long, added_is, add_reply, modules_follow, crosses}
use Rattle.demand_2.proofs.GivenMembers.{members_size}

-- the number in the front of a list
number_front : (d : List ℕ) (u o k : ℕ) → o + k ≤ u → number_at d o k ≡ number_at (take u d) o k
unfolding number_at
number_front d u o zero h = refl
number_front d u o (suc k) h = ap₂ (λ (x n : ℕ). x + 256 * n) (sym (get_or-take u d o 0 (omega arith))) (number_front d u (o + 1) k (omega arith))

-- by whether the count is at least `fewest`
by_count : {X : Type 0} (c : Context) (fewest : ℕ) {r x y : X} → (fewest ≤ count c → r ≡ x) → (count c < fewest → r ≡ y) → r ≡ pick (leb fewest (count c)) x y
by_count c fewest {r} {x} {y} p q = go (leb fewest (count c)) refl
  where
    go : (t : Bool) → leb fewest (count c) ≡ t → r ≡ pick t x y
    go true e = p (leb-true fewest (count c) e)
    go false e = q (leb-false fewest (count c) e)

-- what a step answers after the tests of the head and the index
abbrev step_from : List ℕ → Cursor → Step
step_from b k =
    step_refused (cursor_check b k.offset) k.offset (steps_to (header_at b k.offset) (cursor_at (k.index + 1) (k.offset + u32_at b (k.offset + 4))))

-- what is answered of a map and of lines
abbrev copied_over : List ℕ → Answer × List ℕ → Reply
copied_over out r = copied (over_bytes out r)

abbrev lines_listed : List ℕ → List Line → Reply
lines_listed out ls = copied (text_listed (lines_bytes ls) out)

abbrev lines_counted : List Line → Reply
lines_counted ls = number (length (lines_bytes ls))

module _ (d : List ℕ) (gs : List Addition) (f : Follows d gs) where
  abbrev now : Context
  now = context_given gs

  -- ---- with `fewest` attributes or more, and with fewer
  enough_meets : (fewest : ℕ) → fewest ≤ count now → Meets fewest (room_of d) now
  enough_meets fewest l = let m = f.held.0 in rehoused m l m.within

  counts : stored_count d ≡ count now
  counts = (says_given d gs f).count

  head : HeadHolds 0 d
  head = accepted_head 0 d (used now) f.used_is

  head_enough : (fewest : ℕ) → fewest ≤ count now → head_check fewest d ≡ 0
  head_enough fewest l = sym (head_passes fewest d head.room head.major head.most (omega (arith, counts)))

  head_missing : (fewest : ℕ) → count now < fewest → head_check fewest d ≡ MISSING
  head_missing fewest l = sym (stop_missing fewest d head.room head.major head.most (omega (arith, counts)))

  missing : (fewest : ℕ) → count now < fewest → used_length fewest d ≡ Err too_few
  missing fewest l =
      let e = head_missing fewest l in
      sym (head_refuses fewest d (λ z. omega arith)) ∙ ap (λ (n : ℕ). refused n 0) e

  pub held_two : 2 ≤ count now → HoldsContext 2 d now
  held_two l = (enough_meets 2 l, f.held.1)

  asked : 2 ≤ count now → ByContext d now
  asked l = questions_by_context d now (held_two l)

  unasked : count now < 2 → PassesOn d (Err too_few)
  unasked l = refusals_pass_on d _ (missing 2 l)

  -- ---- parts
  part_given : 2 ≤ count now → (i : ℕ) → lent_part d (attribute_answer d i).part ≡ part_in now i
  unfolding bytes_at
  part_given l i = go (ltb i (count now)) refl
    where
      r : ReadingIs d now
      r = demand_3.reads d now (held_two l)

      go : (t : Bool) → ltb i (count now) ≡ t → lent_part d (attribute_answer d i).part ≡ part_in now i
      go true e = let k = ltb-true i (count now) e in rw e (ap₂ lent (ap (λ (a : AttributeAnswer). a.part) (r.each i k)) (r.parts i k))
      go false e = rw (e, r.past i (ltb-false i (count now) e))

  no_part_law : count now < 2 → (i : ℕ) → lent_part d (attribute_answer d i).part ≡ lent no_part []
  unfolding bytes_at
  no_part_law l i = rw ((unasked l).attributes i)

  -- the line that is found has its text
  line_given : (board : List ℕ) (f : Found) → bytes_at d (found_part f).start (found_part f).length ≡ found_text [] f → lent_line d board f ≡ line_reply board f
  line_given board none e = refl
  line_given board (found o a) e = ap (lent (body_part o a.body)) e

  line_enough : 2 ≤ count now → (board : List ℕ) → lent_line d board (line_found d) ≡ line_reply board (line_in now)
  line_enough l board =
      let h = asked l in
      ap (lent_line d board) h.found ∙ line_given board (line_in now) (ap (λ (p : Part). bytes_at d p.start p.length) (sym h.line) ∙ h.text)

  reading_few : count now < 2 → reading_of d ≡ with_version (version_of d) (Err too_few)
  unfolding reading_of
  reading_few l = rw (missing 2 l)

  -- ---- steps
  accepts : Accepted 0 d (used now)
  accepts = accepted 0 d (used now) f.used_is

  start_eights : (i : ℕ) → i ≤ stored_count d → start d i % 8 ≡ 0
  unfolding start
  start_eights zero l = refl
  start_eights (suc i) l = omega (arith, start_eights i (omega arith), (accepts.each i l).bounds.eights)

  -- where a step's answer is determined, its cursor lies within the list or falls to a test that looks at no byte
  step_within_law : (k : Cursor) → 2 ≤ count now → k.index < count now → (Undetermined (room_of d) now (ask (step k)) → ⊥)
      → step_from d k ≡ step_within (room_of d) (written now) k
  unfolding cursor_check bounds_check
  step_within_law k two l n = go (leb 8 k.offset && eqb (k.offset % 8) 0) (leb (k.offset + 8) (room_of d)) refl refl
    where
      front : (o : ℕ) → o + 4 ≤ used now → u32_at d o ≡ u32_at (written now) o
      front o h = number_front d (used now) o 4 h ∙ ap (λ (w : List ℕ). u32_at w o) f.bytes

      go : (t u : Bool) → (leb 8 k.offset && eqb (k.offset % 8) 0) ≡ t → leb (k.offset + 8) (room_of d) ≡ u
          → step_from d k ≡ step_within (room_of d) (written now) k
      go false u p q = rw p
      go true false p q = rw (p, q)
      go true true p q =
          let e = eqb-true (k.offset % 8) 0 (both_hold (leb 8 k.offset) _ p).1 in
          let r = leb-true (k.offset + 8) (room_of d) q in
          let h : k.offset < used now = below k.offset (used now) (λ h. n (k, refl, two, l, h, r, e)) in
          let z = start_eights (stored_count d) (omega arith) in
          let w : k.offset + 8 ≤ used now = omega (arith, accepts.used) in
          rw (front k.offset (omega arith), front (k.offset + 4) (omega arith))
        where
          below : (m n : ℕ) → (n ≤ m → ⊥) → m < n
          below m n h = omega arith

  step_enough : (k : Cursor) → 2 ≤ count now → (Undetermined (room_of d) now (ask (step k)) → ⊥) → step_of d k ≡ step_in (room_of d) now k
  unfolding step_of
  step_enough k two n = rw (head_enough 2 two, counts) (go (leb (count now) k.index) refl)
    where
      go : (t : Bool) → leb (count now) k.index ≡ t → pick t at_end (step_from d k) ≡ pick t at_end (step_within (room_of d) (written now) k)
      go true e = refl
      go false e = step_within_law k two (leb-false (count now) k.index e) n

  step_few : (k : Cursor) → count now < 2 → step_of d k ≡ Err too_few
  unfolding step_of
  step_few k l = rw (head_missing 2 l)

  -- ---- the listing
  lines_enough : 2 ≤ count now → lines_of d ≡ context_lines now
  unfolding lines_of
  lines_enough l =
      rw (complete 2 d now (enough_meets 2 l) f.held.1) (ap context_lines (sym (decoded_only 2 (room_of d) d now (enough_meets 2 l) f.held.1)))

  lines_few : count now < 2 → lines_of d ≡ refused_lines too_few
  unfolding lines_of
  lines_few l = rw (missing 2 l)

  -- ---- every question, with two attributes or more, and with fewer
  by_context : (q : Question) → (Undetermined (room_of d) now (ask q) → ⊥)
      → (2 ≤ count now → reply_of q d ≡ (replies_in (room_of d) now too_few q).0) × (count now < 2 → reply_of q d ≡ (replies_in (room_of d) now too_few q).1)
  unfolding reply_of replies_in map_copied_bytes listed
  by_context read n = (λ l. ap reading (held_reading d now (held_two l)), λ l. ap reading (reading_few l))
  by_context (step k) n = (λ l. ap stepped (step_enough k l n), λ l. ap stepped (step_few k l))
  by_context (ask_attribute i) n = (λ l. ap attribute ((asked l).attributes i), λ l. ap attribute ((unasked l).attributes i))
  by_context (ask_start i) n = (λ l. ap answer ((asked l).starts i), λ l. ap answer ((unasked l).starts i))
  by_context (ask_part i) n = (λ l. part_given l i, λ l. no_part_law l i)
  by_context (copy_map out) n = (λ l. ap copied ((asked l).maps out), λ l. ap copied ((unasked l).maps out))
  by_context (copy_map_bytes out) n = (λ l. ap (copied_over out) ((asked l).maps (numbers_in out)), λ l. ap (copied_over out) ((unasked l).maps (numbers_in out)))
  by_context (ask_line board) n = (λ l. line_enough l board, λ l. ap (lent_line d board) (unasked l).found)
  by_context locate_line n = (λ l. ap located (asked l).line, λ l. ap located (unasked l).line)
  by_context (ask_module a) n = (λ l. ap answer ((asked l).modules a), λ l. ap answer ((unasked l).modules a))
  by_context (list out) n = (λ l. ap (lines_listed out) (lines_enough l), λ l. ap (lines_listed out) (lines_few l))
  by_context ask_listing_length n = (λ l. ap lines_counted (lines_enough l), λ l. ap lines_counted (lines_few l))

  -- ---- every call
  pub replies_by_list : (k : Call) → Keeps d gs → ((ms : List ModuleRecord) → k ≡ write (add_modules ms) → ModulesTyped ms) → (Undetermined (room_of d) now k → ⊥) → (run k d).0 ≡ reply_to (room_of d) k gs
  unfolding run_write reply_to total attributes_given
  replies_by_list (ask q) h y n = by_count now 2 (by_context q n).0 (by_context q n).1
  replies_by_list (write begin) h y n = ap (λ (r : Answer × List ℕ). answer r.0) (begun_is d (long d gs f))
  replies_by_list (write (add g)) h y n =
      ap (λ (r : Answer × List ℕ). answer r.0) (added_is d gs f (formed g) (body_given g)) ∙ ap answer (add_reply d gs f (body_given g) g refl (refusal_of (room_of d) gs g))
  replies_by_list (write (add_members m)) h y n =
      ap (λ (r : Answer × List ℕ). answer r.0) (added_is d gs f (members_formed m) (members_body m))
      ∙ ap answer (add_reply d gs f (members_body m) (giving (members_body m)) (sym (members_size m)) (members_refusal (room_of d) gs (members_formed m) (members_body m)))
  replies_by_list (write (add_modules ms)) h y n = ap several (modules_follow d gs ms h (y ms refl)).0

  -- from Rattle or from C
  pub any_reply_law : (k : AnyCall) → Keeps d gs → ((ms : List ModuleRecord) → in_rattle k ≡ write (add_modules ms) → ModulesTyped ms)
      → (Undetermined (room_of d) now (in_rattle k) → ⊥) → (run_any k d).0 ≡ any_reply (room_of d) k gs
  any_reply_law (from_rattle k) h y n = replies_by_list k h y n
  any_reply_law (from_c k) h y n = ap (λ (r : Reply × List ℕ). r.0) (crosses d k) ∙ ap reply_crossed (replies_by_list (in_rattle (from_c k)) h y n)

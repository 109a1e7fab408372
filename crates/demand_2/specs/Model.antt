-- The model of demand 2: what each call does to a list and answers by it. The list has what was given to the adds, in their order, and
-- nothing else is kept; the room of the buffer is a constant.
-- A reader has to believe this file.
use Rattle.std.specs.Prelude.{ℕ, zero, suc, ◌+◌, ◌%◌, Bool, ◌&&◌, List, [], ◌∷◌, ◌++◌, length, leb, ltb, eqb, Ok, Err}
use Rattle.words.specs.Words.{u32_at, numbers_in}
use Rattle.key_value_text.specs.Lines.{lines_bytes}
use Rattle.refusals.specs.Refusals.{unless, MISSING, HEADER}
use Rattle.refusals.specs.Answers.{Answer, refusal, refused}
use Rattle.ultra_format.specs.Contexts.{Body, type_of, Attribute, Context, count, attribute_at, body_at, start_in, used}
use Rattle.ultra_format.specs.Contexts.{Body.platform, Body.kernel, Body.memory_map, Body.module_info, Body.command_line, Body.framebuffer, Body.other}
use Rattle.ultra_format.specs.Layouts.{written}
use Rattle.ultra_format.specs.Decoding.{pick}
use Rattle.ultra_format.specs.Plain.{written_size}
use Rattle.ultra_format.specs.Records.{platform_record, kernel_record, module_record, framebuffer_record}
use Rattle.ultra_format.specs.Additions.{Addition, type_given, attribute_given, body_given, formed, given_check}
use Rattle.ultra_format.specs.Additions.{Addition.add_platform, Addition.add_kernel, Addition.add_map, Addition.add_module, Addition.add_command_line, Addition.add_framebuffer}
use Rattle.refusals.specs.declared.Refusal.{Refusal}
use Rattle.ultra_format.specs.declared.records.ModuleRecord.{ModuleRecord}
use Rattle.ultra_stepping.specs.Checks.{bounds_check}
use Rattle.ultra_stepping.specs.Stepping.{cursor_at, header_at, step_refused_at, Step, steps_to, at_end}
use Rattle.ultra_stepping.specs.declared.cursor.Cursor.{Cursor}
use Rattle.ultra_acceptance.specs.Acceptance.{version_in}
use Rattle.lent_buffers.specs.LentParts.{no_part}
use Rattle.ultra_locating.specs.Searching.{Found, Found.none, Found.found}
use Rattle.ultra_questions.specs.Parts.{body_part, part_bytes}
use Rattle.ultra_questions.specs.AttributeQuestion.{unanswered, start_or_count, with_members}
use Rattle.ultra_map_question.specs.MapQuestion.{numbers, map_in, over_bytes}
use Rattle.ultra_questions.specs.CommandLineQuestion.{line_in, command_line_in}
use Rattle.ultra_questions.specs.ModuleQuestion.{module_in}
use Rattle.ultra_appending.specs.Appending.{append_check}
use Rattle.ultra_modules.specs.Modules.{in_turn}
use Rattle.ultra_modules.specs.declared.ModulesAdded.{ModulesAdded}
use Rattle.listing_format.specs.Listing.{context_lines, refused_lines, text_listed}
use Rattle.demand_2.specs.Calls.{members_formed, members_body, Write.begin, Write.add, Write.add_members, Write.add_modules}
use Rattle.demand_2.specs.Calls.{Question, Question.read, Question.step, Question.ask_attribute, Question.ask_start, Question.ask_part, Question.copy_map, Question.copy_map_bytes}
use Rattle.demand_2.specs.Calls.{Question.ask_line, Question.locate_line, Question.ask_module, Question.list, Question.ask_listing_length}
use Rattle.demand_2.specs.Calls.{Call, Call.write, Call.ask, Reply}
use Rattle.demand_2.specs.Calls.{Reply.answer, Reply.several, Reply.reading, Reply.stepped, Reply.attribute, Reply.located, Reply.lent, Reply.board_text, Reply.copied, Reply.number}
use Rattle.demand_2.specs.CallsFromC.{asked, reply_crossed, AnyCall, in_rattle}
use Rattle.demand_2.specs.CallsFromC.{AnyCall.from_rattle, AnyCall.from_c}
use Rattle.ultra_reading.specs.Reading.{read_as}

-- ---- the context that the list is
unfoldable pub attributes_given : List Addition → List Attribute
attributes_given [] = []
attributes_given (g ∷ gs) = attribute_given g ∷ attributes_given gs

abbrev pub context_given : List Addition → Context
context_given gs = record { major = 1; minor = 0; attributes = attributes_given gs }

-- the types of the list, the last first, in front of `before`
unfoldable pub types_after : List ℕ → List Addition → List ℕ
types_after before [] = before
types_after before (g ∷ gs) = types_after (type_given g ∷ before) gs

-- ---- adding: "adding acts as one more attribute at the end of a list or is refused"
-- the first of 17, 9 to 16 and 18, or 0, of members given, formed or not
abbrev pub members_refusal : ℕ → List Addition → Bool → Body → ℕ
members_refusal room gs formed x = append_check (types_after [] gs) room (used (context_given gs)) (type_of x) (given_check formed x) (written_size x)

abbrev pub refusal_of : ℕ → List Addition → Addition → ℕ
refusal_of room gs g = members_refusal room gs (formed g) (body_given g)

-- members that were given one by one stand in the list as the record that has them, the same that a question answers; no call gives a
-- type from 7 up
unfoldable pub giving : Body → Addition
giving (platform p) = add_platform (platform_record p)
giving (kernel k) = add_kernel (kernel_record k)
giving (memory_map es) = add_map (numbers es)
giving (module_info m) = add_module (module_record m)
giving (command_line t) = add_command_line t
giving (framebuffer f) = add_framebuffer (framebuffer_record f)
giving (other t) = add_command_line []

-- one more, or the same list
abbrev pub appended : ℕ → List Addition → Addition → List Addition
appended zero gs g = gs ++ (g ∷ [])
appended (suc n) gs g = gs

-- the used length of the list with it, or the refusal, "with the used length as offset"
abbrev pub add_answer : ℕ → List Addition → Addition → Answer
add_answer zero gs g = Ok (used (context_given (gs ++ (g ∷ []))))
add_answer (suc n) gs g = refused (suc n) (used (context_given gs))

-- several modules, in turn up to the first that is refused: what is answered, and the list afterwards
abbrev pub module_listed : ℕ → List Addition → ModuleRecord → Answer × List Addition
module_listed room gs m = let n = refusal_of room gs (add_module m) in (add_answer n gs (add_module m), appended n gs (add_module m))

unfoldable pub modules_listed : ℕ → List Addition → List ModuleRecord → ModulesAdded × List Addition
modules_listed room gs ms = in_turn (module_listed room) (Ok 0) 0 gs ms

-- ---- what a call does to the list
abbrev pub list_after : ℕ → Call → List Addition → List Addition
list_after room (ask q) gs = gs
list_after room (write begin) gs = []
list_after room (write (add g)) gs = appended (refusal_of room gs g) gs g
list_after room (write (add_members m)) gs = appended (members_refusal room gs (members_formed m) (members_body m)) gs (giving (members_body m))
list_after room (write (add_modules ms)) gs = (modules_listed room gs ms).1

unfoldable pub list_after_all : ℕ → List AnyCall → List Addition → List Addition
list_after_all room [] gs = gs
list_after_all room (k ∷ ks) gs = list_after_all room ks (list_after room (in_rattle k) gs)

-- ---- what a question answers by a context
-- a step from a cursor within the list: the tests of 5 to 8 on the bytes that the list is written in
abbrev pub step_within : ℕ → List ℕ → Cursor → Step
step_within room w k =
    step_refused_at (unless (leb 8 k.offset && eqb (k.offset % 8) 0) HEADER (bounds_check w room k.offset)) k.index k.offset
    (steps_to (header_at w k.offset) (cursor_at (k.index + 1) (k.offset + u32_at w (k.offset + 4))))

abbrev pub step_in : ℕ → Context → Cursor → Step
step_in room c k = pick (leb (count c) k.index) at_end (step_within room (written c) k)

-- the part of the attribute at an index
abbrev pub part_in : Context → ℕ → Reply
part_in c i = pick (ltb i (count c)) (lent (body_part (start_in c.attributes i) (body_at c i)) (part_bytes (body_at c i))) (lent no_part [])

-- "the context's own line where the context is accepted and has one, even an empty one, and otherwise the board's text"
abbrev pub line_reply : List ℕ → Found → Reply
line_reply board none = board_text board
line_reply board (found o a) = lent (body_part o a.body) (part_bytes a.body)

-- what a question answers: first of a buffer that holds c, second of one that reading refuses with r
unfoldable pub replies_in : ℕ → Context → Refusal → Question → Reply × Reply
replies_in room c r read = (reading (read_as (version_in c) (used c)), reading (Err r))
replies_in room c r (step k) = (stepped (step_in room c k), stepped (Err r))
replies_in room c r (ask_attribute i) = (attribute (with_members (attribute_at c i) (start_or_count c i)), attribute (unanswered (Err r)))
replies_in room c r (ask_start i) = (answer (start_or_count c i), answer (Err r))
replies_in room c r (ask_part i) = (part_in c i, lent no_part [])
replies_in room c r (copy_map out) = (copied (map_in c out), copied (Err r, out))
replies_in room c r (copy_map_bytes out) = (copied (over_bytes out (map_in c (numbers_in out))), copied (over_bytes out (Err r, numbers_in out)))
replies_in room c r (ask_line board) = (line_reply board (line_in c), board_text board)
replies_in room c r locate_line = (located (command_line_in c), located no_part)
replies_in room c r (ask_module a) = (answer (module_in c a), answer (Err r))
replies_in room c r (list out) = (copied (text_listed (lines_bytes (context_lines c)) out), copied (text_listed (lines_bytes (refused_lines r)) out))
replies_in room c r ask_listing_length = (number (length (lines_bytes (context_lines c))), number (length (lines_bytes (refused_lines r))))

-- ---- what a call answers by the list
-- "count below 2", with offset 0
abbrev pub too_few : Refusal
too_few = refusal MISSING 0

unfoldable pub reply_to : ℕ → Call → List Addition → Reply
reply_to room (ask q) gs = let c = context_given gs in let r = replies_in room c too_few q in pick (leb 2 (count c)) r.0 r.1
reply_to room (write begin) gs = answer (Ok (used (context_given [])))
reply_to room (write (add g)) gs = answer (add_answer (refusal_of room gs g) gs g)
reply_to room (write (add_members m)) gs =
    answer (add_answer (members_refusal room gs (members_formed m) (members_body m)) gs (giving (members_body m)))
reply_to room (write (add_modules ms)) gs = several (modules_listed room gs ms).0

-- the same toward C, as one number
abbrev pub any_reply : ℕ → AnyCall → List Addition → Reply
any_reply room (from_rattle k) gs = reply_to room k gs
any_reply room (from_c k) gs = reply_crossed (reply_to room (asked k) gs)

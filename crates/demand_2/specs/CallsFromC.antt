-- The calls toward C (crate ultra), as data: "called from the loader, which is written in C". What each answers is the definition that its
-- contract cites, crossed as one number; each is a call from Rattle (`asked`), so that one model serves both.
-- A reader has to believe this file.
use Rattle.std.specs.Prelude.{ℕ, true, List, [], ◌∷◌}
use Rattle.ultra_format.specs.Contexts.{Body.command_line}
use Rattle.ultra_format.specs.Additions.{Addition.add_command_line, Addition.add_framebuffer, platform_of, kernel_of, map_of, module_of, framebuffer_of, map_formed, guids_formed}
use Rattle.ultra_reading.specs.Reading.{reading_of}
use Rattle.ultra_stepping.specs.Stepping.{cursor_at, step_of}
use Rattle.ultra_questions.specs.AttributeQuestion.{attribute_start}
use Rattle.ultra_map_question.specs.MapQuestion.{map_copied_bytes}
use Rattle.ultra_questions.specs.CommandLineQuestion.{command_line_part}
use Rattle.ultra_questions.specs.ModuleQuestion.{module_holding}
use Rattle.ultra_adding.specs.Adding.{added_members}
use Rattle.ultra_building.specs.Building.{begun}
use Rattle.ultra_crossing.specs.Crossing.{answer_crossed, step_crossed, reading_crossed, part_crossed, crossed}
use Rattle.demand_2.specs.Calls.{Members.platform_members, Members.kernel_members, Members.map_members, Members.module_members}
use Rattle.demand_2.specs.Calls.{Write, Write.begin, Write.add, Write.add_members}
use Rattle.demand_2.specs.Calls.{Question, Question.read, Question.step, Question.ask_start, Question.copy_map_bytes, Question.locate_line, Question.ask_module}
use Rattle.demand_2.specs.Calls.{Call, run, Call.write, Call.ask}
use Rattle.demand_2.specs.Calls.{Reply, Reply.answer, Reply.several, Reply.reading, Reply.stepped, Reply.attribute, Reply.located, Reply.lent, Reply.board_text, Reply.copied, Reply.number, Reply.number_copied}

-- ---- the calls: those that write, and those that ask
pub data WriteFromC : Type 0 where
  ultra_begin : WriteFromC
  ultra_add_platform : (kind major minor : ℕ) (name : List ℕ) (rsdp base depth dtb smbios : ℕ) → WriteFromC
  ultra_add_kernel : (physical virtual size partition_type : ℕ) (disk partition : List ℕ) (disk_index partition_index : ℕ) (path : List ℕ) → WriteFromC
  ultra_add_map : (entries : List ℕ) → WriteFromC
  ultra_add_module : (kind : ℕ) (name : List ℕ) (address size : ℕ) → WriteFromC
  ultra_add_command_line : (text : List ℕ) → WriteFromC
  ultra_add_framebuffer : (width height pitch bpp format address : ℕ) → WriteFromC

pub data QuestionFromC : Type 0 where
  ultra_read : QuestionFromC
  ultra_step : (index offset : ℕ) → QuestionFromC
  ultra_attribute : (index : ℕ) → QuestionFromC
  ultra_copy_map : (out : List ℕ) → QuestionFromC
  ultra_command_line : QuestionFromC
  ultra_module_holding : (address : ℕ) → QuestionFromC

pub data CallFromC : Type 0 where
  write_from_c : WriteFromC → CallFromC
  ask_from_c : QuestionFromC → CallFromC

abbrev pub number_and : ℕ × List ℕ → Reply × List ℕ
number_and r = (number r.0, r.1)

-- what a call that writes answers, and the buffer afterwards
unfoldable pub run_write_from_c : WriteFromC → List ℕ → Reply × List ℕ
run_write_from_c ultra_begin b = number_and (crossed (begun b))
run_write_from_c (ultra_add_platform kind major minor name rsdp base depth dtb smbios) b =
    number_and (crossed (added_members b true (platform_of kind major minor name rsdp base depth dtb smbios)))
run_write_from_c (ultra_add_kernel physical virtual size partition_type disk partition disk_index partition_index path) b =
    number_and (crossed (added_members b (guids_formed disk partition) (kernel_of physical virtual size partition_type disk partition disk_index partition_index path)))
run_write_from_c (ultra_add_map entries) b = number_and (crossed (added_members b (map_formed entries) (map_of entries)))
run_write_from_c (ultra_add_module kind name address size) b = number_and (crossed (added_members b true (module_of kind name address size)))
run_write_from_c (ultra_add_command_line text) b = number_and (crossed (added_members b true (command_line text)))
run_write_from_c (ultra_add_framebuffer width height pitch bpp format address) b =
    number_and (crossed (added_members b true (framebuffer_of width height pitch bpp format address)))

-- what a question answers, by the buffer alone
unfoldable pub reply_from_c : QuestionFromC → List ℕ → Reply
reply_from_c ultra_read b = number (reading_crossed (reading_of b))
reply_from_c (ultra_step index offset) b = number (step_crossed (step_of b (cursor_at index offset)))
reply_from_c (ultra_attribute index) b = number (answer_crossed (attribute_start b index))
reply_from_c (ultra_copy_map out) b = number_copied (crossed (map_copied_bytes b out))
reply_from_c ultra_command_line b = number (part_crossed (command_line_part b))
reply_from_c (ultra_module_holding address) b = number (answer_crossed (module_holding b address))

-- a call on a buffer: its reply, and the buffer afterwards
abbrev pub run_from_c : CallFromC → List ℕ → Reply × List ℕ
run_from_c (write_from_c w) b = run_write_from_c w b
run_from_c (ask_from_c q) b = (reply_from_c q b, b)

-- ---- the call from Rattle that it is. "Every member is given": a platform from C is complete.
abbrev pub write_asked : WriteFromC → Write
write_asked ultra_begin = begin
write_asked (ultra_add_platform kind major minor name rsdp base depth dtb smbios) =
    add_members (platform_members true kind major minor name rsdp base depth dtb smbios)
write_asked (ultra_add_kernel physical virtual size partition_type disk partition disk_index partition_index path) =
    add_members (kernel_members physical virtual size partition_type disk partition disk_index partition_index path)
write_asked (ultra_add_map entries) = add_members (map_members entries)
write_asked (ultra_add_module kind name address size) = add_members (module_members kind name address size)
write_asked (ultra_add_command_line text) = add (add_command_line text)
write_asked (ultra_add_framebuffer width height pitch bpp format address) =
    add (add_framebuffer (record { width = width; height = height; pitch = pitch; bpp = bpp; format = format; address = address }))

abbrev pub question_asked : QuestionFromC → Question
question_asked ultra_read = read
question_asked (ultra_step index offset) = step (cursor_at index offset)
question_asked (ultra_attribute index) = ask_start index
question_asked (ultra_copy_map out) = copy_map_bytes out
question_asked ultra_command_line = locate_line
question_asked (ultra_module_holding address) = ask_module address

abbrev pub asked : CallFromC → Call
asked (write_from_c w) = write (write_asked w)
asked (ask_from_c q) = ask (question_asked q)

-- its reply as one number; records, slices and the board's text do not cross, and several modules have no call from C
abbrev pub reply_crossed : Reply → Reply
reply_crossed (answer a) = number (answer_crossed a)
reply_crossed (several s) = several s
reply_crossed (reading r) = number (reading_crossed r)
reply_crossed (stepped s) = number (step_crossed s)
reply_crossed (attribute a) = attribute a
reply_crossed (located p) = number (part_crossed p)
reply_crossed (lent p l) = lent p l
reply_crossed (board_text t) = board_text t
reply_crossed (copied r) = number_copied (crossed r)
reply_crossed (number n) = number n
reply_crossed (number_copied r) = number_copied r

-- ---- any call
pub data AnyCall : Type 0 where
  from_rattle : Call → AnyCall
  from_c : CallFromC → AnyCall

abbrev pub in_rattle : AnyCall → Call
in_rattle (from_rattle k) = k
in_rattle (from_c k) = asked k

abbrev pub run_any : AnyCall → List ℕ → Reply × List ℕ
run_any (from_rattle k) b = run k b
run_any (from_c k) b = run_from_c k b

-- the buffer after calls in a row
unfoldable pub after : List AnyCall → List ℕ → List ℕ
after [] b = b
after (k ∷ ks) b = after ks (run_any k b).1

-- what they give back, in their order
unfoldable pub replies : List AnyCall → List ℕ → List Reply
replies [] b = []
replies (k ∷ ks) b = (run_any k b).0 ∷ replies ks (run_any k b).1

-- Every call that the library publishes on a buffer, as data: what it answers and what it leaves in the buffer, by the definitions that
-- the contracts cite. Those toward C are CallsFromC. (`Cursor::first` takes no buffer; other `pub` functions are for the library's own
-- crates.)
-- A reader has to believe this file.
use Rattle.std.specs.Prelude.{ℕ, Bool, true, List, length}
use Rattle.byte_layout.specs.Stored.{bytes_at}
use Rattle.ultra_format.specs.Contexts.{Body}
use Rattle.ultra_format.specs.Additions.{Addition, platform_of, kernel_of, map_of, module_of, map_formed, guids_formed}
use Rattle.refusals.specs.Answers.{Answer}
use Rattle.ultra_reading.specs.Reading.{reading_of, Reading}
use Rattle.ultra_stepping.specs.Stepping.{step_of, Step}
use Rattle.ultra_stepping.specs.declared.cursor.Cursor.{Cursor}
use Rattle.lent_buffers.specs.declared.Part.{Part}
use Rattle.ultra_questions.specs.declared.attributes.AttributeAnswer.{AttributeAnswer}
use Rattle.ultra_locating.specs.Searching.{Found, Found.none, Found.found}
use Rattle.ultra_questions.specs.Parts.{body_part}
use Rattle.ultra_questions.specs.AttributeQuestion.{attribute_start, attribute_answer}
use Rattle.ultra_map_question.specs.MapQuestion.{map_copied, map_copied_bytes}
use Rattle.ultra_questions.specs.CommandLineQuestion.{line_found, command_line_part}
use Rattle.ultra_questions.specs.ModuleQuestion.{module_holding}
use Rattle.ultra_adding.specs.Adding.{added, added_members}
use Rattle.ultra_building.specs.Building.{begun}
use Rattle.ultra_format.specs.declared.records.ModuleRecord.{ModuleRecord}
use Rattle.ultra_modules.specs.Modules.{modules_added}
use Rattle.ultra_modules.specs.declared.ModulesAdded.{ModulesAdded}
use Rattle.listing_format.specs.Listing.{listing, listed}

-- what the adds of `ultra_building::members` are given: "numbers and byte slices"; `complete` says that no member is absent
pub data Members : Type 0 where
  platform_members : (complete : Bool) (kind major minor : ℕ) (name : List ℕ) (rsdp base depth dtb smbios : ℕ) → Members
  kernel_members : (physical virtual size partition_type : ℕ) (disk partition : List ℕ) (disk_index partition_index : ℕ) (path : List ℕ) → Members
  map_members : (entries : List ℕ) → Members
  module_members : (kind : ℕ) (name : List ℕ) (address size : ℕ) → Members

-- the flag and the body that their contracts cite
abbrev pub members_formed : Members → Bool
members_formed (platform_members complete kind major minor name rsdp base depth dtb smbios) = complete
members_formed (kernel_members physical virtual size partition_type disk partition disk_index partition_index path) = guids_formed disk partition
members_formed (map_members entries) = map_formed entries
members_formed (module_members kind name address size) = true

abbrev pub members_body : Members → Body
members_body (platform_members complete kind major minor name rsdp base depth dtb smbios) = platform_of kind major minor name rsdp base depth dtb smbios
members_body (kernel_members physical virtual size partition_type disk partition disk_index partition_index path) =
    kernel_of physical virtual size partition_type disk partition disk_index partition_index path
members_body (map_members entries) = map_of entries
members_body (module_members kind name address size) = module_of kind name address size

-- ---- the calls, each with what it is given beside the buffer; the comment before a case names the calls that it stands for
-- those that write: they are lent the buffer to write
pub data Write : Type 0 where
  -- `ultra_building::begin`
  begin : Write
  -- `ultra_building::add_platform`, `add_kernel`, `add_map`, `add_module`, `add_command_line`, `add_framebuffer`
  add : Addition → Write
  -- `ultra_building::members::add_platform`, `add_kernel`, `add_map`, `add_module`
  add_members : Members → Write
  -- `ultra_modules::add_modules`
  add_modules : List ModuleRecord → Write

-- those that ask: they are lent the buffer to read
pub data Question : Type 0 where
  -- `ultra_reading::read`
  read : Question
  -- `Cursor::step`
  step : Cursor → Question
  -- `ultra_questions::attribute`
  ask_attribute : ℕ → Question
  -- `ultra_questions::attribute_start`
  ask_start : ℕ → Question
  -- `ultra_questions::attribute_part`
  ask_part : ℕ → Question
  -- `ultra_questions::copy_map`
  copy_map : List ℕ → Question
  -- `ultra_questions::copy_map_bytes`
  copy_map_bytes : List ℕ → Question
  -- `ultra_questions::command_line`, with the board's text
  ask_line : List ℕ → Question
  -- `ultra_questions::command_line_part`
  locate_line : Question
  -- `ultra_questions::module_holding`
  ask_module : ℕ → Question
  -- `ultra_listing::list`
  list : List ℕ → Question
  -- `ultra_listing::listing_length`
  ask_listing_length : Question

pub data Call : Type 0 where
  write : Write → Call
  ask : Question → Call

-- what a call gives back. A part of the buffer is told by where it is and by its bytes, the board's text by its bytes; `copied` has the
-- lent output too.
pub data Reply : Type 0 where
  answer : Answer → Reply
  -- of several modules, with how many were added
  several : ModulesAdded → Reply
  reading : Reading → Reply
  stepped : Step → Reply
  attribute : AttributeAnswer → Reply
  located : Part → Reply
  lent : Part → List ℕ → Reply
  board_text : List ℕ → Reply
  copied : Answer × List ℕ → Reply
  number : ℕ → Reply
  -- toward C, with the lent output
  number_copied : ℕ × List ℕ → Reply

-- the part of the buffer
abbrev pub lent_part : List ℕ → Part → Reply
lent_part b p = lent p (bytes_at b p.start p.length)

-- the line's part of the buffer, or the board's text
abbrev pub lent_line : List ℕ → List ℕ → Found → Reply
lent_line b board none = board_text board
lent_line b board (found o a) = lent_part b (body_part o a.body)

abbrev pub answer_and : Answer × List ℕ → Reply × List ℕ
answer_and r = (answer r.0, r.1)

abbrev pub several_and : ModulesAdded × List ℕ → Reply × List ℕ
several_and r = (several r.0, r.1)

-- what a call that writes answers, and the buffer afterwards
unfoldable pub run_write : Write → List ℕ → Reply × List ℕ
run_write begin b = answer_and (begun b)
run_write (add g) b = answer_and (added b g)
run_write (add_members m) b = answer_and (added_members b (members_formed m) (members_body m))
run_write (add_modules ms) b = several_and (modules_added b ms)

-- what a question answers, by the buffer alone
unfoldable pub reply_of : Question → List ℕ → Reply
reply_of read b = reading (reading_of b)
reply_of (step k) b = stepped (step_of b k)
reply_of (ask_attribute i) b = attribute (attribute_answer b i)
reply_of (ask_start i) b = answer (attribute_start b i)
reply_of (ask_part i) b = lent_part b (attribute_answer b i).part
reply_of (copy_map out) b = copied (map_copied b out)
reply_of (copy_map_bytes out) b = copied (map_copied_bytes b out)
reply_of (ask_line board) b = lent_line b board (line_found b)
reply_of locate_line b = located (command_line_part b)
reply_of (ask_module a) b = answer (module_holding b a)
reply_of (list out) b = copied (listed b out)
reply_of ask_listing_length b = number (length (listing b))

-- a call on a buffer: its reply, and the buffer afterwards. A question leaves it as it is.
abbrev pub run : Call → List ℕ → Reply × List ℕ
run (write w) b = run_write w b
run (ask q) b = (reply_of q b, b)

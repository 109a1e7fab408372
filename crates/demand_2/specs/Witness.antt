-- Demand 2 does not speak of nothing: two contexts, built from their records in buffers of just their length, whatever those hold, are
-- the bytes that were written by hand (Examples, of crate ultra_format): the 480 of document 01's listing, and 640 with each of the six
-- types once, no two members of one record alike. Both are plain. And no premise of it excludes a call unnoticed: calls of every kind, a
-- second beginning among them, build the same 640 bytes; the widest arguments are of their types; two attributes are enough; a context
-- that another writer began is extended. Each is proved from the demand itself, in proofs/Witness.antt: `witnessed`.
-- A reader has to believe this file.
use Rattle.std.specs.Prelude.{ℕ, ◌+◌, ◌≤◌, ◌<◌, ◌⊎◌, true, false, ◌≡◌, List, [], ◌∷◌, ◌++◌, length, take, get_or, replicate, Ok, Some, None}
use Rattle.std.specs.Borrow.{Bor}
use Rattle.refusals.specs.Refusals.{SHORT, FORM, VALUE, ROOM}
use Rattle.refusals.specs.Answers.{Answer, refused, number_of}
use Rattle.ultra_format.specs.Decoding.{context_of}
use Rattle.ultra_format.specs.Contexts.{Context}
use Rattle.ultra_format.specs.Plain.{Plain}
use Rattle.lent_buffers.specs.Room.{room_of}
use Rattle.lent_buffers.specs.LentParts.{part}
use Rattle.ultra_format.specs.Examples.{zeros, junk, listed, listed_bytes, six_types, six_types_bytes}
use Rattle.ultra_format.specs.Additions.{Addition, body_given}
use Rattle.ultra_format.specs.Additions.{Addition.add_platform, Addition.add_kernel, Addition.add_map, Addition.add_module, Addition.add_command_line, Addition.add_framebuffer}
use Rattle.ultra_format.specs.declared.records.PlatformRecord.{PlatformRecord}
use Rattle.ultra_format.specs.declared.records.ModuleRecord.{ModuleRecord}
use Rattle.ultra_stepping.specs.Stepping.{cursor_at}
use Rattle.ultra_building.specs.Building.{begun}
use Rattle.ultra_adding.specs.Adding.{added}
use Rattle.ultra_modules.specs.Modules.{answer_and_count, modules_added}
use Rattle.ultra_acceptance.specs.Acceptance.{HoldsContext}
use Rattle.ultra_questions.specs.CommandLineQuestion.{LineHandedBack}
use Rattle.ultra_question_statements.specs.Witness.{every_line}
use Rattle.demand_3.specs.Witness.{every_platform_record, every_kernel_record, every_module_record, every_framebuffer_record, every_entries}
use Rattle.ultra_acceptance.specs.Steps.{StepsThrough}
use Rattle.demand_2.specs.Calls.{Members, members_body, Members.platform_members, Members.kernel_members, Members.map_members, Members.module_members}
use Rattle.demand_2.specs.Calls.{Write, Write.begin, Write.add, Write.add_members, Write.add_modules}
use Rattle.demand_2.specs.Calls.{Question, Question.read, Question.step, Question.ask_attribute, Question.ask_start, Question.ask_part, Question.copy_map, Question.copy_map_bytes}
use Rattle.demand_2.specs.Calls.{Question.ask_line, Question.locate_line, Question.ask_module, Question.list, Question.ask_listing_length}
use Rattle.demand_2.specs.Calls.{Call.write, Call.ask, Reply.answer, Reply.several, Reply.lent, Reply.board_text, Reply.number, run_write, run}
use Rattle.demand_2.specs.CallsFromC.{CallFromC, CallFromC.write_from_c, CallFromC.ask_from_c, run_from_c, asked, AnyCall, in_rattle, run_any, after, replies}
use Rattle.demand_2.specs.CallsFromC.{AnyCall.from_rattle, AnyCall.from_c}
use Rattle.demand_2.specs.CallsFromC.{QuestionFromC, QuestionFromC.ultra_read, QuestionFromC.ultra_step, QuestionFromC.ultra_attribute, QuestionFromC.ultra_copy_map, QuestionFromC.ultra_command_line, QuestionFromC.ultra_module_holding}
use Rattle.demand_2.specs.CallsFromC.{WriteFromC.ultra_begin, WriteFromC.ultra_add_platform, WriteFromC.ultra_add_kernel, WriteFromC.ultra_add_map, WriteFromC.ultra_add_module, WriteFromC.ultra_add_command_line, WriteFromC.ultra_add_framebuffer}
use Rattle.demand_2.specs.Arguments.{MembersTyped, AllTyped}
use Rattle.demand_2.specs.Model.{context_given, list_after_all, reply_to}
use Rattle.demand_2.specs.Demand2.{ReadsBack, adds, AllSucceeded, Appended, with_modules, buffer_now, list_now}

-- the records of 01's listing
abbrev pub listed_additions : List Addition
listed_additions =
    add_platform (record {
      kind = 2;
      loader_major = 1;
      loader_minor = 4;
      name = 102 ∷ 114 ∷ 111 ∷ 115 ∷ 116 ∷ zeros 27;
      rsdp = 917504;
      higher_half_base = Some 18446603336221196288;
      depth = Some 4;
      dtb = Some 0;
      smbios = Some 0;
    })
    ∷ add_kernel (record {
      physical_base = 2097152;
      virtual_base = 18446744071564165120;
      size = 65536;
      partition_type = 2;
      disk_guid = zeros 16;
      partition_guid = zeros 16;
      disk_index = 0;
      partition_index = 1;
      path = 47 ∷ 98 ∷ 111 ∷ 111 ∷ 116 ∷ 47 ∷ 107 ∷ zeros 249;
    })
    ∷ add_map (1048576 ∷ 1048576 ∷ 1 ∷ [])
    ∷ add_command_line (113 ∷ 117 ∷ 105 ∷ 101 ∷ 116 ∷ [])
    ∷ []

-- one of each type: the records that demand 3's witness has written out
abbrev pub six_additions : List Addition
six_additions =
    add_platform every_platform_record.platform
    ∷ add_kernel every_kernel_record.kernel
    ∷ add_map (0 ∷ 18446744073709547520 ∷ 1 ∷ 18446744073709547520 ∷ 4096 ∷ 4294967296 ∷ [])
    ∷ add_module every_module_record.«module»
    ∷ add_command_line every_line
    ∷ add_framebuffer every_framebuffer_record.framebuffer
    ∷ []

-- ---- calls of every kind
-- after a first beginning: two attributes and two modules, a beginning that empties the list, the six types in turn, an empty list of modules;
-- adds that are refused
abbrev pub every_write : List AnyCall
every_write =
    from_rattle (write (add (add_platform every_platform_record.platform)))
    ∷ from_c (write_from_c (ultra_add_kernel 4096 4096 4096 1 (zeros 16) (zeros 16) 0 0 (47 ∷ [])))
    ∷ from_rattle (write (add_modules (every_module_record.«module» ∷ every_module_record.«module» ∷ [])))
    ∷ from_c (write_from_c ultra_begin)
    ∷ from_rattle (write begin)
    ∷ from_rattle (write (add_members (platform_members true 67305985 258 772 (98 ∷ []) 578437695752307201 2314601843866147353 5 1157159078456920585 1735880461161533969)))
    ∷ from_c (write_from_c (ultra_add_kernel 4294971392 18446744071562072064 69632 3 every_kernel_record.kernel.disk_guid every_kernel_record.kernel.partition_guid 513 1027 (47 ∷ 107 ∷ 195 ∷ 169 ∷ [])))
    ∷ from_rattle (write (add_members (map_members every_entries)))
    ∷ from_c (write_from_c (ultra_add_module 2 (109 ∷ []) 8589934592 4097))
    ∷ from_rattle (write (add (add_command_line every_line)))
    ∷ from_c (write_from_c (ultra_add_framebuffer 1024 768 4096 32 3 18446744073706405888))
    ∷ from_rattle (write (add_modules []))
    -- refused: 9, 9, 9, 9, 10, 10, 11, 11, 11, 10, 10
    ∷ from_rattle (write (add_members (platform_members false 2 0 0 [] 0 0 0 0 0)))
    ∷ from_c (write_from_c (ultra_add_platform 2 0 0 [] 0 0 0 0 0))
    ∷ from_rattle (write (add (add_kernel every_kernel_record.kernel)))
    ∷ from_rattle (write (add_members (kernel_members 0 0 0 1 [] [] 0 0 (47 ∷ []))))
    ∷ from_rattle (write (add (add_map (0 ∷ 0 ∷ []))))
    ∷ from_c (write_from_c (ultra_add_map (0 ∷ [])))
    ∷ from_rattle (write (add (add_module every_module_record.«module»)))
    ∷ from_rattle (write (add_members (module_members 1 [] 0 0)))
    ∷ from_rattle (write (add_modules (every_module_record.«module» ∷ [])))
    ∷ from_c (write_from_c (ultra_add_command_line []))
    ∷ from_rattle (write (add (add_framebuffer every_framebuffer_record.framebuffer)))
    ∷ []

abbrev pub every_question : List Question
every_question =
    read
    ∷ step (cursor_at 0 8)
    ∷ ask_attribute 3
    ∷ ask_start 7
    ∷ ask_part 2
    ∷ copy_map (1 ∷ [])
    ∷ copy_map_bytes (1 ∷ [])
    ∷ ask_line (0 ∷ 255 ∷ [])
    ∷ locate_line
    ∷ ask_module 8589934592
    ∷ list (1 ∷ [])
    ∷ ask_listing_length
    ∷ []

abbrev pub every_question_from_c : List QuestionFromC
every_question_from_c = ultra_read ∷ ultra_step 0 8 ∷ ultra_attribute 3 ∷ ultra_copy_map (1 ∷ []) ∷ ultra_command_line ∷ ultra_module_holding 8589934592 ∷ []

unfoldable pub asks : List Question → List AnyCall
asks [] = []
asks (q ∷ qs) = from_rattle (ask q) ∷ asks qs

unfoldable pub asks_from_c : List QuestionFromC → List AnyCall
asks_from_c [] = []
asks_from_c (q ∷ qs) = from_c (ask_from_c q) ∷ asks_from_c qs

abbrev pub every_call : List AnyCall
every_call = every_write ++ (asks every_question ++ asks_from_c every_question_from_c)

-- n bytes of 255
abbrev pub ones : ℕ → List ℕ
ones n = replicate n 255

-- the widest arguments of each add: every number the largest of its width, every byte 255, and from C texts and GUIDs longer than any field
abbrev pub widest_calls : List AnyCall
widest_calls =
    from_rattle (write (add (add_platform (record {
      kind = 4294967295;
      loader_major = 65535;
      loader_minor = 65535;
      name = ones 32;
      rsdp = 18446744073709551615;
      higher_half_base = Some 18446744073709551615;
      depth = Some 255;
      dtb = Some 18446744073709551615;
      smbios = None;
    }))))
    ∷ from_rattle (write (add (add_kernel (record {
      physical_base = 18446744073709551615;
      virtual_base = 18446744073709551615;
      size = 18446744073709551615;
      partition_type = 18446744073709551615;
      disk_guid = ones 16;
      partition_guid = ones 16;
      disk_index = 4294967295;
      partition_index = 4294967295;
      path = ones 256;
    }))))
    ∷ from_rattle (write (add (add_map (18446744073709551615 ∷ 18446744073709551615 ∷ []))))
    ∷ from_rattle (write (add (add_module (record { kind = 4294967295; name = ones 64; address = 18446744073709551615; size = 18446744073709551615 }))))
    ∷ from_rattle (write (add (add_command_line (ones 9))))
    ∷ from_rattle (write (add (add_framebuffer (record { width = 4294967295; height = 4294967295; pitch = 4294967295; bpp = 65535; format = 65535; address = 18446744073709551615 }))))
    ∷ from_c (write_from_c (ultra_add_platform 4294967295 65535 65535 (ones 300) 18446744073709551615 18446744073709551615 255 18446744073709551615 18446744073709551615))
    ∷ from_c (write_from_c (ultra_add_kernel 18446744073709551615 18446744073709551615 18446744073709551615 18446744073709551615 (ones 17) (ones 300) 4294967295 4294967295 (ones 300)))
    ∷ from_c (write_from_c (ultra_add_map (ones 25)))
    ∷ from_c (write_from_c (ultra_add_module 4294967295 (ones 300) 18446744073709551615 18446744073709551615))
    ∷ from_rattle (write (add_modules (record { kind = 4294967295; name = ones 64; address = 18446744073709551615; size = 18446744073709551615 } ∷ [])))
    ∷ []

-- no late member
abbrev pub absent_platform : PlatformRecord
absent_platform =
    record {
      kind = 2;
      loader_major = 0;
      loader_minor = 0;
      name = zeros 32;
      rsdp = 0;
      higher_half_base = None;
      depth = None;
      dtb = None;
      smbios = None;
    }

-- ---- the witness
-- the additions give the context, and building it gives the bytes, in n bytes
pub record Built (gs : List Addition) (c : Context) (bytes : List ℕ) (n : ℕ) : Type 0 where
  pub typed : AllTyped (adds gs)
  pub list : context_given gs ≡ c
  pub kept : list_after_all n (adds gs) [] ≡ gs
  pub built : (b : List ℕ) → length b ≡ n → after (from_rattle (write begin) ∷ adds gs) b ≡ bytes
  pub accepted : (b : List ℕ) → length b ≡ n → AllSucceeded (replies (from_rattle (write begin) ∷ adds gs) b)
  pub plain : Plain bytes c
  pub holds : HoldsContext 2 bytes c

-- after `every_call`, in the least buffer and in one of more than 65,536 bytes
pub record EveryKind : Type 0 where
  pub typed : AllTyped every_call
  pub built : (b : List ℕ) → length b ≡ 640 → buffer_now b every_call ≡ six_types_bytes
  pub long : (b : List ℕ) → length b ≡ 65537 → take 640 (buffer_now b every_call) ≡ six_types_bytes
  -- answers that the list determines: the used length; the last attribute, the end; 5 past the room, and at no multiple of 8 past the used length
  pub read : (b : List ℕ) → length b ≡ 640 → (run_any (from_c (ask_from_c ultra_read)) (buffer_now b every_call)).0 ≡ number 640
  pub last : (b : List ℕ) → length b ≡ 640 → (run_any (from_c (ask_from_c (ultra_step 5 608))) (buffer_now b every_call)).0 ≡ number 640
  pub end : (b : List ℕ) → length b ≡ 65537 → (run_any (from_c (ask_from_c (ultra_step 6 640))) (buffer_now b every_call)).0 ≡ number 0
  -- 6 at 16, within the first attribute
  pub inside : (b : List ℕ) → length b ≡ 640 → (run_any (from_c (ask_from_c (ultra_step 0 16))) (buffer_now b every_call)).0 ≡ number 25769803792
  pub past_room : (b : List ℕ) → length b ≡ 640 → (run_any (from_c (ask_from_c (ultra_step 0 640))) (buffer_now b every_call)).0 ≡ number 21474837120
  pub crooked : (b : List ℕ) → length b ≡ 65537
      → (run_any (from_c (ask_from_c (ultra_step 0 644))) (buffer_now b every_call)).0 ≡ number 21474837124

-- ---- arguments, of any length
-- a line of any bytes, an empty map, no modules and a platform without late members are of their types; calls that are, one after the other, are; and
-- so are calls without an add
pub record AnyArguments : Type 0 where
  pub lines : (t : List ℕ) → ((i : ℕ) → get_or t i 0 < 256)
      → AllTyped (from_rattle (write (add (add_command_line t))) ∷ from_c (write_from_c (ultra_add_map t)) ∷ [])
  pub no_map : AllTyped (from_rattle (write (add (add_map []))) ∷ [])
  pub no_modules : AllTyped (from_rattle (write (add_modules [])) ∷ [])
  pub more_modules : (ms ns : List ModuleRecord) → AllTyped (from_rattle (write (add_modules ms)) ∷ from_rattle (write (add_modules ns)) ∷ [])
      → AllTyped (from_rattle (write (add_modules (ms ++ ns))) ∷ [])
  pub no_members : AllTyped (from_rattle (write (add (add_platform absent_platform))) ∷ [])
  pub joined : (ks js : List AnyCall) → AllTyped ks → AllTyped js → AllTyped (ks ++ js)
  pub reading : (k : AnyCall) → ((g : Addition) → in_rattle k ≡ write (add g) → ⊥) → ((m : Members) → in_rattle k ≡ write (add_members m) → ⊥)
      → ((ms : List ModuleRecord) → in_rattle k ≡ write (add_modules ms) → ⊥) → AllTyped (k ∷ [])

-- two attributes
abbrev pub two : List Addition
two = take 2 six_additions

-- with one, a step is 4 wherever its cursor points, also at silent bytes past the used length
abbrev pub one : List Addition
one = take 1 six_additions

pub record TwoAreEnough : Type 0 where
  pub one_is_not : (b : List ℕ) → length b ≡ 104 → (run_any (from_c (ask_from_c (ultra_step 0 96))) (buffer_now b (adds one))).0 ≡ number 17179869184
  pub back : (b : List ℕ) → length b ≡ 432 → ReadsBack (buffer_now b (adds two)) two
  pub through : (b : List ℕ) → length b ≡ 432 → StepsThrough (buffer_now b (adds two)) (context_given two)

-- what is answered of calls that write, other than several modules: of them nothing is asked, whichever they are
pub record WritesAnswered : Type 0 where
  pub every : (b : List ℕ) (ks : List AnyCall) (w : Write) → (begun b).0 ≡ Ok 8 → AllTyped ks
      → ((ms : List ModuleRecord) → w ≡ add_modules ms → ⊥)
      → (run_any (from_rattle (write w)) (buffer_now b ks)).0 ≡ reply_to (room_of b) (write w) (list_now b ks)
  pub begun : (b : List ℕ) → length b ≡ 104 → (run_any (from_rattle (write begin)) (buffer_now b (adds one))).0 ≡ answer (Ok 8)
  pub added : (b : List ℕ) → length b ≡ 96
      → (run_any (from_rattle (write (add (add_platform every_platform_record.platform)))) (buffer_now b [])).0 ≡ answer (Ok 96)
  pub no_room : (b : List ℕ) → length b ≡ 95
      → (run_any (from_rattle (write (add (add_platform every_platform_record.platform)))) (buffer_now b [])).0 ≡ answer (refused ROOM 8)
  pub members : (b : List ℕ) → length b ≡ 96
      → (run_any (from_rattle (write (add_members (platform_members false 2 0 0 [] 0 0 0 0 0)))) (buffer_now b [])).0 ≡ answer (refused FORM 8)

-- ---- several modules
-- a module of a type, which is refused as 13 if it is not 1 or 2
abbrev pub a_module : ℕ → ModuleRecord
a_module kind = record { kind = kind; name = 109 ∷ zeros 63; address = 4096; size = 4097 }

abbrev pub three_modules : List ModuleRecord
three_modules = a_module 1 ∷ a_module 2 ∷ a_module 1 ∷ []

-- the third is refused, and the fourth is not tried
abbrev pub four_modules : List ModuleRecord
four_modules = a_module 1 ∷ a_module 2 ∷ a_module 3 ∷ a_module 1 ∷ []

abbrev pub adding_modules : List ModuleRecord → AnyCall
adding_modules ms = from_rattle (write (add_modules ms))

-- after a platform and a kernel, which use 432 bytes; a module has 96
pub record SeveralModules : Type 0 where
  pub all : (b : List ℕ) → length b ≡ 720 → (run_any (adding_modules three_modules) (buffer_now b (adds two))).0 ≡ several (answer_and_count (Ok 720) 3)
  -- in a byte less, and with a refused module, two are added; the offset counts them
  pub no_room : (b : List ℕ) → length b ≡ 719
      → (run_any (adding_modules three_modules) (buffer_now b (adds two))).0 ≡ several (answer_and_count (refused ROOM 624) 2)
  pub third : (b : List ℕ) → length b ≡ 720
      → (run_any (adding_modules four_modules) (buffer_now b (adds two))).0 ≡ several (answer_and_count (refused VALUE 624) 2)
  -- they are in the list, and read back
  pub back : (b : List ℕ) → length b ≡ 720
      → ReadsBack (buffer_now b (adds two ++ (adding_modules four_modules ∷ []))) (two ++ (add_module (a_module 1) ∷ add_module (a_module 2) ∷ []))
  -- where none is added, any buffer is as it was
  pub unchanged : (b : List ℕ) (ms : List ModuleRecord) → (modules_added b ms).0.added ≡ 0 → (run_any (adding_modules ms) b).1 ≡ b
  -- with no modules, on any buffer
  pub none : (b : List ℕ) → run_any (adding_modules []) b ≡ (several (answer_and_count (Ok 0) 0), b)
  -- in any buffer that holds a context, and of any number of modules
  pub appended : (b : List ℕ) (c : Context) (n : ℕ) → HoldsContext 0 b c → let ms = replicate n (a_module 1) in
      HoldsContext 0 (modules_added b ms).1 (with_modules c (take (modules_added b ms).0.added ms))

-- ---- the command line, with any text of the board
abbrev pub asking_line : List ℕ → AnyCall
asking_line board = from_rattle (ask (ask_line board))

abbrev pub two_and_line : List ℕ → List Addition
two_and_line t = two ++ (add_command_line t ∷ [])

pub record BoardTexts : Type 0 where
  -- the line, and an empty one, lie after the two attributes' 432 bytes and their own header
  pub line : (b board : List ℕ) → length b ≡ 448
      → (run_any (asking_line board) (buffer_now b (adds (two_and_line (113 ∷ []))))).0 ≡ lent (part 440 1) (113 ∷ [])
  pub empty_line : (b board : List ℕ) → length b ≡ 448 → (run_any (asking_line board) (buffer_now b (adds (two_and_line [])))).0 ≡ lent (part 440 0) []
  -- no line; and one attribute, which is refused
  pub no_line : (b board : List ℕ) → length b ≡ 432 → (run_any (asking_line board) (buffer_now b (adds two))).0 ≡ board_text board
  pub unread : (b board : List ℕ) → length b ≡ 96 → (run_any (asking_line board) (buffer_now b (adds one))).0 ≡ board_text board
  -- the slices themselves, by the contract: the empty line in the buffer's memory, and the board's own memory
  pub empty_slice : (b : List ℕ) (handed s board : Bor (List ℕ)) → length b ≡ 448 → s.now ≡ buffer_now b (adds (two_and_line []))
      → LineHandedBack handed s board → (handed.ref_ptr.0 ≡ s.ref_ptr.0) × (handed.ref_ptr.1 ≡ 440 + s.ref_ptr.1) × (handed.now ≡ [])
  pub board_slice : (b : List ℕ) (handed s board : Bor (List ℕ)) → length b ≡ 432 → s.now ≡ buffer_now b (adds two)
      → LineHandedBack handed s board → (handed.ref_ptr.0 ≡ board.ref_ptr.0) × (handed.ref_ptr.1 ≡ board.ref_ptr.1) × (handed.now ≡ board.now)

-- a call from C that is refused changes nothing, in any buffer; and an add of members that changes a buffer is the add of a record
pub record FromCAndMembers : Type 0 where
  pub keeps : (b : List ℕ) (k : CallFromC) (a : Answer) → (run (asked k) b).0 ≡ answer a → (number_of a ≡ 0 → ⊥) → (run_from_c k b).1 ≡ b
  pub as_record : (b : List ℕ) (m : Members) → MembersTyped m → ((run_write (add_members m) b).1 ≡ b → ⊥)
      → (g : Addition) × (body_given g ≡ members_body m) × (run_write (add_members m) b ≡ run_write (add g) b)

-- a head of version 2.7 that counts nothing, its reserved bytes 165, and 93 bytes after it
abbrev pub other_head : List ℕ
other_head = 2 ∷ 7 ∷ 165 ∷ 165 ∷ 0 ∷ 0 ∷ 0 ∷ 0 ∷ junk 93

pub record Witnessed : Type 0 where
  -- "The whole listing of a context with four attributes": used=480
  pub listing : Built listed_additions listed listed_bytes 480
  -- "sizes as written (88, 336, 96, 32, least text size)": 8 + 88 + 336 + 56 + 96 + 24 + 32
  pub six : Built six_additions six_types six_types_bytes 640
  pub every : EveryKind
  pub widest : AllTyped widest_calls
  pub others : FromCAndMembers
  pub arguments : AnyArguments
  pub enough : TwoAreEnough
  pub writes : WritesAnswered
  pub modules : SeveralModules
  pub boards : BoardTexts
  -- whatever was built is plain
  pub plain : (b : List ℕ) (ks : List AnyCall) → (begun b).0 ≡ Ok 8 → AllTyped ks → Plain (buffer_now b ks) (context_given (list_now b ks))
  pub head : (b : List ℕ) → length b ≡ 8 → begun b ≡ (Ok 8, 1 ∷ zeros 7)
  pub headless : (b : List ℕ) → length b ≡ 7 → begun b ≡ (refused SHORT 0, b)
  pub other : Appended other_head (context_of other_head) (add_platform every_platform_record.platform) (added other_head (add_platform every_platform_record.platform)).1 96
  -- the bytes before the count, and those after the new attribute, stay
  pub other_kept : (i : ℕ) → (i < 4) ⊎ (96 ≤ i)
      → get_or (added other_head (add_platform every_platform_record.platform)).1 i 0 ≡ get_or other_head i 0

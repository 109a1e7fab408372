-- Demand 2 of the order, whole. "Reading and building follow the published Ultra layout as document 01 states it. From a first accepted
-- beginning on, over any sequence of calls on a buffer that nobody else writes and that is lent for nothing but its context, a beginning
-- empties a list and adding acts as one more attribute at the end of a list or is refused. With two or more, it reads back as the records
-- given; a plain context, built again from its reading, has the same bytes."
-- The layout is `layout` (crate ultra_format), which `follows` says of building and demand 3 of reading; bytes written by hand hold it to
-- document 01 (Examples, Witness).
-- What the calls do to a buffer is `run` (Calls) and, from C, `run_from_c` (CallsFromC); what they do to a list and answer by it is
-- `list_after` and `reply_to` (Model). Proved in proofs/Demand2.antt: `demand_2`.
-- Request R-1 of document 02 adds a call, several modules in one, and amends demand 1 for it (`stays`).
-- What is assumed: nobody else writes the buffer, so that a call finds what the call before left (`after`); it is lent for nothing but
-- its context, so that no text, map or output that a call is given beside it is a part of it (they are lists of their own); and
-- arguments of adds are of their types (`AllTyped`, Arguments).
-- A reader has to believe this file.
use Rattle.std.specs.Prelude.{ℕ, zero, suc, ◌+◌, ◌/◌, ◌%◌, ◌≤◌, ◌<◌, ◌≡◌, ◌⊎◌, List, [], ◌∷◌, ◌++◌, length, get_or, take, eqb, Ok, Err}
use Rattle.refusals.specs.Refusals.{SHORT, COUNT}
use Rattle.refusals.specs.Answers.{Answer, refused, number_of}
use Rattle.ultra_format.specs.Contexts.{Context, count, used}
use Rattle.byte_layout.specs.Fields.{cells, SilentAt}
use Rattle.lent_buffers.specs.Room.{room_of}
use Rattle.ultra_format.specs.Layouts.{attribute_fields, written}
use Rattle.ultra_format.specs.Plain.{Plain}
use Rattle.ultra_format.specs.Decoding.{pick, stored_count}
use Rattle.ultra_format.specs.Additions.{Addition, size_given, attribute_given, body_given}
use Rattle.ultra_format.specs.Additions.{Addition.add_platform, Addition.add_kernel, Addition.add_map, Addition.add_module, Addition.add_command_line, Addition.add_framebuffer}
use Rattle.refusals.specs.declared.Refusal.{Refusal}
use Rattle.ultra_reading.specs.Reading.{used_length, reading_of, read_as}
use Rattle.ultra_stepping.specs.declared.cursor.Cursor.{Cursor}
use Rattle.ultra_acceptance.specs.Acceptance.{HoldsContext, version_in}
use Rattle.ultra_acceptance.specs.Steps.{StepsThrough}
use Rattle.ultra_questions.specs.declared.attributes.AttributeAnswer.{AttributeAnswer}
use Rattle.ultra_questions.specs.AttributeQuestion.{unanswered, attribute_answer}
use Rattle.words.specs.Words.{numbers_at}
use Rattle.ultra_adding.specs.Adding.{added}
use Rattle.ultra_building.specs.Building.{begun}
use Rattle.ultra_format.specs.declared.records.ModuleRecord.{ModuleRecord}
use Rattle.ultra_modules.specs.Modules.{modules_added}
use Rattle.demand_3.specs.Demand3.{part_at}
use Rattle.demand_2.specs.Calls.{Members, members_body, Write.begin, Write.add, Write.add_members, Write.add_modules, Question.step}
use Rattle.demand_2.specs.Calls.{Call, Call.write, Call.ask, Reply, Reply.answer, run_write, run}
use Rattle.demand_2.specs.CallsFromC.{CallFromC, run_from_c, asked, reply_crossed, AnyCall, in_rattle, run_any, after, replies}
use Rattle.demand_2.specs.CallsFromC.{AnyCall.from_rattle}
use Rattle.demand_2.specs.Arguments.{AdditionTyped, MembersTyped, ModulesTyped, AllTyped}
use Rattle.demand_2.specs.Model.{attributes_given, context_given, giving, list_after_all, any_reply}

-- ---- a buffer compared with a list
pub record Follows (b : List ℕ) (gs : List Addition) : Type 0 where
  -- its bytes up to the used length are the layout of the list, silent bytes zero
  pub bytes : take (used (context_given gs)) b ≡ written (context_given gs)
  -- its count and its used length are the list's
  pub counted : stored_count b ≡ length gs
  pub used_is : used_length 0 b ≡ Ok (used (context_given gs))
  -- the list meets the rules, all but the lower limit of the count, in the buffer's room, and opens the buffer
  pub held : HoldsContext 0 b (context_given gs)

-- ---- the answers
-- The list determines the answer of every call but one: a step with two attributes or more, by a cursor with an index below the count
-- whose offset lies at or past the used length, at a multiple of 8 with 8 bytes of room. It answers by the bytes that stand there, which
-- are silent. (Its contract says what it answers.)
abbrev pub Undetermined : ℕ → Context → Call → Type 0
Undetermined room c k =
    (j : Cursor) × (k ≡ ask (step j)) × (2 ≤ count c) × (j.index < count c) × (used c ≤ j.offset) × (j.offset + 8 ≤ room) × (j.offset % 8 ≡ 0)

-- ---- reading back
-- what an answer to the attribute question, with the bytes of its part, gives to an add; nothing for a type from 7 up
unfoldable pub record_back : AttributeAnswer → List ℕ → List Addition
record_back a part =
    let t = a.header.kind in
    let r = a.records in
    pick (eqb t 1) (add_platform r.platform ∷ [])
    (pick (eqb t 2) (add_kernel r.kernel ∷ [])
    (pick (eqb t 3) (add_map (numbers_at part 0 (length part / 8)) ∷ [])
    (pick (eqb t 4) (add_module r.«module» ∷ [])
    (pick (eqb t 5) (add_command_line part ∷ [])
    (pick (eqb t 6) (add_framebuffer r.framebuffer ∷ [])
    [])))))

-- of the answer at index i
abbrev pub record_at : List ℕ → ℕ → List Addition
record_at b i = record_back (attribute_answer b i) (part_at b i)

-- "With two or more, it reads back as the records given"
pub record ReadsBack (b : List ℕ) (gs : List Addition) : Type 0 where
  pub whole : reading_of b ≡ read_as (version_in (context_given gs)) (used (context_given gs))
  pub each : (i : ℕ) → i < length gs → record_at b i ≡ get_or gs i (add_command_line []) ∷ []
  pub past : (i : ℕ) → length gs ≤ i → attribute_answer b i ≡ unanswered (refused COUNT (used (context_given gs)))

-- ---- building again
-- the records that the attribute question answers at the first n indices
unfoldable pub records_back : List ℕ → ℕ → List Addition
records_back b zero = []
records_back b (suc n) = records_back b n ++ record_at b n

unfoldable pub adds : List Addition → List AnyCall
adds [] = []
adds (g ∷ gs) = from_rattle (write (add g)) ∷ adds gs

-- "built again from its reading": a beginning, and an add of each record that was answered. From the count on none is: the reading itself
-- says where it ends
abbrev pub rebuilding : List ℕ → ℕ → List AnyCall
rebuilding b n = from_rattle (write begin) ∷ adds (records_back b n)

-- a beginning or an add that was not refused: its number is 0
abbrev pub Succeeded : Reply → Type 0
Succeeded r = (a : Answer) × (r ≡ answer a) × (number_of a ≡ 0)

unfoldable pub AllSucceeded : List Reply → Type 0
AllSucceeded [] = Unit {0}
AllSucceeded (r ∷ rs) = Succeeded r × AllSucceeded rs

-- in the buffer d, from the reading of b, which holds c
pub record Rebuilt (b d : List ℕ) (c : Context) : Type 0 where
  pub unrefused : AllSucceeded (replies (rebuilding b (count c)) d)
  pub same : take (used c) (after (rebuilding b (count c)) d) ≡ take (used c) b

-- ---- one more attribute
-- b, which holds c, has become d by an add of g that answered n
pub record Appended (b : List ℕ) (c : Context) (g : Addition) (d : List ℕ) (n : ℕ) : Type 0 where
  pub held : HoldsContext 0 d (record { major = c.major; minor = c.minor; attributes = c.attributes ++ (attribute_given g ∷ []) })
  pub answered : n ≡ used c + size_given g
  -- "silent bytes of the new attribute are zero"
  pub zeros : (i : ℕ) → SilentAt (cells (attribute_fields (attribute_given g))) i → i < size_given g → get_or d (used c + i) 0 ≡ 0
  -- "raises the head's count by one and changes no other byte"
  pub others : (i : ℕ) → (i < 4) ⊎ ((8 ≤ i) × (i < used c)) ⊎ (n ≤ i) → get_or d i 0 ≡ get_or b i 0

-- ---- several modules
-- as they stand in the list
unfoldable pub modules_given : List ModuleRecord → List Addition
modules_given [] = []
modules_given (m ∷ ms) = add_module m ∷ modules_given ms

-- the context with modules added at its end
abbrev pub with_modules : Context → List ModuleRecord → Context
with_modules c ms = record { major = c.major; minor = c.minor; attributes = c.attributes ++ attributes_given (modules_given ms) }

-- ---- members one by one
-- an add of members is the add of the record that has them; or it is refused, and changes nothing
abbrev pub AsRecord : List ℕ → Members → Type 0
AsRecord b m =
    let g = giving (members_body m) in
    ((r : Refusal) × (run_write (add_members m) b ≡ (answer (Err r), b))) ⊎ (AdditionTyped g × (body_given g ≡ members_body m) × (run_write (add_members m) b ≡ run_write (add g) b))

-- ---- the demand
-- b is a buffer whose beginning is accepted; ks are any calls after it
module _ (b : List ℕ) (ks : List AnyCall) where
  abbrev pub buffer_now : List ℕ
  buffer_now = after ks (begun b).1

  abbrev pub list_now : List Addition
  list_now = list_after_all (room_of b) ks []

pub record Demand2 : Type 0 where
  -- "a first accepted beginning": it is refused exactly where there is no room for the head, and then changes nothing; else nothing past
  -- the head
  pub begins : (b : List ℕ) → 8 ≤ length b → ((begun b).0 ≡ Ok 8) × ((i : ℕ) → 8 ≤ i → get_or (begun b).1 i 0 ≡ get_or b i 0)
  pub begins_not : (b : List ℕ) → length b < 8 → begun b ≡ (refused SHORT 0, b)
  -- "over any sequence of calls": after every call the buffer is as the list says. A beginning empties the list, an add that is not
  -- refused appends to it, several modules append those that are added, any other call leaves it (list_after)
  pub follows : (b : List ℕ) (ks : List AnyCall) → (begun b).0 ≡ Ok 8 → AllTyped ks → Follows (buffer_now b ks) (list_now b ks)
  pub same_length : (b : List ℕ) (ks : List AnyCall) → (begun b).0 ≡ Ok 8 → AllTyped ks → length (buffer_now b ks) ≡ length b
  -- and every answer is the one that the list determines; of several modules where they are of their types, since a later one is answered
  -- after those before it were stored
  pub answers : (b : List ℕ) (ks : List AnyCall) (k : AnyCall) → (begun b).0 ≡ Ok 8 → AllTyped ks
      → ((ms : List ModuleRecord) → in_rattle k ≡ write (add_modules ms) → ModulesTyped ms)
      → (Undetermined (room_of b) (context_given (list_now b ks)) (in_rattle k) → ⊥)
      → (run_any k (buffer_now b ks)).0 ≡ any_reply (room_of b) k (list_now b ks)
  -- steps by the list's own cursors go through it
  pub steps : (b : List ℕ) (ks : List AnyCall) → (begun b).0 ≡ Ok 8 → AllTyped ks → 2 ≤ length (list_now b ks)
      → StepsThrough (buffer_now b ks) (context_given (list_now b ks))
  -- "called from the loader, which is written in C": a call from C does what the call from Rattle does, and its answer is that call's as
  -- one number
  pub crosses : (b : List ℕ) (k : CallFromC) → run_from_c k b ≡ (reply_crossed (run (asked k) b).0, (run (asked k) b).1)
  -- "records given cross as numbers and byte slices", in any buffer
  pub members : (b : List ℕ) (m : Members) → MembersTyped m → AsRecord b m
  -- "or is refused": a beginning or an add that is refused leaves every byte, in any buffer. A question leaves them whatever it answers
  -- (`run`)
  pub refusals : (b : List ℕ) (k : Call) (a : Answer) → (run k b).0 ≡ answer a → (number_of a ≡ 0 → ⊥) → (run k b).1 ≡ b
  -- R-1: "What went before the refused module stays": whatever is answered of several modules, the buffer is as single adds of those that
  -- were added leave it, and each of these succeeds. With none added that is the buffer as it was. "this amends demand 1 .. for this call
  -- only": every other call that writes is one of `refusals`. (OneByOne, of crate ultra_modules, by the calls of a sequence.)
  pub stays : (b : List ℕ) (ms : List ModuleRecord)
      → ((modules_added b ms).1 ≡ after (adds (modules_given (take (modules_added b ms).0.added ms))) b)
      × AllSucceeded (replies (adds (modules_given (take (modules_added b ms).0.added ms))) b)
  -- beyond the order: adding to any buffer that holds a context, also one that another writer began, appends exactly the attribute given
  pub appends : (b : List ℕ) (c : Context) (g : Addition) (n : ℕ) → HoldsContext 0 b c → AdditionTyped g → (added b g).0 ≡ Ok n
      → Appended b c g (added b g).1 n
  -- likewise several modules: the context then has those that were added
  pub appends_modules : (b : List ℕ) (c : Context) (ms : List ModuleRecord) → HoldsContext 0 b c → ModulesTyped ms
      → HoldsContext 0 (modules_added b ms).1 (with_modules c (take (modules_added b ms).0.added ms))
  -- "With two or more, it reads back as the records given"
  pub reads_back : (b : List ℕ) (ks : List AnyCall) → (begun b).0 ≡ Ok 8 → AllTyped ks → 2 ≤ length (list_now b ks) → ReadsBack (buffer_now b ks) (list_now b ks)
  -- "a plain context, built again from its reading, has the same bytes": into any buffer with room for it, and nothing is refused
  pub rebuilds : (b d : List ℕ) (c : Context) → HoldsContext 2 b c → Plain b c → used c ≤ room_of d → Rebuilt b d c

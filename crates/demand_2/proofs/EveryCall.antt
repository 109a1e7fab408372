-- The demand used where its premises end: calls of every kind, the widest arguments, two attributes, a head that another writer began.
use Rattle.std.specs.Prelude.{Ok}
use Prim.Native.Nat.{ℕ, zero, suc, ◌+◌, ◌%◌, ◌<◌, ◌≤◌}
use mathlib.Core.Path.{◌≡◌, refl, sym, ap, ◌∙◌, subst}
use mathlib.Core.Bool.{true}
use mathlib.Core.Logic.{◌⊎◌, ◌⊎◌.inl, ◌⊎◌.inr, ⊎_elim}
use mathlib.Core.List.{List, [], ◌∷◌, ◌++◌}
use native.Mathlib.Omega.{arith}
use lib.ListN.{length, get_or, take}
use lib.Seq.{take_all, get_or-take}
use lib.Dec.{ltb}
use borrow.Author.Tests.{ltb-true}
use Rattle.byte_layout.specs.Fields.{cells, filled}
use Rattle.byte_layout.specs.Stored.{Bytes}
use Rattle.ultra_format.specs.Contexts.{type_of, Attribute, Context, count, attribute_at, total, used}
use Rattle.lent_buffers.specs.Room.{room_of}
use Rattle.ultra_format.specs.Layouts.{entries_fields, attributes_fields, layout, written}
use Rattle.ultra_format.specs.Decoding.{start, types_before, context_of}
use Rattle.words.specs.Words.{number_at, numbers_at}
use Rattle.ultra_format.specs.Members.{every, size_suits, kernel_values, module_values, bpp_suits, framebuffer_values, values, ascii_text, path_text, texts, ranges, entries_ordered, ordered, body_check}
use Rattle.ultra_format.specs.Places.{placed, occurs, place_check}
use Rattle.ultra_format.specs.Plain.{written_size, Plain}
use Rattle.ultra_format.specs.Records.{trimmed}
use Rattle.ultra_map_question.specs.MapQuestion.{numbers}
use Rattle.ultra_format.specs.Examples.{zeros, six_types, six_types_bytes}
use Rattle.ultra_format.specs.Additions.{Addition, Addition.add_platform, Addition.add_command_line, attribute_given, entries_given, body_given, given_check}
use Rattle.refusals.proofs.Chains.{both_hold}
use Rattle.ultra_format.proofs.Decoded.{decoded_only}
use Rattle.ultra_format.proofs.Witness.{six_types_written, silent_zero}
use Rattle.ultra_stepping.specs.Checks.{head_check, bounds_check}
use Rattle.ultra_reading.specs.Reading.{attributes_answer, used_length}
use Rattle.ultra_stepping.specs.Stepping.{cursor_at}
use Rattle.ultra_stepping.specs.declared.cursor.Cursor.{Cursor}
use Rattle.ultra_acceptance.specs.Acceptance.{HoldsContext}
use Rattle.ultra_acceptance.proofs.Acceptance.{accepts_exactly}
use Rattle.ultra_appending.specs.Appending.{append_check, append_offset}
use Rattle.ultra_adding.specs.Adding.{added_members, added}
use Rattle.ultra_building.specs.Building.{begun}
use Rattle.ultra_format.specs.declared.records.ModuleRecord.{ModuleRecord}
use Rattle.ultra_modules.specs.Modules.{in_turn}
use Rattle.ultra_question_statements.specs.Witness.{every_line}
use Rattle.demand_3.specs.Witness.{every_platform_record, every_kernel_record, every_entries}
use Rattle.ultra_acceptance.specs.Steps.{StepsThrough}
use Rattle.demand_2.specs.Calls.{Members, members_body, Write.begin, Write.add, Write.add_members, Write.add_modules, Question, Question.read, Question.step}
use Rattle.demand_2.specs.Calls.{Call, Call.write, Call.ask, Reply, Reply.number}
use Rattle.demand_2.specs.CallsFromC.{QuestionFromC, QuestionFromC.ultra_read, QuestionFromC.ultra_step, CallFromC.ask_from_c, asked}
use Rattle.demand_2.specs.CallsFromC.{AnyCall, AnyCall.from_c, in_rattle, run_any, after}
use Rattle.demand_2.specs.Arguments.{ModulesTyped, CallTyped, AllTyped}
use Rattle.demand_2.specs.Model.{attributes_given, context_given, types_after, giving, modules_listed, list_after_all, replies_in, reply_to, any_reply}
use Rattle.demand_2.specs.Demand2.{Undetermined, ReadsBack, Appended, adds, buffer_now, list_now}
use Rattle.demand_2.specs.Witness.{six_additions, every_write, asks, asks_from_c, every_question, every_question_from_c, every_call, ones, widest_calls, Built, EveryKind, FromCAndMembers, AnyArguments, one, two, TwoAreEnough, other_head}
use Rattle.demand_2.proofs.Additions.{given_type}
use Rattle.demand_2.proofs.Following.{length_given_law}
use Rattle.demand_2.proofs.ReadingBack.{at_given}
use Rattle.demand_2.proofs.Demand2.{demand_2}
use Rattle.demand_2.proofs.Answered.{ModulesOf, list_now_law, answered, typed_one, typed_two}

-- ---- arguments of their types
pub some_bytes : (l : List ℕ) → every (λ (x : ℕ). ltb x 256) l ≡ true → Bytes l
unfolding every
some_bytes [] e i = omega arith
some_bytes (x ∷ l) e zero = ltb-true x 256 (both_hold (ltb x 256) _ e).0
some_bytes (x ∷ l) e (suc i) = some_bytes l (both_hold (ltb x 256) _ e).1 i

ones_bytes : (n : ℕ) → Bytes (ones n)
ones_bytes zero i = omega arith
ones_bytes (suc n) zero = omega arith
ones_bytes (suc n) (suc i) = ones_bytes n i

pub widest : AllTyped widest_calls
unfolding AllTyped
widest =
    (record { kind = omega arith; loader_major = omega arith; loader_minor = omega arith; name = (refl, ones_bytes 32); rsdp = omega arith; higher_half_base = omega arith; depth = omega arith; dtb = omega arith; smbios = tt }, (record { physical_base = omega arith; virtual_base = omega arith; size = omega arith; partition_type = omega arith; disk_guid = (refl, ones_bytes 16); partition_guid = (refl, ones_bytes 16); disk_index = omega arith; partition_index = omega arith; path = (refl, ones_bytes 256) }, ((omega arith, (omega arith, tt)), (record { kind = omega arith; name = (refl, ones_bytes 64); address = omega arith; size = omega arith }, (ones_bytes 9, (record { width = omega arith; height = omega arith; pitch = omega arith; bpp = omega arith; format = omega arith; address = omega arith }, (record { kind_typed = omega arith; major_typed = omega arith; minor_typed = omega arith; name_typed = ones_bytes 300; rsdp_typed = omega arith; base_typed = omega arith; depth_typed = omega arith; dtb_typed = omega arith; smbios_typed = omega arith }, (record { physical_typed = omega arith; virtual_typed = omega arith; size_typed = omega arith; partition_type_typed = omega arith; disk_typed = ones_bytes 17; partition_typed = ones_bytes 300; disk_index_typed = omega arith; partition_index_typed = omega arith; path_typed = ones_bytes 300 }, (ones_bytes 25, ((omega arith, ones_bytes 300, omega arith, omega arith), ((record { kind = omega arith; name = (refl, ones_bytes 64); address = omega arith; size = omega arith }, tt), tt)))))))))))

-- ---- calls of every kind
pub joined : (ks js : List AnyCall) → AllTyped ks → AllTyped js → AllTyped (ks ++ js)
unfolding AllTyped
joined [] js y z = z
joined (k ∷ ks) js y z = (y.0, joined ks js y.1 z)

questions_typed : (qs : List Question) → AllTyped (asks qs)
unfolding AllTyped asks
questions_typed [] = tt
questions_typed (q ∷ qs) = (tt, questions_typed qs)

questions_from_c_typed : (qs : List QuestionFromC) → AllTyped (asks_from_c qs)
unfolding AllTyped asks_from_c
questions_from_c_typed [] = tt
questions_from_c_typed (q ∷ qs) = (tt, questions_from_c_typed qs)

module _ (typed : AllTyped (adds six_additions)) where
  writes_typed : AllTyped every_write
  unfolding AllTyped every adds
  writes_typed =
      (typed.0, (record { physical_typed = omega arith; virtual_typed = omega arith; size_typed = omega arith; partition_type_typed = omega arith; disk_typed = some_bytes (zeros 16) refl; partition_typed = some_bytes (zeros 16) refl; disk_index_typed = omega arith; partition_index_typed = omega arith; path_typed = some_bytes (47 ∷ []) refl }, ((typed.1.1.1.0, (typed.1.1.1.0, tt)), (tt, (tt, (record { kind_typed = omega arith; major_typed = omega arith; minor_typed = omega arith; name_typed = some_bytes (98 ∷ []) refl; rsdp_typed = omega arith; base_typed = omega arith; depth_typed = omega arith; dtb_typed = omega arith; smbios_typed = omega arith }, (record { physical_typed = omega arith; virtual_typed = omega arith; size_typed = omega arith; partition_type_typed = omega arith; disk_typed = some_bytes every_kernel_record.kernel.disk_guid refl; partition_typed = some_bytes every_kernel_record.kernel.partition_guid refl; disk_index_typed = omega arith; partition_index_typed = omega arith; path_typed = some_bytes (47 ∷ 107 ∷ 195 ∷ 169 ∷ []) refl }, (some_bytes every_entries refl, ((omega arith, some_bytes (109 ∷ []) refl, omega arith, omega arith), (some_bytes every_line refl, (typed.1.1.1.1.1.0, (tt, (record { kind_typed = omega arith; major_typed = omega arith; minor_typed = omega arith; name_typed = some_bytes [] refl; rsdp_typed = omega arith; base_typed = omega arith; depth_typed = omega arith; dtb_typed = omega arith; smbios_typed = omega arith }, (record { kind_typed = omega arith; major_typed = omega arith; minor_typed = omega arith; name_typed = some_bytes [] refl; rsdp_typed = omega arith; base_typed = omega arith; depth_typed = omega arith; dtb_typed = omega arith; smbios_typed = omega arith }, (typed.1.0, (record { physical_typed = omega arith; virtual_typed = omega arith; size_typed = omega arith; partition_type_typed = omega arith; disk_typed = some_bytes [] refl; partition_typed = some_bytes [] refl; disk_index_typed = omega arith; partition_index_typed = omega arith; path_typed = some_bytes (47 ∷ []) refl }, ((omega arith, (omega arith, tt)), (some_bytes (0 ∷ []) refl, (typed.1.1.1.0, ((omega arith, some_bytes [] refl, omega arith, omega arith), ((typed.1.1.1.0, tt), (some_bytes [] refl, (typed.1.1.1.1.1.0, tt)))))))))))))))))))))))

  every_typed : AllTyped every_call
  every_typed =
      joined every_write (asks every_question ++ asks_from_c every_question_from_c) writes_typed
      (joined (asks every_question) (asks_from_c every_question_from_c) (questions_typed every_question) (questions_from_c_typed every_question_from_c))

-- the list that they leave, in the least room and in the greatest: by computation
abbrev Lists : ℕ → Type 0
Lists room = list_after_all room every_call [] ≡ six_additions

every_list : Lists 640 × Lists 65536
unfolding list_after_all asks asks_from_c modules_listed in_turn giving attributes_given types_after append_check place_check placed occurs body_given entries_given trimmed written_size given_check body_check size_suits values kernel_values module_values framebuffer_values bpp_suits texts ascii_text path_text every ranges ordered entries_ordered total numbers number_at numbers_at
every_list = (refl, refl)

a_question : (q : QuestionFromC) → ModulesOf (from_c (ask_from_c q))
a_question q ms e = absurd (let z : ◌≡◌ {A = ℕ} 0 1 = cc in omega arith)

-- ---- the buffer
module _ (typed : AllTyped (adds six_additions)) (context : context_given six_additions ≡ six_types) (b : List ℕ) (room : ℕ) (r : room_of b ≡ room) (l : Lists room) (long : 8 ≤ length b) where
  front : take 640 (buffer_now b every_call) ≡ six_types_bytes
  unfolding total
  front =
      subst (λ (c : Context). take (used c) (buffer_now b every_call) ≡ written c) (ap context_given (list_now_law b room r long every_call six_additions l) ∙ context) (demand_2.follows b every_call (demand_2.begins b long).0 (every_typed typed)).bytes
      ∙ six_types_written

-- ---- calls whose answer the list determines
same_cursor : (i o : ℕ) (j : Cursor) → ask (step (cursor_at i o)) ≡ ask (step j) → (j.index ≡ i) × (j.offset ≡ o)
same_cursor i o j e = let q : j ≡ cursor_at i o = cc in (ap (λ (k : Cursor). k.index) q, ap (λ (k : Cursor). k.offset) q)

six_used : (used (context_given six_additions) ≡ 640) × (count (context_given six_additions) ≡ 6)
unfolding total attributes_given body_given written_size entries_given
six_used = (refl, refl)

determined : (room i o : ℕ) → (i < 6 → 640 ≤ o → o + 8 ≤ room → o % 8 ≡ 0 → ⊥) → Undetermined room (context_given six_additions) (ask (step (cursor_at i o))) → ⊥
determined room i o n u =
    let q = same_cursor i o u.0 u.1 in
    n (omega (arith, q.0, u.3, six_used.1)) (omega (arith, q.1, u.4, six_used.0)) (omega (arith, q.1, u.5)) (ap (λ (k : ℕ). k % 8) (sym q.1) ∙ u.6)

no_step : (room : ℕ) → Undetermined room (context_given six_additions) (ask read) → ⊥
no_step room u = let e = u.1 in let z : ◌≡◌ {A = ℕ} 0 1 = cc in omega arith

abbrev Replied : ℕ → QuestionFromC → ℕ → Type 0
Replied room q n = any_reply room (from_c (ask_from_c q)) six_additions ≡ number n

replied : Replied 640 ultra_read 640 × Replied 640 (ultra_step 0 16) 25769803792 × Replied 640 (ultra_step 5 608) 640 × Replied 65536 (ultra_step 6 640) 0 × Replied 640 (ultra_step 0 640) 21474837120 × Replied 65536 (ultra_step 0 644) 21474837124
unfolding reply_to replies_in attributes_given body_given entries_given trimmed written_size total cells filled entries_fields attributes_fields bounds_check number_at
replied = (refl, refl, refl, refl, refl, refl)

pub every_kind : Built six_additions six_types six_types_bytes 640 → EveryKind
every_kind w =
    record {
      typed = every_typed w.typed;
      built = λ b e.
          let n = demand_2.same_length b every_call (demand_2.begins b (omega arith)).0 (every_typed w.typed) in
          sym (take_all 640 (buffer_now b every_call) (omega arith)) ∙ front w.typed w.list b 640 (omega arith) every_list.0 (omega arith);
      long = λ b e. front w.typed w.list b 65536 (omega arith) every_list.1 (omega arith);
      read = λ b e. least b e ultra_read _ (no_step 640) replied.0;
      last = λ b e. least b e (ultra_step 5 608) _ (determined 640 5 608 (λ h i j k. omega arith)) replied.2;
      inside = λ b e. least b e (ultra_step 0 16) _ (determined 640 0 16 (λ h i j k. omega arith)) replied.1;
      end = λ b e. greatest b e (ultra_step 6 640) _ (determined 65536 6 640 (λ h i j k. omega arith)) replied.3;
      past_room = λ b e. least b e (ultra_step 0 640) _ (determined 640 0 640 (λ h i j k. omega arith)) replied.4;
      crooked = λ b e. greatest b e (ultra_step 0 644) _ (determined 65536 0 644 (λ h i j k. omega arith)) replied.5;
    }
  where
    least : (b : List ℕ) → length b ≡ 640 → (q : QuestionFromC) (n : ℕ) → (Undetermined 640 (context_given six_additions) (in_rattle (from_c (ask_from_c q))) → ⊥) → Replied 640 q n
        → (run_any (from_c (ask_from_c q)) (buffer_now b every_call)).0 ≡ number n
    least b e q n u a = answered b 640 (omega arith) (omega arith) every_call six_additions every_list.0 (every_typed w.typed) (from_c (ask_from_c q)) (a_question q) u (number n) a

    greatest : (b : List ℕ) → length b ≡ 65537 → (q : QuestionFromC) (n : ℕ) → (Undetermined 65536 (context_given six_additions) (in_rattle (from_c (ask_from_c q))) → ⊥) → Replied 65536 q n
        → (run_any (from_c (ask_from_c q)) (buffer_now b every_call)).0 ≡ number n
    greatest b e q n u a = answered b 65536 (omega arith) (omega arith) every_call six_additions every_list.1 (every_typed w.typed) (from_c (ask_from_c q)) (a_question q) u (number n) a

-- ---- two attributes
two_listed : list_after_all 432 (adds two) [] ≡ two
unfolding list_after_all adds attributes_given types_after append_check place_check placed occurs body_given entries_given trimmed written_size given_check body_check size_suits values kernel_values texts ascii_text path_text every ranges ordered total
two_listed = refl

module _ (w : AllTyped (adds six_additions)) (b : List ℕ) (e : length b ≡ 432) where
  begun_two : (begun b).0 ≡ Ok 8
  begun_two = (demand_2.begins b (omega arith)).0

  two_now : list_now b (adds two) ≡ two
  two_now = list_now_law b 432 (omega arith) (omega arith) (adds two) two two_listed

  two_back : ReadsBack (buffer_now b (adds two)) two
  two_back = subst (ReadsBack (buffer_now b (adds two))) two_now (demand_2.reads_back b (adds two) begun_two (typed_two w) (rw two_now (omega arith)))

  two_through : StepsThrough (buffer_now b (adds two)) (context_given two)
  two_through =
      subst (λ (gs : List Addition). StepsThrough (buffer_now b (adds two)) (context_given gs)) two_now (demand_2.steps b (adds two) begun_two (typed_two w) (rw two_now (omega arith)))

-- one attribute
pub one_listed : list_after_all 104 (adds one) [] ≡ one
unfolding list_after_all adds attributes_given types_after append_check place_check placed occurs body_given trimmed written_size given_check body_check size_suits values texts ascii_text every ranges ordered total
one_listed = refl

one_replied : any_reply 104 (from_c (ask_from_c (ultra_step 0 96))) one ≡ number 17179869184
unfolding reply_to replies_in attributes_given
one_replied = refl

one_counted : count (context_given one) ≡ 1
unfolding attributes_given
one_counted = refl

one_is_not_law : AllTyped (adds six_additions) → (b : List ℕ) → length b ≡ 104 → (run_any (from_c (ask_from_c (ultra_step 0 96))) (buffer_now b (adds one))).0 ≡ number 17179869184
one_is_not_law w b e =
    answered b 104 (omega arith) (omega arith) (adds one) one one_listed (typed_one w) (from_c (ask_from_c (ultra_step 0 96))) (a_question (ultra_step 0 96)) (λ u. omega (arith, one_counted, u.2)) _ one_replied

pub two_are_enough : AllTyped (adds six_additions) → TwoAreEnough
two_are_enough w = record { one_is_not = one_is_not_law w; back = two_back w; through = two_through w }

-- ---- heads
pub head : (b : List ℕ) → length b ≡ 8 → begun b ≡ (Ok 8, 1 ∷ zeros 7)
unfolding after list_after_all AllTyped attributes_given attributes_fields total cells filled
head b e =
    let h = (demand_2.begins b (omega arith)).0 in
    let n : length (begun b).1 ≡ length b = demand_2.same_length b [] h tt in
    let x : take 8 (begun b).1 ≡ 1 ∷ zeros 7 = (demand_2.follows b [] h tt).bytes in
    let y : (begun b).1 ≡ 1 ∷ zeros 7 = sym (take_all 8 (begun b).1 (omega arith)) ∙ x in
    λ i. (h i, y i)

other_bytes_law : Bytes other_head
unfolding every
other_bytes_law = some_bytes other_head refl

other_empty : used_length 0 other_head ≡ Ok 8
unfolding used_length head_check attributes_answer start number_at
other_empty = refl

other_held : HoldsContext 0 other_head (context_of other_head)
other_held =
    let h = (accepts_exactly 0 other_head 8 other_bytes_law).0 other_empty in
    subst (HoldsContext 0 other_head) (decoded_only 0 (room_of other_head) other_head h.0 h.1.0 h.1.1) h.1

abbrev any_platform : Addition
any_platform = add_platform every_platform_record.platform

other_answered : (added other_head any_platform).0 ≡ Ok 96
unfolding added_members append_offset used_length head_check attributes_answer start types_before number_at append_check place_check placed occurs body_given trimmed written_size given_check body_check size_suits values texts ascii_text every ranges ordered
other_answered = refl

pub other : AllTyped (adds six_additions) → Appended other_head (context_of other_head) any_platform (added other_head any_platform).1 96
unfolding adds AllTyped
other w = demand_2.appends other_head (context_of other_head) any_platform 96 other_held w.0 other_answered

pub other_kept_law : AllTyped (adds six_additions) → (i : ℕ) → (i < 4) ⊎ (96 ≤ i) → get_or (added other_head any_platform).1 i 0 ≡ get_or other_head i 0
other_kept_law w i h = (other w).others i (⊎_elim inl (λ l. inr (inr l)) h)

-- ---- arguments of any length
more_modules_law : (ms ns : List ModuleRecord) → ModulesTyped ms → ModulesTyped ns → ModulesTyped (ms ++ ns)
more_modules_law [] ns y z = z
more_modules_law (m ∷ ms) ns y z = (y.0, more_modules_law ms ns y.1 z)

-- a call that is no add
other_typed : (k : Call) → ((g : Addition) → k ≡ write (add g) → ⊥) → ((m : Members) → k ≡ write (add_members m) → ⊥)
    → ((ms : List ModuleRecord) → k ≡ write (add_modules ms) → ⊥) → CallTyped k
other_typed (ask q) p r s = tt
other_typed (write begin) p r s = tt
other_typed (write (add g)) p r s = absurd (p g refl)
other_typed (write (add_members m)) p r s = absurd (r m refl)
other_typed (write (add_modules ms)) p r s = absurd (s ms refl)

pub any_arguments : AnyArguments
unfolding AllTyped every
any_arguments =
    record {
      lines = λ t y. (y, (y, tt));
      no_map = (tt, tt);
      no_modules = (tt, tt);
      more_modules = λ ms ns y. (more_modules_law ms ns y.0 y.1.0, tt);
      no_members =
          (record { kind = omega arith; loader_major = omega arith; loader_minor = omega arith; name = (refl, some_bytes (zeros 32) refl); rsdp = omega arith; higher_half_base = tt; depth = tt; dtb = tt; smbios = tt }, tt);
      joined = joined;
      reading = λ k p r s. (other_typed (in_rattle k) p r s, tt);
    }

-- ---- what was built is plain
module _ (b : List ℕ) (ks : List AnyCall) (e : (begun b).0 ≡ Ok 8) (y : AllTyped ks) where
  abbrev built : Context
  built = context_given (list_now b ks)

  given : (i : ℕ) → i < count built → attribute_at built i ≡ attribute_given (get_or (list_now b ks) i (add_command_line []))
  given i h = at_given (list_now b ks) i (omega (arith, length_given_law (list_now b ks)))

  pub built_plain : Plain (buffer_now b ks) built
  built_plain =
      record {
        major = refl;
        minor = refl;
        sizes = λ i h. ap (λ (a : Attribute). a.size) (given i h) ∙ ap (λ (a : Attribute). written_size a.body) (sym (given i h));
        zeros = λ i h s.
            sym (get_or-take (used built) (buffer_now b ks) i 0 h)
            ∙ ap (λ (l : List ℕ). get_or l i 0) (demand_2.follows b ks e y).bytes
            ∙ silent_zero (cells (layout built)) i s;
        types = λ i h. subst (λ (a : Attribute). type_of a.body < 7) (sym (given i h)) (given_type (get_or (list_now b ks) i (add_command_line []))).2;
      }

-- ---- from C, and members one by one
pub from_c_and_members : FromCAndMembers
from_c_and_members =
    record {
      keeps = λ b k a e n. ap (λ (r : Reply × List ℕ). r.1) (demand_2.crosses b k) ∙ demand_2.refusals b (asked k) a e n;
      as_record = λ b m y n. ⊎_elim (λ r. absurd (n (ap (λ (x : Reply × List ℕ). x.1) r.1))) (λ r. (giving (members_body m), r.1, r.2)) (demand_2.members b m y);
    }

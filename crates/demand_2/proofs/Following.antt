-- After every call the buffer is as the list says.
use Rattle.std.specs.Prelude.{Ok}
use Prim.Native.Nat.{ℕ, zero, suc, ◌+◌, ◌≤◌, ◌<◌, min}
use mathlib.Core.Bool.{Bool}
use mathlib.Core.Path.{◌≡◌, refl, sym, ap, ◌∙◌, subst}
use mathlib.Core.List.{List, [], ◌∷◌, ◌++◌}
use native.Mathlib.Omega.{arith}
use native.Mathlib.Nat.{not-suc-le-zero, add-zero, zero-add}
use lib.ListN.{length, get_or, take, length-drop}
use borrow.Author.Tests.{le-leb}
use Rattle.byte_layout.specs.Fields.{cells, filled, Fits}
use Rattle.byte_layout.specs.Stored.{over}
use Rattle.refusals.specs.Answers.{Answer, or_refused}
use Rattle.ultra_format.specs.Contexts.{Body, type_of, Attribute, Context, total, used}
use Rattle.lent_buffers.specs.Room.{room_of}
use Rattle.ultra_format.specs.Layouts.{attributes_fields, layout, Opens, written}
use Rattle.ultra_format.specs.Rules.{Meets}
use Rattle.ultra_format.specs.Decoding.{stored_type, stored_count, types_before}
use Rattle.ultra_format.specs.Plain.{written_size}
use Rattle.ultra_format.specs.Additions.{Addition, attribute_given, addition_check, size_given, body_given, formed, given_check}
use Rattle.ultra_format.specs.Additions.{Addition.add_module, Addition.add_command_line}
use Rattle.ultra_format.specs.declared.records.ModuleRecord.{ModuleRecord}
use Rattle.ultra_format.proofs.Attributes.{at, sized, Says, opens_says}
use Rattle.byte_layout.proofs.Cells.{at_opens}
use Rattle.ultra_acceptance.specs.Acceptance.{HoldsContext}
use Rattle.ultra_acceptance.proofs.Acceptance.{complete}
use Rattle.ultra_building.specs.Building.{empty_head, begun}
use Rattle.ultra_adding.specs.Adding.{added_at, added_members, added}
use Rattle.ultra_adding.proofs.Adding.{members_check_on, members_held}
use Rattle.ultra_modules.specs.Modules.{module_added, modules_added}
use Rattle.demand_2.specs.Calls.{Members, members_formed, members_body, Write.begin, Write.add, Write.add_members, Write.add_modules}
use Rattle.demand_2.specs.Calls.{Call, Call.write, Call.ask, Reply, reply_of, run_write, run}
use Rattle.demand_2.specs.CallsFromC.{CallFromC, CallFromC.write_from_c, CallFromC.ask_from_c, reply_from_c, run_write_from_c, run_from_c, asked, reply_crossed}
use Rattle.demand_2.specs.CallsFromC.{QuestionFromC.ultra_read, QuestionFromC.ultra_step, QuestionFromC.ultra_attribute, QuestionFromC.ultra_copy_map, QuestionFromC.ultra_command_line, QuestionFromC.ultra_module_holding}
use Rattle.demand_2.specs.CallsFromC.{WriteFromC.ultra_begin, WriteFromC.ultra_add_platform, WriteFromC.ultra_add_kernel, WriteFromC.ultra_add_map, WriteFromC.ultra_add_module, WriteFromC.ultra_add_command_line, WriteFromC.ultra_add_framebuffer}
use Rattle.demand_2.specs.CallsFromC.{AnyCall, AnyCall.from_rattle, AnyCall.from_c, in_rattle, run_any, after}
use Rattle.demand_2.specs.Arguments.{AdditionTyped, ModuleTyped, MembersTyped, ModulesTyped, CallTyped, AllTyped}
use Rattle.ultra_appending.proofs.Appending.{appendable}
use Rattle.demand_2.specs.Model.{attributes_given, context_given, types_after, members_refusal, refusal_of, giving, appended, add_answer, module_listed, modules_listed, list_after, list_after_all}
use Rattle.demand_2.specs.Demand2.{Follows}
use Rattle.demand_2.proofs.GivenMembers.{record_of, same_run}
use Rattle.demand_2.proofs.ModulesInTurn.{alike}
use Rattle.demand_2.proofs.Appending.{all_more, says_type, sound, left_length, written_left, held_more, total_more}

-- ---- the list
-- every element was of its type, and broke none of 12 to 16
abbrev pub Added : List Addition → Type 0
Added gs = (i : ℕ) → i < length gs → AdditionTyped (get_or gs i (add_command_line [])) × (addition_check (get_or gs i (add_command_line [])) ≡ 0)

-- what a call finds and leaves
pub record Keeps (d : List ℕ) (gs : List Addition) : Type 0 where
  pub follows : Follows d gs
  pub added : Added gs

pub length_given_law : (gs : List Addition) → length (attributes_given gs) ≡ length gs
unfolding attributes_given
length_given_law [] = refl
length_given_law (g ∷ gs) = ap suc (length_given_law gs)

pub given_append : (gs more : List Addition) → attributes_given (gs ++ more) ≡ attributes_given gs ++ attributes_given more
unfolding attributes_given
given_append [] more = refl
given_append (g ∷ gs) more = ap (λ (l : List Attribute). attribute_given g ∷ l) (given_append gs more)

pub used_more : (gs : List Addition) (g : Addition) → used (context_given (gs ++ (g ∷ []))) ≡ used (context_given gs) + size_given g
unfolding attributes_given
used_more gs g = omega (arith, ap total (given_append gs (g ∷ [])), total_more (attributes_given gs) (attribute_given g))

-- its types are those that the buffer has
pub types_after_law : (d : List ℕ) (k : ℕ) (gs : List Addition) → ((i : ℕ) → i < length gs → stored_type d (k + i) ≡ type_of (at (attributes_given gs) i).body)
    → types_after (types_before d k) gs ≡ types_before d (k + length gs)
unfolding types_after types_before attributes_given
types_after_law d k [] h = rw add-zero
types_after_law d k (g ∷ gs) h =
    let q : suc k + length gs ≡ k + suc (length gs) = omega arith in
    let t = rw add-zero at (h 0 (omega arith)) in
    rw (← q, ← t) (types_after_law d (suc k) gs (λ i l. let r : suc k + i ≡ k + suc i = omega arith in rw r (h (suc i) (omega arith))))

-- ---- a buffer that follows it
held_follows : (d : List ℕ) (gs : List Addition) → HoldsContext 0 d (context_given gs) → take (used (context_given gs)) d ≡ written (context_given gs) → Follows d gs
held_follows d gs h e =
    record {
      bytes = e;
      counted = (opens_says d (context_given gs) h.0.fits (sized h.0) h.1).count ∙ length_given_law gs;
      used_is = complete 0 d (context_given gs) h.0 h.1;
      held = h;
    }

module _ (d : List ℕ) (gs : List Addition) (f : Follows d gs) where
  pub says_given : Says d (context_given gs)
  says_given = opens_says d (context_given gs) f.held.0.fits (sized f.held.0) f.held.1

  types_given : types_after [] gs ≡ types_before d (stored_count d)
  unfolding types_before
  types_given =
      types_after_law d 0 gs (λ i l. rw zero-add (says_type d (context_given gs) says_given i (omega (arith, length_given_law gs))))
      ∙ ap (types_before d) (zero-add (length gs) ∙ sym f.counted)

  same_check : (f : Bool) (x : Body) → members_check_on d (context_given gs) f x ≡ members_refusal (room_of d) gs f x
  same_check f x = rw types_given

  pub long : 8 ≤ length d
  long = omega (arith, f.held.0.within)

  -- what an add does, by the refusal of the list
  pub added_is : (ok : Bool) (x : Body) → added_members d ok x ≡ added_at d x (or_refused (members_refusal (room_of d) gs ok x) (used (context_given gs)) (Ok (used (context_given gs))))
  added_is ok x = members_held d (context_given gs) ok x f.held ∙ rw (same_check ok x)

  -- and what it answers
  pub add_reply : (x : Body) (g : Addition) → written_size x ≡ size_given g → (n : ℕ)
      → (added_at d x (or_refused n (used (context_given gs)) (Ok (used (context_given gs))))).0 ≡ add_answer n gs g
  add_reply x g e zero = ap Ok (ap (λ (s : ℕ). used (context_given gs) + s) e ∙ sym (used_more gs g))
  add_reply x g e (suc n) = refl

pub same_room : (d b : List ℕ) → length d ≡ length b → room_of d ≡ room_of b
same_room d b e = ap (λ (n : ℕ). min n 65536) e

-- ---- a beginning
empty_meets : (room : ℕ) → 8 ≤ room → Meets 0 room (context_given [])
unfolding Fits attributes_given attributes_fields total
empty_meets room h =
    record {
      fits = (omega arith, (omega arith, (tt, (omega arith, tt))));
      major = omega arith;
      enough = omega arith;
      most = omega arith;
      within = h;
      typed = λ i l. absurd (not-suc-le-zero l);
      first = λ l. absurd (not-suc-le-zero l);
      second = λ l. absurd (not-suc-le-zero l);
      later = λ i r l. absurd (not-suc-le-zero l);
      once = λ i j r l. absurd (not-suc-le-zero l);
      together = λ i j k r s l. absurd (not-suc-le-zero l);
      each = λ i l. absurd (not-suc-le-zero l);
    }

module _ (b : List ℕ) (h : 8 ≤ length b) where
  pub begun_is : begun b ≡ (Ok 8, over empty_head b)
  unfolding begun
  begun_is = rw (le-leb 8 (room_of b) (omega arith))

  begun_length : length (over empty_head b) ≡ length b
  begun_length = omega (arith, length-drop 8 b)

  begun_bytes : take (used (context_given [])) (over empty_head b) ≡ written (context_given [])
  unfolding cells filled attributes_given attributes_fields total
  begun_bytes = refl

  begun_opens : Opens (over empty_head b) (context_given [])
  unfolding cells attributes_given attributes_fields
  begun_opens = at_opens (over empty_head b) (cells (layout (context_given []))) (omega (arith, begun_length)) (refl, (refl, (refl, (refl, (refl, (refl, tt))))))

  pub begin_follows : Keeps (begun b).1 [] × (length (begun b).1 ≡ length b)
  begin_follows =
      rw begun_is (
        record {
          follows = held_follows (over empty_head b) [] (empty_meets (room_of (over empty_head b)) (omega (arith, begun_length)), begun_opens) begun_bytes;
          added = λ i l. absurd (not-suc-le-zero l);
        },
        begun_length,
      )

-- ---- a call
module _ (d : List ℕ) (gs : List Addition) (h : Keeps d gs) where
  abbrev now : Context
  now = context_given gs

  -- what is not refused breaks none of 12 to 16
  unbroken : (f : Bool) (x : Body) → members_refusal (room_of d) gs f x ≡ 0 → given_check f x ≡ 0
  unbroken f x e = (appendable (types_after [] gs) (room_of d) (used now) (type_of x) (given_check f x) (written_size x) e).sound

  add_follows : (g : Addition) → AdditionTyped g → Keeps (added d g).1 (appended (refusal_of (room_of d) gs g) gs g) × (length (added d g).1 ≡ length d)
  unfolding attributes_given
  add_follows g y = rw (added_is d gs h.follows (formed g) (body_given g)) (go (refusal_of (room_of d) gs g) refl)
    where
      go : (f : ℕ) → refusal_of (room_of d) gs g ≡ f
          → Keeps (added_at d (body_given g) (or_refused f (used now) (Ok (used now)))).1 (appended f gs g) × (length (added_at d (body_given g) (or_refused f (used now) (Ok (used now)))).1 ≡ length d)
      go (suc f) e = (h, refl)
      go zero e =
          let k = h.follows.held in
          let z = same_check d gs h.follows (formed g) (body_given g) ∙ e in
          let q = given_append gs (g ∷ []) in (
            record {
              follows = held_follows _ (gs ++ (g ∷ [])) (rw q (held_more d now g k y z)) (rw q (written_left d now g k y z h.follows.bytes));
              added = all_more gs g (add_command_line []) (λ (x : Addition). AdditionTyped x × (addition_check x ≡ 0)) h.added (y, sound d now g k y z);
            },
            left_length d now g k y z,
          )

  -- members that are not refused are the record that has them
  members_follow : (m : Members) → MembersTyped m
      → Keeps (run_write (add_members m) d).1 (list_after (room_of d) (write (add_members m)) gs) × (length (run_write (add_members m) d).1 ≡ length d)
  unfolding run_write
  members_follow m y = go (members_refusal (room_of d) gs (members_formed m) (members_body m)) refl
    where
      go : (f : ℕ) → members_refusal (room_of d) gs (members_formed m) (members_body m) ≡ f
          → Keeps (run_write (add_members m) d).1 (appended f gs (giving (members_body m))) × (length (run_write (add_members m) d).1 ≡ length d)
      go (suc f) e = rw (added_is d gs h.follows (members_formed m) (members_body m), e) (h, refl)
      go zero e =
          let g = giving (members_body m) in
          let r = record_of m y (unbroken (members_formed m) (members_body m) e) in
          let q : refusal_of (room_of d) gs g ≡ 0 = (λ i. members_refusal (room_of d) gs (sym r.forms i) (r.body i)) ∙ e in
          subst (λ (x : Reply × List ℕ). Keeps x.1 (gs ++ (g ∷ [])) × (length x.1 ≡ length d)) (sym (same_run d m r)) (rw q at (add_follows g r.typed))

-- ---- several modules
-- what they find and leave, in a buffer as long as b
abbrev Kept : List ℕ → List ℕ → List Addition → Type 0
Kept b d gs = Keeps d gs × (length d ≡ length b)

module_follows : (b d : List ℕ) (gs : List Addition) (m : ModuleRecord) → Kept b d gs → ModuleTyped m
    → ((module_added d m).0 ≡ (module_listed (room_of b) gs m).0) × Kept b (module_added d m).1 (module_listed (room_of b) gs m).1
module_follows b d gs m h y =
    let g = add_module m in
    let f = h.0.follows in
    let k = add_follows d gs h.0 g y in
    let q = same_room d b h.1 in (
      ap (λ (r : Answer × List ℕ). r.0) (added_is d gs f (formed g) (body_given g)) ∙ add_reply d gs f (body_given g) g refl (refusal_of (room_of d) gs g)
          ∙ ap (λ (room : ℕ). add_answer (refusal_of room gs g) gs g) q,
      (subst (λ (room : ℕ). Keeps (added d g).1 (appended (refusal_of room gs g) gs g)) q k.0, k.1 ∙ h.1),
    )

pub modules_follow : (d : List ℕ) (gs : List Addition) (ms : List ModuleRecord) → Keeps d gs → ModulesTyped ms
    → ((modules_added d ms).0 ≡ (modules_listed (room_of d) gs ms).0) × Kept d (modules_added d ms).1 (modules_listed (room_of d) gs ms).1
unfolding modules_added modules_listed
modules_follow d gs ms h y = alike (room_of d) (Kept d) (module_follows d) (Ok 0) 0 d gs ms (h, refl) y

pub step_follows : (d : List ℕ) (gs : List Addition) (k : Call) → Keeps d gs → CallTyped k → Keeps (run k d).1 (list_after (room_of d) k gs) × (length (run k d).1 ≡ length d)
unfolding run_write
step_follows d gs (ask q) h y = (h, refl)
step_follows d gs (write begin) h y = begin_follows d (long d gs h.follows)
step_follows d gs (write (add g)) h y = add_follows d gs h g y
step_follows d gs (write (add_members m)) h y = members_follow d gs h m y
step_follows d gs (write (add_modules ms)) h y = (modules_follow d gs ms h y).1

-- ---- toward C
pub crosses : (b : List ℕ) (k : CallFromC) → run_from_c k b ≡ (reply_crossed (run (asked k) b).0, (run (asked k) b).1)
unfolding reply_of run_write reply_from_c run_write_from_c body_given
crosses b (ask_from_c ultra_read) = refl
crosses b (ask_from_c (ultra_step index offset)) = refl
crosses b (ask_from_c (ultra_attribute index)) = refl
crosses b (ask_from_c (ultra_copy_map out)) = refl
crosses b (ask_from_c ultra_command_line) = refl
crosses b (ask_from_c (ultra_module_holding address)) = refl
crosses b (write_from_c ultra_begin) = refl
crosses b (write_from_c (ultra_add_platform kind major minor name rsdp base depth dtb smbios)) = refl
crosses b (write_from_c (ultra_add_kernel physical virtual size partition_type disk partition disk_index partition_index path)) = refl
crosses b (write_from_c (ultra_add_map entries)) = refl
crosses b (write_from_c (ultra_add_module kind name address size)) = refl
crosses b (write_from_c (ultra_add_command_line text)) = refl
crosses b (write_from_c (ultra_add_framebuffer width height pitch bpp format address)) = refl

pub same_buffer : (k : AnyCall) (b : List ℕ) → (run_any k b).1 ≡ (run (in_rattle k) b).1
same_buffer (from_rattle k) b = refl
same_buffer (from_c k) b = ap (λ (r : Reply × List ℕ). r.1) (crosses b k)

-- ---- calls in a row
pub follows_all : (ks : List AnyCall) (d : List ℕ) (gs : List Addition) → Keeps d gs → AllTyped ks → Keeps (after ks d) (list_after_all (room_of d) ks gs) × (length (after ks d) ≡ length d)
unfolding after list_after_all AllTyped
follows_all [] d gs h y = (h, refl)
follows_all (k ∷ ks) d gs h y =
    let e = (run_any k d).1 in
    let s = rw (← (same_buffer k d)) at (step_follows d gs (in_rattle k) h y.0) in
    let r = follows_all ks e (list_after (room_of d) (in_rattle k) gs) s.0 y.1 in
    (subst (λ (n : ℕ). Keeps (after ks e) (list_after_all n ks (list_after (room_of d) (in_rattle k) gs))) (same_room e d s.1) r.0, r.1 ∙ s.1)

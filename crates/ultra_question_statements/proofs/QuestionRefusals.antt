-- Proofs of the statements in specs/QuestionRefusals.antt: the questions answer by the context, whose one attribute of type 3 is its map.
use Rattle.std.specs.Prelude.{Ok, Err}
use Prim.Native.Nat.{ℕ, ◌*◌, ◌/◌, ◌<◌}
use mathlib.Core.Path.{◌≡◌, refl, sym, ap, ◌∙◌, subst}
use mathlib.Core.Bool.{Bool, true, false}
use mathlib.Core.List.{List}
use mathlib.Core.Logic.{◌↔◌, ◌⊎◌.inl, ◌⊎◌.inr}
use native.Mathlib.Omega.{arith}
use lib.ListN.{length}
use lib.Dec.{leb, ltb}
use borrow.Author.Tests.{leb-false, lt-leb, ltb-false, le-ltb, eqb-true, eqb-false}
use Rattle.byte_layout.specs.Stored.{over}
use Rattle.words.specs.Words.{numbers_in}
use Rattle.words.proofs.Numbers.{length_numbers}
use Rattle.refusals.specs.Refusals.{COUNT, ROOM, ABSENT}
use Rattle.refusals.specs.Answers.{Answer, refused, number_of, value_of}
use Rattle.ultra_format.specs.Contexts.{Entry, Body, type_of, Context, count, attribute_at, body_at, type_at, start_in, used}
use Rattle.ultra_format.specs.Contexts.{Body.platform, Body.kernel, Body.memory_map, Body.module_info, Body.command_line, Body.framebuffer, Body.other}
use Rattle.lent_buffers.specs.Room.{room_of}
use Rattle.ultra_format.specs.Rules.{TypeSuits, Meets}
use Rattle.ultra_format.specs.Decoding.{pick, context_of}
use Rattle.refusals.specs.declared.Refusal.{Refusal}
use Rattle.ultra_acceptance.specs.Acceptance.{HoldsContext}
use Rattle.ultra_questions.specs.declared.attributes.AttributeAnswer.{AttributeAnswer}
use Rattle.ultra_locating.specs.Searching.{Found.none, first_in, of_type}
use Rattle.ultra_questions.specs.AttributeQuestion.{unanswered, start_or_count, with_members, attribute_start, attribute_answer}
use Rattle.ultra_map_question.specs.MapQuestion.{numbers, entries_of, entries_copied, map_in, map_copied, map_copied_bytes}
use Rattle.ultra_questions.specs.CommandLineQuestion.{line_found, command_line_part, LineOrBoard}
use Rattle.ultra_questions.specs.ModuleQuestion.{module_holding}
use Rattle.ultra_question_statements.specs.QuestionRefusals.{IndexRefused, NoMap, TooShort, MapRefused, QuestionsRefuseExactly, RefusalsPassOn}
use Rattle.ultra_question_statements.proofs.FirstByIndex.{FirstAt, Outcome, outcome, one_only}
use Rattle.ultra_map_question.proofs.MapBytes.{bytes_kept_law}
use Rattle.ultra_question_statements.proofs.PartCells.{slice_empty}
use Rattle.ultra_question_statements.proofs.ByContext.{questions_by_context}

-- no success is a refusal
pub done_refused : (v : ℕ) (r : Refusal) → Ok v ≡ Err r → ⊥
done_refused v r e = let z : ◌≡◌ {A = ℕ} 0 1 = cc in omega arith

-- a refusal is its number and its offset
refusal_is : (r : Refusal) (n o : ℕ) → number_of (Err r) ≡ n → value_of (Err r) ≡ o → refused n o ≡ Err r
refusal_is r n o e f = rw (← e, ← f) refl

-- ---- "an index asked for at or past the count"
module _ (c : Context) (i : ℕ) (r : Refusal) where
  counted : (t : Bool) → ltb i (count c) ≡ t → pick t (Ok (start_in c.attributes i)) (refused COUNT (used c)) ≡ Err r → IndexRefused c i r
  counted true e q = absurd (done_refused _ r q)
  counted false e q = (sym (ap number_of q), sym (ap value_of q), ltb-false i (count c) e)

  past_in : (start_or_count c i ≡ Err r) ↔ IndexRefused c i r
  past_in = (counted (ltb i (count c)) refl, λ h. rw (le-ltb i (count c) h.2) (refusal_is r COUNT (used c) h.0 h.1))

-- ---- entries that are there
module _ (m : ℕ) (es : List Entry) (out : List ℕ) where
  -- the answer, by whether they fit
  abbrev fitting : Bool → Answer × List ℕ
  fitting t = pick t (Ok (length es), over (numbers es) out) (refused ROOM m, out)

  shorter : (r : Refusal) (t : Bool) → leb (3 * length es) (length out) ≡ t → (fitting t).0 ≡ Err r
      → (number_of (Err r) ≡ ROOM) × (value_of (Err r) ≡ m) × (length out < 3 * length es) × ((fitting t).1 ≡ out)
  shorter r true e q = absurd (done_refused _ r q)
  shorter r false e q = (sym (ap number_of q), sym (ap value_of q), leb-false (3 * length es) (length out) e, refl)

  copied_short : (r : Refusal) → (entries_copied m es out).0 ≡ Err r
      → (number_of (Err r) ≡ ROOM) × (value_of (Err r) ≡ m) × (length out < 3 * length es) × ((entries_copied m es out).1 ≡ out)
  copied_short r = shorter r (leb (3 * length es) (length out)) refl

  short_copied : length out < 3 * length es → (entries_copied m es out).0 ≡ refused ROOM m
  short_copied h = rw (lt-leb (3 * length es) (length out) h)

-- ---- the map of a context
-- no body without members is of type 3
pub map_body : (x : Body) → TypeSuits x → type_of x ≡ 3 → (es : List Entry) × (x ≡ memory_map es)
map_body (platform p) u e = absurd (omega arith)
map_body (kernel k) u e = absurd (omega arith)
map_body (memory_map es) u e = (es, refl)
map_body (module_info m) u e = absurd (omega arith)
map_body (command_line t) u e = absurd (omega arith)
map_body (framebuffer f) u e = absurd (omega arith)
map_body (other t) u e = absurd (omega arith)

module _ (room : ℕ) (c : Context) (m : Meets 2 room c) (out : List ℕ) where
  -- where one is found, its entries decide
  module _ (f : FirstAt (of_type 3) 8 c.attributes (first_in (of_type 3) c)) where
    typed : type_at c f.index ≡ 3
    typed = eqb-true (type_at c f.index) 3 f.meets

    map_found : (es : List Entry) × (body_at c f.index ≡ memory_map es)
    map_found = map_body (body_at c f.index) (m.each f.index f.below).type_suits typed

    copied : map_in c out ≡ entries_copied (used c) map_found.0 out
    copied = rw (f.is, map_found.1)

    same_entries : (i : ℕ) (es : List Entry) → i < count c → body_at c i ≡ memory_map es → es ≡ map_found.0
    same_entries i es h e =
        let q = one_only room c m 3 refl i f.index h f.below (ap type_of e) typed in
        ap entries_of (sym e ∙ ap (body_at c) q ∙ map_found.1)

    short_map : TooShort c (length out) → length out < 3 * length map_found.0
    short_map s = rw (same_entries s.0 s.1 s.2 s.3) at s.4

  -- why the map question refuses, what it then leaves, and that it does
  why : Outcome (of_type 3) 8 c.attributes (first_in (of_type 3) c) → (r : Refusal) → (map_in c out).0 ≡ Err r → MapRefused c (length out) r × ((map_in c out).1 ≡ out)
  why (inl z) r q =
      let k : refused ABSENT (used c) ≡ Err r = rw z.0 at q in
      ((sym (ap value_of k), inl (sym (ap number_of k), λ i h e. eqb-false (type_at c i) 3 (z.1 i h) e)), rw z.0)
  why (inr f) r q =
      let k = copied_short (used c) (map_found f).0 out r (rw (copied f) at q) in
      ((k.1, inr (k.0, (f.index, (map_found f).0, f.below, (map_found f).1, k.2))), rw (copied f) k.3)

  absent : Outcome (of_type 3) 8 c.attributes (first_in (of_type 3) c) → NoMap c → (map_in c out).0 ≡ refused ABSENT (used c)
  absent (inl r) z = rw r.0
  absent (inr f) z = absurd (z f.index f.below (typed f))

  short : Outcome (of_type 3) 8 c.attributes (first_in (of_type 3) c) → TooShort c (length out) → (map_in c out).0 ≡ refused ROOM (used c)
  short (inl r) s = absurd (eqb-false (type_at c s.0) 3 (r.1 s.0 s.2) (ap type_of s.3))
  short (inr f) s = rw (copied f) (short_copied (used c) (map_found f).0 out (short_map f s))

  because : (r : Refusal) → (map_in c out).0 ≡ Err r → MapRefused c (length out) r × ((map_in c out).1 ≡ out)
  because = why (outcome (of_type 3) 8 c.attributes)

  refuses : (r : Refusal) → MapRefused c (length out) r → (map_in c out).0 ≡ Err r
  refuses r (e, inl (k, z)) = absent (outcome (of_type 3) 8 c.attributes) z ∙ refusal_is r ABSENT (used c) k e
  refuses r (e, inr (k, s)) = short (outcome (of_type 3) 8 c.attributes) s ∙ refusal_is r ROOM (used c) k e

-- ---- the statements
module _ (b : List ℕ) (c : Context) (h : HoldsContext 2 b c) where
  start_refuses : (i : ℕ) (r : Refusal) → (attribute_start b i ≡ Err r) ↔ IndexRefused c i r
  start_refuses i r = rw ((questions_by_context b c h).starts i) (past_in c i r)

  -- the whole answer is refused where its start is
  start_passed : (i : ℕ) (r : Refusal) (u : Answer) → with_members (attribute_at (context_of b) i) u ≡ unanswered (Err r) → u ≡ Err r
  start_passed i r (Ok o) e = ap (λ (a : AttributeAnswer). a.answer) e
  start_passed i r (Err s) e = ap (λ (a : AttributeAnswer). a.answer) e

  answer_refuses : (i : ℕ) (r : Refusal) → (attribute_answer b i ≡ unanswered (Err r)) ↔ IndexRefused c i r
  unfolding attribute_answer
  answer_refuses i r = (λ e. (start_refuses i r).0 (start_passed i r (attribute_start b i) e), λ k. rw ((start_refuses i r).1 k) refl)

  map_refuses : (out : List ℕ) (r : Refusal) → ((map_copied b out).0 ≡ Err r) ↔ MapRefused c (length out) r
  map_refuses out r =
      rw ((questions_by_context b c h).maps out) (λ e. (because (room_of b) c h.0 out r e).0, refuses (room_of b) c h.0 out r)

  bytes_refuse : (out : List ℕ) (r : Refusal) → ((map_copied_bytes b out).0 ≡ Err r) ↔ MapRefused c (length out / 8) r
  unfolding map_copied_bytes
  bytes_refuse out r = rw (length_numbers out 0 (length out / 8)) at (map_refuses (numbers_in out) r)

pub questions_refuse : QuestionsRefuseExactly
questions_refuse b c h =
    let q = questions_by_context b c h in
    record {
      attribute = start_refuses b c h;
      attributes = answer_refuses b c h;
      map = map_refuses b c h;
      map_bytes = bytes_refuse b c h;
      kept = λ out r. rw (q.maps out) (λ e. (because (room_of b) c h.0 out r e).1);
      modules = λ a r. rw (q.modules a) (done_refused _ r);
    }

pub refusals_pass_on : RefusalsPassOn
unfolding attribute_start attribute_answer map_copied line_found command_line_part module_holding
refusals_pass_on b r e =
    let f : line_found b ≡ none = rw e in
    record {
      starts = λ i. rw e;
      attributes = λ i. rw e;
      maps = λ out. rw e;
      maps_bytes = λ out y. bytes_kept_law b out y (Err r) (rw e);
      found = f;
      line = rw e;
      modules = λ a. rw e;
      no_slice = λ lent s i q h. slice_empty lent s (attribute_answer s.now i).part (rw (q, e)) h;
      no_line = λ lent s board q h. subst (LineOrBoard lent s board) (ap line_found q ∙ f) h;
    }

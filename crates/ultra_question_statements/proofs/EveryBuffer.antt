-- What the questions answer of every buffer, from the statements on one that holds a list and on one that is refused: there is no other.
use Rattle.std.specs.Prelude.{Ok, Err}
use Prim.Native.Nat.{ℕ, ◌+◌, ◌*◌, ◌/◌, ◌≤◌, ◌<◌}
use mathlib.Core.Path.{◌≡◌, refl, sym, ap, ◌∙◌, subst}
use mathlib.Core.Bool.{Bool, true, false}
use mathlib.Core.List.{List, []}
use mathlib.Core.Logic.{◌↔◌, ◌⊎◌, ◌⊎◌.inl, ◌⊎◌.inr}
use native.Mathlib.Omega.{arith}
use lib.ListN.{length, get_or}
use lib.Dec.{leb, ltb}
use borrow.Author.Tests.{leb-true, leb-false, ltb-true, eqb-true, eqb-false}
use denote.Ref.{Bor}
use Rattle.byte_layout.specs.Stored.{over}
use Rattle.words.specs.Words.{numbers_in}
use Rattle.refusals.specs.Refusals.{COUNT, ROOM, ABSENT}
use Rattle.refusals.specs.Answers.{Answer, refusal, refused}
use Rattle.ultra_format.specs.Contexts.{Entry, Module, Body, type_of, Context, count, attribute_at, body_at, type_at, start_in, used}
use Rattle.ultra_format.specs.Contexts.{Body.platform, Body.kernel, Body.memory_map, Body.module_info, Body.command_line, Body.framebuffer, Body.other}
use Rattle.lent_buffers.specs.Room.{room_of}
use Rattle.ultra_format.specs.Rules.{TypeSuits, Meets}
use Rattle.ultra_format.specs.Decoding.{pick}
use Rattle.refusals.specs.declared.Refusal.{Refusal}
use Rattle.ultra_reading.specs.Reading.{used_length, with_version, version_of, reading_of}
use Rattle.ultra_acceptance.specs.Acceptance.{HoldsContext}
use Rattle.ultra_acceptance.proofs.Acceptance.{accepts_exactly}
use Rattle.ultra_questions.specs.declared.attributes.AttributeAnswer.{AttributeAnswer}
use Rattle.lent_buffers.specs.LentParts.{part, PartOf, WholeOf}
use Rattle.ultra_questions.specs.Parts.{part_bytes}
use Rattle.ultra_locating.specs.Searching.{Found.none, first_in, found_start, of_type}
use Rattle.ultra_question_statements.specs.EveryBuffer.{RefusedBy, MapHeld, NoLine, LineHeld, AnswersOf, EveryBuffer}
use Rattle.ultra_question_statements.specs.QuestionRefusals.{MapRefused, QuestionsRefuseExactly, RefusalsPassOn}
use Rattle.ultra_question_statements.specs.ByContext.{QuestionsByContext}
use Rattle.ultra_question_statements.specs.ByIndex.{ModuleAt, NoModule, ModuleStart, HoldsAddress, QuestionsByIndex}
use Rattle.ultra_question_statements.specs.LastPage.{SamePage, OnPage, LastPage}
use Rattle.ultra_question_statements.specs.MapAsBytes.{CopiesBytes}
use Rattle.ultra_questions.specs.AttributeQuestion.{answered, with_members, attribute_start, attribute_answer, PartHandedBack}
use Rattle.ultra_map_question.specs.MapQuestion.{numbers, map_copied, map_copied_bytes}
use Rattle.ultra_questions.specs.CommandLineQuestion.{found_part, command_line_in, command_line_part, LineOrBoard, LineHandedBack}
use Rattle.ultra_questions.specs.ModuleQuestion.{holding, module_holding}
use Rattle.ultra_crossing.specs.Crossing.{part_crossed}
use Rattle.ultra_question_statements.proofs.PartCells.{slice_empty}
use Rattle.ultra_question_statements.proofs.FirstByIndex.{NoneMeets, FirstAt, Outcome, outcome}
use Rattle.ultra_question_statements.proofs.QuestionRefusals.{done_refused, map_body, questions_refuse, refusals_pass_on}
use Rattle.ultra_question_statements.proofs.ByContext.{questions_by_context}
use Rattle.ultra_question_statements.proofs.ByIndex.{none_said, questions_by_index}
use Rattle.ultra_question_statements.proofs.LastPage.{last_page_law}
use Rattle.ultra_question_statements.proofs.MapAsBytes.{map_as_bytes}

same_refusal : {r s : Refusal} → ◌≡◌ {A = Answer} (Err r) (Err s) → r ≡ s
same_refusal e = cc

module _ (b : List ℕ) (y : (i : ℕ) → get_or b i 0 < 256) where
  -- a buffer is refused or holds a list
  abbrev Either : Type 0
  Either = ((r : Refusal) × (used_length 2 b ≡ Err r)) ⊎ ((c : Context) × HoldsContext 2 b c)

  either : Either
  either = go (used_length 2 b) refl
    where
      go : (u : Answer) → used_length 2 b ≡ u → Either
      go (Ok n) e = let h = (accepts_exactly 2 b n y).0 e in inr (h.0, h.1)
      go (Err r) e = inl (r, e)

  -- what reading refuses
  read_refused : (r : Refusal) → used_length 2 b ≡ Err r → reading_of b ≡ Err r
  unfolding reading_of
  read_refused r e = rw e

  refused_read : (r : Refusal) → reading_of b ≡ Err r → used_length 2 b ≡ Err r
  unfolding reading_of
  refused_read r e = go (used_length 2 b) refl e
    where
      go : (u : Answer) → used_length 2 b ≡ u → with_version (version_of b) u ≡ Err r → used_length 2 b ≡ Err r
      go (Ok n) k q = absurd (let z : ◌≡◌ {A = ℕ} 0 1 = cc in omega arith)
      go (Err s) k q = let w : s ≡ r = cc in k ∙ ap Err w

  -- a question that passes reading's refusal on and else has its own
  module _ (x : Answer) (r : Refusal) (own : Context → Type 0) (passed : (s : Refusal) → used_length 2 b ≡ Err s → x ≡ Err s) (asked : (c : Context) → HoldsContext 2 b c → (x ≡ Err r) ↔ own c) where
    why : Either → x ≡ Err r → RefusedBy b r own
    why (inl (s, e)) q = inl (read_refused s e ∙ ap Err (same_refusal (sym (passed s e) ∙ q)))
    why (inr (c, h)) q = inr (c, h, (asked c h).0 q)

    because : RefusedBy b r own → x ≡ Err r
    because (inl e) = passed r (refused_read r e)
    because (inr (c, h, k)) = (asked c h).1 k

    refuses : (x ≡ Err r) ↔ RefusedBy b r own
    refuses = (why either, because)

  -- a success is not what was passed on
  held : (x : Answer) (n : ℕ) → ((s : Refusal) → used_length 2 b ≡ Err s → x ≡ Err s) → x ≡ Ok n → Either → (c : Context) × HoldsContext 2 b c
  held x n passed e (inl (s, q)) = absurd (done_refused n s (sym e ∙ passed s q))
  held x n passed e (inr h) = h

-- ---- a map question that is not refused has a map, and it fits
module _ (room : ℕ) (c : Context) (m : Meets 2 room c) (x : Answer) (capacity n : ℕ) (asked : (r : Refusal) → (x ≡ Err r) ↔ MapRefused c capacity r) (e : x ≡ Ok n) where
  never : (r : Refusal) → MapRefused c capacity r → ⊥
  never r k = done_refused n r (sym e ∙ (asked r).1 k)

  there : Outcome (of_type 3) 8 c.attributes (first_in (of_type 3) c) → (es : List Entry) × (i : ℕ) × (i < count c) × (body_at c i ≡ memory_map es)
  there (inl r) = absurd (never (refusal ABSENT (used c)) (refl, inl (refl, λ i h k. eqb-false (type_at c i) 3 (r.1 i h) k)))
  there (inr f) =
      let k = map_body (body_at c f.index) (m.each f.index f.below).type_suits (eqb-true (type_at c f.index) 3 f.meets) in
      (k.0, f.index, f.below, k.1)

  its_map : (es : List Entry) × (i : ℕ) × (i < count c) × (body_at c i ≡ memory_map es)
  its_map = there (outcome (of_type 3) 8 c.attributes)

  it_fits : (i : ℕ) (es : List Entry) → i < count c → body_at c i ≡ memory_map es → 3 * length es ≤ capacity
  it_fits i es h k = go (leb (3 * length es) capacity) refl
    where
      go : (t : Bool) → leb (3 * length es) capacity ≡ t → 3 * length es ≤ capacity
      go true q = leb-true (3 * length es) capacity q
      go false q = absurd (never (refusal ROOM (used c)) (refl, inr (refl, (i, es, h, k, leb-false (3 * length es) capacity q))))

-- ---- an attribute of type 5 is a command line
line_body : (x : Body) → TypeSuits x → type_of x ≡ 5 → (t : List ℕ) × (x ≡ command_line t)
line_body (platform p) u e = absurd (omega arith)
line_body (kernel k) u e = absurd (omega arith)
line_body (memory_map es) u e = absurd (omega arith)
line_body (module_info m) u e = absurd (omega arith)
line_body (command_line t) u e = (t, refl)
line_body (framebuffer f) u e = absurd (omega arith)
line_body (other t) u e = absurd (omega arith)

-- the answer of a success, and what is left
count_said : (x : Answer × List ℕ) (k n : ℕ) (l : List ℕ) → x ≡ (Ok k, l) → x.0 ≡ Ok n → n ≡ k
count_said x k n l e q = let w : Ok n ≡ Ok k = sym q ∙ ap (λ (z : Answer × List ℕ). z.0) e in cc

-- ---- what is asked of a module may be said otherwise
module _ (c : Context) {P Q : Module → Type 0} (to : (i : ℕ) (m : Module) → ModuleAt c i m → P m → Q m) (back : (i : ℕ) (m : Module) → ModuleAt c i m → Q m → P m) where
  asked_alike : (o : ℕ) → ModuleStart P c o → ModuleStart Q c o
  asked_alike o (inl n) = inl (n.0, λ i m k q. n.1 i m k (back i m k q))
  asked_alike o (inr (i, e, f)) =
      let g = f.0 in
      inr (i, e, ((g.0, g.1, to i g.0 g.1 g.2), λ j n l k q. f.1 j n l k (back j n k q)))

-- ---- from the statements alone
module _ (refuse : QuestionsRefuseExactly) (pass : RefusalsPassOn) (by_context : QuestionsByContext) (by_index : QuestionsByIndex) (last_page : LastPage) (copies : CopiesBytes) (b : List ℕ) (y : (i : ℕ) → get_or b i 0 < 256) where
  bytes_pass : (out : List ℕ) (s : Refusal) → used_length 2 b ≡ Err s → (map_copied_bytes b out).0 ≡ Err s
  unfolding map_copied_bytes
  bytes_pass out s e = ap (λ (z : Answer × List ℕ). z.0) ((pass b s e).maps (numbers_in out))

  map_pass : (out : List ℕ) (s : Refusal) → used_length 2 b ≡ Err s → (map_copied b out).0 ≡ Err s
  map_pass out s e = ap (λ (z : Answer × List ℕ). z.0) ((pass b s e).maps out)

  kept : (out : List ℕ) (r : Refusal) → (map_copied b out).0 ≡ Err r → Either b y → (map_copied b out).1 ≡ out
  kept out r q (inl (s, e)) = ap (λ (z : Answer × List ℕ). z.1) ((pass b s e).maps out)
  kept out r q (inr (c, h)) = (refuse b c h).kept out r q

  starts : (i o : ℕ) → attribute_start b i ≡ Ok o → (c : Context) × HoldsContext 2 b c
      → (c : Context) × HoldsContext 2 b c × (i < count c) × (o ≡ start_in c.attributes i) × (attribute_answer b i ≡ answered o (attribute_at c i))
  starts i o e (c, h) = go (ltb i (count c)) refl (sym ((by_context b c h).starts i) ∙ e)
    where
      go : (t : Bool) → ltb i (count c) ≡ t → pick t (Ok (start_in c.attributes i)) (refused COUNT (used c)) ≡ Ok o
          → (c : Context) × HoldsContext 2 b c × (i < count c) × (o ≡ start_in c.attributes i) × (attribute_answer b i ≡ answered o (attribute_at c i))
      go true q k = (
        c,
        h,
        ltb-true i (count c) q,
        (let w : o ≡ start_in c.attributes i = cc in w),
        (by_context b c h).attributes i ∙ ap (with_members (attribute_at c i)) (sym ((by_context b c h).starts i) ∙ e),
      )
      go false q k = absurd (let z : ◌≡◌ {A = ℕ} 0 1 = cc in omega arith)

  no_part_law : (lent s : Bor (List ℕ)) (i : ℕ) (r : Refusal) → s.now ≡ b → attribute_start b i ≡ Err r → PartHandedBack lent s i → Either b y → lent.now ≡ []
  no_part_law lent s i r k e p (inl (q, u)) = (pass b q u).no_slice lent s i k p
  no_part_law lent s i r k e p (inr (c, h)) =
      let w = (by_context b c h).attributes i ∙ ap (with_members (attribute_at c i)) (sym ((by_context b c h).starts i) ∙ e) in
      slice_empty lent s (attribute_answer s.now i).part (ap (λ (l : List ℕ). (attribute_answer l i).part) k ∙ ap (λ (a : AttributeAnswer). a.part) w) p

  copied : (out : List ℕ) (n : ℕ) → (map_copied b out).0 ≡ Ok n → (c : Context) × HoldsContext 2 b c
      → (es : List Entry) × MapHeld b es × (n ≡ length es) × ((map_copied b out).1 ≡ over (numbers es) out)
  copied out n e (c, h) =
      let k = its_map (room_of b) c h.0 (map_copied b out).0 (length out) n ((refuse b c h).map out) e in
      let f = it_fits (room_of b) c h.0 (map_copied b out).0 (length out) n ((refuse b c h).map out) e k.1 k.0 k.2 k.3 in
      let w = (by_index b c h).map k.1 k.0 out k.2 k.3 f in
      (k.0, (c, h, k.1, k.2, k.3), count_said (map_copied b out) (length k.0) n _ w e, ap (λ (z : Answer × List ℕ). z.1) w)

  bytes_copied_law : (out : List ℕ) (n : ℕ) → ((i : ℕ) → get_or out i 0 < 256) → (map_copied_bytes b out).0 ≡ Ok n → (c : Context) × HoldsContext 2 b c
      → (es : List Entry) × MapHeld b es × (n ≡ length es) × ((map_copied_bytes b out).1 ≡ over (part_bytes (memory_map es)) out)
  bytes_copied_law out n z e (c, h) =
      let k = its_map (room_of b) c h.0 (map_copied_bytes b out).0 (length out / 8) n ((refuse b c h).map_bytes out) e in
      let f = it_fits (room_of b) c h.0 (map_copied_bytes b out).0 (length out / 8) n ((refuse b c h).map_bytes out) e k.1 k.0 k.2 k.3 in
      let w = (by_index b c h).map_bytes k.1 k.0 out z k.2 k.3 f in
      (k.0, (c, h, k.1, k.2, k.3), count_said (map_copied_bytes b out) (length k.0) n _ w e, ap (λ (x : Answer × List ℕ). x.1) w)

  module_refused_law : (a : ℕ) (r : Refusal) → Either b y → module_holding b a ≡ Err r → reading_of b ≡ Err r
  module_refused_law a r (inl (s, e)) q = read_refused b y s e ∙ ap Err (same_refusal (sym ((pass b s e).modules a) ∙ q))
  module_refused_law a r (inr (c, h)) q = absurd ((refuse b c h).modules a r q)

  module_held : (a o : ℕ) → module_holding b a ≡ Ok o → (c : Context) × HoldsContext 2 b c
  module_held a o e = held b y (module_holding b a) o (λ s q. (pass b s q).modules a) e (either b y)

  -- by pages
  module _ (c : Context) (h : HoldsContext 2 b c) (a o : ℕ) where
    on_page : (module_holding b a ≡ Ok o) ↔ ModuleStart (OnPage a) c o
    on_page =
        let p = (last_page.contexts b c h).pages in
        let q = (by_index b c h).modules a o in
        (λ e. asked_alike c (λ i m k. (p i m a k).0) (λ i m k. (p i m a k).1) o (q.0 e), λ s. q.1 (asked_alike c (λ i m k. (p i m a k).1) (λ i m k. (p i m a k).0) o s))

  page_start : (a o : ℕ) → (module_holding b a ≡ Ok o) ↔ ((c : Context) × HoldsContext 2 b c × ModuleStart (OnPage a) c o)
  page_start a o = (λ e. let k = module_held a o e in (k.0, k.1, (on_page k.0 k.1 a o).0 e), λ k. (on_page k.0 k.1 a o).1 k.2)

  page_free_law : (a : ℕ) → (module_holding b a ≡ Ok 0) ↔ ((c : Context) × HoldsContext 2 b c × NoModule (OnPage a) c)
  page_free_law a = (λ e. let k = (page_start a 0).0 e in (k.0, k.1, none_said (OnPage a) k.0 k.2), λ k. (page_start a 0).1 (k.0, k.1, inl (refl, k.2)))

  held_below_law : (a o : ℕ) → module_holding b a ≡ Ok o → 1 ≤ o → a < 18446744073709551616
  held_below_law a o e l = let k = module_held a o e in below k.0 k.1 (((by_index b k.0 k.1).modules a o).0 e)
    where
      below : (c : Context) → HoldsContext 2 b c → ModuleStart (HoldsAddress a) c o → a < 18446744073709551616
      below c h (inl n) = absurd (omega (arith, n.0))
      below c h (inr (i, e, f)) = let g = f.0 in let w = (last_page.contexts b c h).fits i g.0 g.1 in omega (arith, g.2)

  one_page_law : (a x : ℕ) → SamePage a x → Either b y → module_holding b a ≡ module_holding b x
  one_page_law a x s (inl (r, e)) = (pass b r e).modules a ∙ sym ((pass b r e).modules x)
  one_page_law a x s (inr (c, h)) =
      let o = found_start (first_in (holding a) c) in
      let e = (by_context b c h).modules a in
      e ∙ sym ((on_page c h x o).1 (asked_alike c (λ i m k p. (p.0, p.1, p.2, p.3 ∙ s)) (λ i m k p. (p.0, p.1, p.2, p.3 ∙ sym s)) o ((on_page c h a o).0 e)))

  -- ---- the command line
  none_of : (c : Context) → (first_in (of_type 5) c ≡ none) × NoneMeets (of_type 5) c.attributes → (i : ℕ) → i < count c → type_at c i ≡ 5 → ⊥
  none_of c r i k = eqb-false (type_at c i) 5 (r.1 i k)

  line_at : (c : Context) → HoldsContext 2 b c → (f : FirstAt (of_type 5) 8 c.attributes (first_in (of_type 5) c)) → (t : List ℕ) × (body_at c f.index ≡ command_line t)
  line_at c h f = line_body (body_at c f.index) (h.0.each f.index f.below).type_suits (eqb-true (type_at c f.index) 5 f.meets)

  module _ (lent s board : Bor (List ℕ)) (e : s.now ≡ b) (p : LineHandedBack lent s board) where
    line_of : (c : Context) → HoldsContext 2 b c → Outcome (of_type 5) 8 c.attributes (first_in (of_type 5) c) → (WholeOf lent board × NoLine b) ⊎ LineHeld b lent s
    line_of c h (inl r) = inl (subst (LineOrBoard lent s board) r.0 ((by_context b c h).slice lent s board e p).0, inr (c, h, none_of c r))
    line_of c h (inr f) =
        let i = f.index in
        let k = line_at c h f in
        let w = (by_index b c h).line i k.0 f.below k.1 in
        let l = (by_context b c h).slice lent s board e p in
        let t : k.0 ≡ lent.now = sym (w.1 board.now) ∙ sym l.1 in
        let q : command_line_in c ≡ part (start_in c.attributes i + 8) (length lent.now) = sym (by_context b c h).line ∙ w.0 ∙ ap (λ (x : List ℕ). part (start_in c.attributes i + 8) (length x)) t in
        let g : PartOf lent s (part (start_in c.attributes i + 8) (length lent.now)) = subst (PartOf lent s) (sym (ap found_part f.is) ∙ q) (subst (LineOrBoard lent s board) f.is l.0) in
        inr (c, h, i, f.below, k.1 ∙ ap command_line t, (g.block, g.offset), g)

    line_is : Either b y → (WholeOf lent board × NoLine b) ⊎ LineHeld b lent s
    line_is (inl (r, q)) = inl ((pass b r q).no_line lent s board e p, inl (r, read_refused b y r q))
    line_is (inr (c, h)) = line_of c h (outcome (of_type 5) 8 c.attributes)

  number_of_law : (c : Context) → HoldsContext 2 b c → part_crossed (command_line_part b) ≡ 0 → Outcome (of_type 5) 8 c.attributes (first_in (of_type 5) c) → NoLine b
  number_of_law c h z (inl r) = inr (c, h, none_of c r)
  number_of_law c h z (inr f) =
      let k = line_at c h f in
      absurd (omega (arith, z, ap part_crossed ((by_index b c h).line f.index k.0 f.below k.1).0))

  zero_no_line : part_crossed (command_line_part b) ≡ 0 → Either b y → NoLine b
  zero_no_line z (inl (r, q)) = inl (r, read_refused b y r q)
  zero_no_line z (inr (c, h)) = number_of_law c h z (outcome (of_type 5) 8 c.attributes)

  no_line_zero : NoLine b → part_crossed (command_line_part b) ≡ 0
  no_line_zero (inl (r, q)) = ap part_crossed (pass b r (refused_read b y r q)).line
  no_line_zero (inr (c, h, n)) = ap part_crossed ((by_index b c h).no_line n).0

  answers_of : AnswersOf b
  answers_of =
      record {
        attribute_refused = λ i r. refuses b y (attribute_start b i) r _ (λ s e. (pass b s e).starts i) (λ c h. (refuse b c h).attribute i r);
        map_refused = λ out r. refuses b y (map_copied b out).0 r _ (map_pass out) (λ c h. (refuse b c h).map out r);
        bytes_refused = λ out r. refuses b y (map_copied_bytes b out).0 r _ (bytes_pass out) (λ c h. (refuse b c h).map_bytes out r);
        module_refused = λ a r. (module_refused_law a r (either b y), λ e. (pass b r (refused_read b y r e)).modules a);
        map_kept = λ out r q. kept out r q (either b y);
        bytes_kept = λ out r z q. (copies b out y z).refuses r q;
        no_part = λ lent s i r k e p. no_part_law lent s i r k e p (either b y);
        attribute_starts = λ i o e. starts i o e (held b y (attribute_start b i) o (λ s k. (pass b s k).starts i) e (either b y));
        map_copies = λ out n e. copied out n e (held b y (map_copied b out).0 n (map_pass out) e (either b y));
        bytes_copied = λ out n z e. bytes_copied_law out n z e (held b y (map_copied_bytes b out).0 n (bytes_pass out) e (either b y));
        module_start =
            λ a o. (
              λ e. let k = module_held a o e in (k.0, k.1, ((by_index b k.0 k.1).modules a o).0 e),
              λ k. ((by_index b k.0 k.1).modules a o).1 k.2,
            );
        module_page = page_start;
        page_free = page_free_law;
        held_below = held_below_law;
        one_page = λ a x s. one_page_law a x s (either b y);
        line = λ lent s board e p. line_is lent s board e p (either b y);
        line_number = (λ z. zero_no_line z (either b y), no_line_zero);
      }

pub every_buffer : EveryBuffer
every_buffer = answers_of questions_refuse refusals_pass_on questions_by_context questions_by_index last_page_law map_as_bytes

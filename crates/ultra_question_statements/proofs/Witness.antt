-- What the statements on the questions say of the context with every type.
use Rattle.std.specs.Prelude.{Err}
use Prim.Native.Nat.{ℕ, ◌+◌, ◌<◌}
use mathlib.Core.Path.{◌≡◌, refl, sym, ap, ◌∙◌, subst}
use mathlib.Core.List.{List, [], ◌∷◌}
use mathlib.Core.Logic.{◌⊎◌, ◌⊎◌.inl, ◌⊎◌.inr}
use native.Mathlib.Omega.{arith}
use lib.ListN.{length, get_or}
use denote.Ref.{Bor}
use Rattle.byte_layout.specs.Stored.{bytes_at}
use Rattle.refusals.specs.Answers.{Answer, refusal, refused}
use Rattle.ultra_format.specs.Contexts.{type_of, Body.command_line, Context, count, body_at, type_at, start_in, total}
use Rattle.lent_buffers.specs.Room.{room_of}
use Rattle.ultra_format.specs.Examples.{every_map, every_type, every_type_bytes}
use Rattle.ultra_format.proofs.Witness.{every_type_meets, every_type_opens}
use Rattle.ultra_acceptance.specs.Acceptance.{HoldsContext}
use Rattle.ultra_acceptance.proofs.Acceptance.{one_context, held_reading}
use Rattle.ultra_stepping.specs.Checks.{head_check}
use Rattle.ultra_reading.specs.Reading.{used_length, reading_of}
use Rattle.lent_buffers.specs.declared.Part.{Part}
use Rattle.lent_buffers.specs.LentParts.{part, LiesAt, WholeOf}
use Rattle.ultra_locating.specs.Searching.{first}
use Rattle.ultra_questions.specs.Parts.{body_part, part_bytes}
use Rattle.ultra_questions.specs.CommandLineQuestion.{command_line_part, LineOrBoard, LineHandedBack}
use Rattle.ultra_map_question.specs.MapQuestion.{numbers, map_copied, map_copied_bytes}
use Rattle.address_ranges.specs.Ranges.{pages_cover}
use Rattle.ultra_crossing.specs.Crossing.{part_crossed}
use Rattle.ultra_question_statements.specs.ByContext.{ByContext}
use Rattle.ultra_question_statements.specs.ByIndex.{ByIndex}
use Rattle.ultra_question_statements.specs.QuestionRefusals.{QuestionsRefuse}
use Rattle.ultra_question_statements.specs.EveryBuffer.{NoLine, LineHeld}
use Rattle.ultra_question_statements.specs.BoardText.{HandedBackBefore}
use Rattle.ultra_question_statements.specs.Witness.{every_line, lent_at, Witnessed}
use Rattle.ultra_question_statements.proofs.ByContext.{questions_by_context}
use Rattle.ultra_question_statements.proofs.ByIndex.{questions_by_index}
use Rattle.ultra_question_statements.proofs.LastPage.{last_page_law}
use Rattle.ultra_question_statements.proofs.FirstByIndex.{one_only}
use Rattle.ultra_question_statements.proofs.EveryBuffer.{every_buffer}
use Rattle.ultra_question_statements.proofs.BoardText.{board_text_law}
use Rattle.ultra_question_statements.proofs.QuestionRefusals.{questions_refuse, refusals_pass_on}

holds : HoldsContext 2 every_type_bytes every_type
holds = (every_type_meets, every_type_opens)

answers : ByContext every_type_bytes every_type
answers = questions_by_context every_type_bytes every_type holds

by_index : ByIndex every_type_bytes every_type
by_index = questions_by_index every_type_bytes every_type holds

refuses : QuestionsRefuse every_type_bytes every_type
refuses = questions_refuse every_type_bytes every_type holds

short : (out : List ℕ) → length out ≡ 5 → (map_copied every_type_bytes out).0 ≡ refused 18 688
unfolding total
short out e = (refuses.map out (refusal 18 688)).1 (refl, inr (refl, (2, every_map, omega arith, refl, omega arith)))

short_bytes_law : (out : List ℕ) → length out ≡ 47 → (map_copied_bytes every_type_bytes out).0 ≡ refused 18 688
unfolding total
short_bytes_law out e = (refuses.map_bytes out (refusal 18 688)).1 (refl, inr (refl, (2, every_map, omega arith, refl, omega arith)))

line : command_line_part every_type_bytes ≡ part 616 8
unfolding total
line = (by_index.line 4 _ (omega arith) refl).0

-- all of a text, by its pointers
pub pointers : (lent s : Bor (List ℕ)) → WholeOf lent s → (lent.ref_ptr.0 ≡ s.ref_ptr.0) × (lent.ref_ptr.1 ≡ s.ref_ptr.1) × (lent.now ≡ s.now)
pointers lent s w = (ap (λ (p : ℕ × ℕ). p.0) w.0, ap (λ (p : ℕ × ℕ). p.1) w.0, w.1)

-- what is found of the command line, in the context and of no bytes
line_slice_law : (board : Bor (List ℕ)) → LineHandedBack (lent_at 4712 every_line) (lent_at 4096 every_type_bytes) board
unfolding total first body_part bytes_at
line_slice_law board =
    subst (LineOrBoard (lent_at 4712 every_line) (lent_at 4096 every_type_bytes) board) (sym answers.found) (record { block = refl; offset = refl; within = omega arith; has = refl })

any_line_law : (lent s board : Bor (List ℕ)) → s.now ≡ every_type_bytes → LineHandedBack lent s board
    → (lent.ref_ptr.0 ≡ s.ref_ptr.0) × (lent.ref_ptr.1 ≡ 616 + s.ref_ptr.1) × (lent.now ≡ every_line)
unfolding total first body_part part_bytes
any_line_law lent s board e h = let w = answers.slice lent s board e h in (w.0.block, w.0.offset, w.1)

none_read : used_length 2 [] ≡ refused 1 0
unfolding used_length head_check
none_read = refl

none_refused : reading_of [] ≡ Err (refusal 1 0)
unfolding reading_of
none_refused = rw none_read

board_slice_law : (lent s board : Bor (List ℕ)) → s.now ≡ [] → LineHandedBack lent s board → WholeOf lent board
board_slice_law = (refusals_pass_on [] _ none_read).no_line

before_line : HandedBackBefore (lent_at 4712 every_line) (lent_at 4096 every_type_bytes)
unfolding bytes_at
before_line = rw (← (board_text_law.unmoved every_type_bytes), line) (record { block = refl; offset = refl; within = omega arith; has = refl })

before_none : HandedBackBefore (lent_at 4096 []) (lent_at 4096 [])
unfolding bytes_at
before_none = rw (← (board_text_law.unmoved []), (refusals_pass_on [] _ none_read).line) (record { block = refl; offset = refl; within = omega arith; has = refl })

-- ---- of any context, from the statement on every buffer
no_byte : (j : ℕ) → get_or [] j 0 < 256
no_byte j = omega arith

module _ (b : List ℕ) (y : (j : ℕ) → get_or b j 0 < 256) (c : Context) (h : HoldsContext 2 b c) where
  has_line : (i : ℕ) (t : List ℕ) → i < count c → body_at c i ≡ command_line t → NoLine b → ⊥
  has_line i t k e (inl (r, q)) = let a = sym q ∙ held_reading b c h in let z : ◌≡◌ {A = ℕ} 0 1 = cc in omega arith
  has_line i t k e (inr (d, g, n)) =
      subst (λ (x : Context). (j : ℕ) → j < count x → type_at x j ≡ 5 → ⊥) (one_context 2 b d c g h) n i k (ap type_of e)

  has_none : ((i : ℕ) → i < count c → type_at c i ≡ 5 → ⊥) → (d : Context) → HoldsContext 2 b d → (i : ℕ) (t : List ℕ) → i < count d → body_at d i ≡ command_line t → ⊥
  has_none n d g i t k e = subst (λ (x : Context). (j : ℕ) → j < count x → type_at x j ≡ 5 → ⊥) (one_context 2 b c d h g) n i k (ap type_of e)

  same_line_law : (i j : ℕ) (t u : List ℕ) → i < count c → j < count c → body_at c i ≡ command_line t → body_at c j ≡ command_line u → (j ≡ i) × (u ≡ t)
  same_line_law i j t u k l e f =
      let q = one_only (room_of b) c h.0 5 refl j i l k (ap type_of f) (ap type_of e) in
      let w : command_line u ≡ command_line t = sym f ∙ ap (body_at c) q ∙ e in
      (q, (let z : u ≡ t = cc in z))

  held_number_law : (i : ℕ) (t : List ℕ) → i < count c → body_at c i ≡ command_line t → part_crossed (command_line_part b) ≡ 0 → ⊥
  held_number_law i t k e z = has_line i t k e ((every_buffer b y).line_number.0 z)

module _ (lent s board : Bor (List ℕ)) (y : (j : ℕ) → get_or s.now j 0 < 256) (c : Context) (h : HoldsContext 2 s.now c) (g : LineHandedBack lent s board) where
  abbrev At : ℕ → List ℕ → Type 0
  At i t = (lent.ref_ptr.0 ≡ s.ref_ptr.0) × (lent.ref_ptr.1 ≡ start_in c.attributes i + 8 + s.ref_ptr.1) × (lent.now ≡ t)

  abbrev HeldIn : Context → Type 0
  HeldIn d = (j : ℕ) × (j < count d) × (body_at d j ≡ command_line lent.now) × LiesAt lent s (start_in d.attributes j + 8)

  held_line_law : (i : ℕ) (t : List ℕ) → i < count c → body_at c i ≡ command_line t → At i t
  held_line_law i t k e = go ((every_buffer s.now y).line lent s board refl g)
    where
      in_c : HeldIn c → At i t
      in_c (j, l, f, at) =
          let q = same_line_law s.now y c h i j t lent.now k l e f in
          (at.0, at.1 ∙ ap (λ (n : ℕ). start_in c.attributes n + 8 + s.ref_ptr.1) q.0, q.1)

      go : (WholeOf lent board × NoLine s.now) ⊎ LineHeld s.now lent s → At i t
      go (inl (w, n)) = absurd (has_line s.now y c h i t k e n)
      go (inr (d, hd, j, l, f, at, p)) = in_c (subst HeldIn (one_context 2 s.now d c hd h) (j, l, f, at))

  held_none_law : ((i : ℕ) → i < count c → type_at c i ≡ 5 → ⊥) → WholeOf lent board
  held_none_law n = go ((every_buffer s.now y).line lent s board refl g)
    where
      go : (WholeOf lent board × NoLine s.now) ⊎ LineHeld s.now lent s → WholeOf lent board
      go (inl (w, m)) = w
      go (inr (d, hd, j, l, f, at, p)) = absurd (has_none s.now y c h n d hd j lent.now l f)

pub witnessed : Witnessed
unfolding total first pages_cover numbers
witnessed =
    record {
      holds = holds;
      last = answers.starts 6;
      past = (refuses.attribute 7 (refusal 3 688)).1 (refl, refl, omega arith);
      before = answers.modules 8589934591;
      first_byte = answers.modules 8589934592;
      last_byte = answers.modules 8589942783;
      after = answers.modules 8589942784;
      rounded_end = (last_page_law.contexts every_type_bytes every_type holds).fits 3 _ (omega arith, refl);
      last_page = ((last_page_law.ends 18446744073709547520 1 (4503599627370495, refl)).0 (omega arith), λ h. omega (arith, (last_page_law.ends 18446744073709547520 4097 (4503599627370495, refl)).1 h));
      half_page = (omega arith, λ h. omega (arith, h));
      map = λ a b c d e f rest. by_index.map 2 every_map (a ∷ b ∷ c ∷ d ∷ e ∷ f ∷ rest) (omega arith) refl (omega arith);
      too_short = λ out e. (short out e, refuses.kept out (refusal 18 688) (short out e));
      map_bytes = λ out e y. ap (λ (r : Answer × List ℕ). r.0) (by_index.map_bytes 2 every_map out y (omega arith) refl (omega arith));
      bytes_too_short = short_bytes_law;
      line = line;
      line_slice = line_slice_law;
      any_line = any_line_law;
      board_slice = λ board. subst (LineOrBoard board (lent_at 4096 []) board) (sym (refusals_pass_on [] _ none_read).found) (refl, refl);
      any_board = λ lent s board e h. pointers lent board (board_slice_law lent s board e h);
      no_difference = λ lent before s board x h g e. board_text_law.no_difference lent before s board h g e;
      same_line = λ lent before s board e h g. pointers lent before (board_text_law.same_line lent before s board h g (λ z. omega (arith, z, ap (λ (p : Part). p.start) (board_text_law.unmoved s.now), ap (λ (l : List ℕ). (command_line_part l).start) e, ap (λ (p : Part). p.start) line)));
      handed_before = (before_line, before_none);
      held_line = λ lent s board c i t y h k e g. held_line_law lent s board y c h g i t k e;
      held_none = λ lent s board c y h n g. pointers lent board (held_none_law lent s board y c h g n);
      no_number = (every_buffer [] no_byte).line_number.1 (inl (refusal 1 0, none_refused));
      held_number = λ b c i t y h k e z. held_number_law b y c h i t k e z;
      settled = λ lent other s board x h g. pointers lent other (board_text_law.settled lent other s board h g);
    }

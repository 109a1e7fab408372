-- Each question answers by the context that the buffer holds: reading accepts the buffer, and what is decoded from it is that context.
use Rattle.std.specs.Prelude.{Ok}
use Prim.Native.Nat.{ℕ}
use mathlib.Core.Path.{◌≡◌, refl, sym, ap, ◌∙◌, subst}
use mathlib.Core.Bool.{Bool, true, false}
use mathlib.Core.List.{List, []}
use native.Mathlib.Omega.{arith}
use lib.Dec.{eqb}
use borrow.Author.Tests.{eqb-true, eqb-false}
use denote.Ref.{Bor}
use Rattle.byte_layout.specs.Stored.{bytes_at}
use Rattle.ultra_format.specs.Contexts.{Attribute, Context, used}
use Rattle.lent_buffers.specs.Room.{room_of}
use Rattle.ultra_format.specs.Decoding.{start, context_of}
use Rattle.ultra_format.proofs.Decoded.{count_decoded, start_decoded, at_decoded, decoded_only}
use Rattle.ultra_reading.specs.Reading.{used_length}
use Rattle.ultra_acceptance.specs.Acceptance.{HoldsContext}
use Rattle.ultra_acceptance.proofs.Acceptance.{complete}
use Rattle.ultra_questions.specs.Parts.{body_part, part_bytes}
use Rattle.ultra_questions.specs.AttributeQuestion.{attribute_start, attribute_answer}
use Rattle.ultra_map_question.specs.MapQuestion.{map_copied}
use Rattle.ultra_questions.specs.CommandLineQuestion.{line_in, found_part, command_line_in, found_text, text_in, line_found, command_line_part, LineOrBoard, LineHandedBack}
use Rattle.ultra_questions.specs.ModuleQuestion.{module_holding}
use Rattle.ultra_locating.specs.Searching.{Found, Found.none, Found.found, found_start, of_type}
use Rattle.ultra_question_statements.specs.ByContext.{ByContext, QuestionsByContext}
use Rattle.ultra_locating.proofs.Searches.{found_at, none_at}
use Rattle.ultra_question_statements.proofs.PartCells.{part_bytes_law, slice_bytes}

module _ (b : List ℕ) (h : HoldsContext 2 b (context_of b)) where
  -- the part of what is found has its bytes
  found_text_law : (t : Bool) → eqb (found_start (line_in (context_of b))) 0 ≡ t
      → let p = command_line_in (context_of b) in bytes_at b p.start p.length ≡ text_in [] (context_of b)
  unfolding bytes_at
  found_text_law true e = rw (none_at (of_type 5) b (eqb-true _ 0 e))
  found_text_law false e =
      let f = found_at (of_type 5) b (eqb-false _ 0 e) in
      let i = f.index in
      let o = start_decoded b i (omega (arith, f.below)) in
      rw f.is
      (subst (λ (a : Attribute). bytes_at b (body_part (start b i) a.body).start (body_part (start b i) a.body).length ≡ part_bytes a.body) (at_decoded b i f.below)
      (rw o at (part_bytes_law b 2 (room_of b) (context_of b) h.0 h.1 i (rw count_decoded f.below))))

  line_text_law : let p = command_line_in (context_of b) in bytes_at b p.start p.length ≡ text_in [] (context_of b)
  line_text_law = found_text_law (eqb (found_start (line_in (context_of b))) 0) refl

module _ (b : List ℕ) (c : Context) (h : HoldsContext 2 b (context_of b)) (e : used_length 2 b ≡ Ok (used c)) (q : context_of b ≡ c) where
  found_is : line_found b ≡ line_in c
  unfolding line_found
  found_is = rw (e, q)

  line_is : command_line_part b ≡ command_line_in c
  unfolding command_line_part
  line_is = ap found_part found_is

  text_is : let p = command_line_in c in bytes_at b p.start p.length ≡ text_in [] c
  text_is = rw q at (line_text_law b h)

  module _ (lent s board : Bor (List ℕ)) (k : s.now ≡ b) where
    slice_text : (f : Found) → bytes_at b (found_part f).start (found_part f).length ≡ found_text [] f → LineOrBoard lent s board f → lent.now ≡ found_text board.now f
    slice_text none t w = w.1
    slice_text (found o a) t w = slice_bytes b lent s (body_part o a.body) k w ∙ t

    slice_is : LineHandedBack lent s board → LineOrBoard lent s board (line_in c) × (lent.now ≡ text_in board.now c)
    slice_is g = let w = subst (LineOrBoard lent s board) (ap line_found k ∙ found_is) g in (w, slice_text (line_in c) text_is w)

  by_context : ByContext b c
  unfolding attribute_start attribute_answer map_copied module_holding
  by_context =
      record {
        starts = λ i. rw (e, q);
        attributes = λ i. rw (e, q);
        maps = λ out. rw (e, q);
        found = found_is;
        line = line_is;
        text = rw line_is text_is;
        slice = slice_is;
        modules = λ a. rw (e, q);
      }

pub questions_by_context : QuestionsByContext
questions_by_context b c h =
    let q = decoded_only 2 (room_of b) b c h.0 h.1 in
    by_context b c (subst (HoldsContext 2 b) q h) (complete 2 b c h.0 h.1) (sym q)

-- Laws of the command line question: each answer from the facts that lead to it, that the part lies within the buffer, and that a line never
-- starts at 0.
use Rattle.std.specs.Prelude.{Ok, Err}
use Prim.Native.Nat.{ℕ, ◌+◌, ◌≤◌}
use mathlib.Core.Path.{◌≡◌, refl, sym, ap, subst}
use mathlib.Core.Bool.{Bool, true, false}
use mathlib.Core.List.{List}
use native.Mathlib.Omega.{arith}
use lib.ListN.{length}
use lib.Dec.{eqb}
use borrow.Author.Tests.{eqb-true, eqb-false}
use denote.Ref.{Bor}
use Rattle.ultra_format.specs.Decoding.{start, stored_type, stored_size, context_of}
use Rattle.refusals.specs.declared.Refusal.{Refusal}
use Rattle.refusals.specs.Answers.{Answer}
use Rattle.ultra_reading.specs.Reading.{used_length}
use Rattle.lent_buffers.specs.declared.Part.{Part}
use Rattle.ultra_locating.specs.Passing.{if_accepted}
use Rattle.lent_buffers.specs.LentParts.{no_part, PartOf, WholeOf}
use Rattle.ultra_locating.specs.Searching.{Found, Found.none, Found.found, found_start, of_type}
use Rattle.ultra_questions.specs.CommandLineQuestion.{line_in, found_part, command_line_in, line_found, command_line_part, LineOrBoard, LineHandedBack}
use Rattle.ultra_locating.proofs.Located.{inside}
use Rattle.ultra_locating.proofs.Searches.{found_at, none_at, type_said}
use Rattle.ultra_questions.proofs.BodyLaws.{line_part, part_within}

module _ (b : List ℕ) where
  pub line_passed : {r : Refusal} → used_length 2 b ≡ Err r → no_part ≡ command_line_part b
  unfolding command_line_part line_found
  line_passed e = rw e

  pub line_found_law : {n : ℕ} {f : Found} → used_length 2 b ≡ Ok n → line_in (context_of b) ≡ f → found_part f ≡ command_line_part b
  unfolding command_line_part line_found
  line_found_law e k = rw (e, k)

  Fits : Part → Type 0
  Fits p = p.start + p.length ≤ length b

  found_within : (n : ℕ) → used_length 2 b ≡ Ok n → (t : Bool) → eqb (found_start (line_in (context_of b))) 0 ≡ t → Fits (command_line_in (context_of b))
  unfolding Fits
  found_within n e true q = rw (none_at (of_type 5) b (eqb-true _ 0 q)) (omega arith)
  found_within n e false q =
      let f = found_at (of_type 5) b (eqb-false _ 0 q) in
      let i = f.index in
      let k = inside b (n, e) i f.below in
      let w = part_within b (start b i) (stored_size b i) (stored_type b i) k.suits in
      rw f.is (omega (arith, w, k.within))

  read_within : (u : Answer) → used_length 2 b ≡ u → Fits (found_part (if_accepted (λ r. none) (line_in (context_of b)) u))
  unfolding Fits
  read_within (Ok n) e = found_within n e (eqb (found_start (line_in (context_of b))) 0) refl
  read_within (Err r) e = omega arith

  pub line_within : (command_line_part b).start + (command_line_part b).length ≤ length b
  unfolding command_line_part line_found Fits
  line_within = read_within (used_length 2 b) refl

  -- ---- a line never starts at 0
  none_found : (t : Bool) → eqb (found_start (line_in (context_of b))) 0 ≡ t → (command_line_in (context_of b)).start ≡ 0 → line_in (context_of b) ≡ none
  none_found true q z = none_at (of_type 5) b (eqb-true _ 0 q)
  none_found false q z =
      let f = found_at (of_type 5) b (eqb-false _ 0 q) in
      let i = f.index in
      let w = line_part b (start b i) (stored_size b i) (stored_type b i) (type_said b i 5 f.meets) in
      absurd (omega (arith, z, ap (λ (x : Found). (found_part x).start) f.is, ap (λ (p : Part). p.start) w))

  none_read : (u : Answer) → let f = if_accepted (λ r. none) (line_in (context_of b)) u in (found_part f).start ≡ 0 → f ≡ none
  none_read (Ok n) z = none_found (eqb (found_start (line_in (context_of b))) 0) refl z
  none_read (Err r) z = refl

  no_line_law : (command_line_part b).start ≡ 0 → line_found b ≡ none
  unfolding command_line_part line_found
  no_line_law z = none_read (used_length 2 b) z

-- ---- what is handed back
module _ (lent s board : Bor (List ℕ)) where
  part_of_line : (f : Found) → ((found_part f).start ≡ 0 → ⊥) → PartOf lent s (found_part f) → LineOrBoard lent s board f
  part_of_line none n p = absurd (n refl)
  part_of_line (found o a) n p = p

  pub hands_line : ((command_line_part s.now).start ≡ 0 → ⊥) → PartOf lent s (command_line_part s.now) → LineHandedBack lent s board
  unfolding command_line_part
  hands_line n p = part_of_line (line_found s.now) n p

  pub hands_board : (command_line_part s.now).start ≡ 0 → WholeOf lent board → LineHandedBack lent s board
  hands_board z w = subst (LineOrBoard lent s board) (sym (no_line_law s.now z)) w

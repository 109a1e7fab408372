-- Laws of the attribute question: each answer from the facts that lead to it, and what a start says.
use Rattle.std.specs.Prelude.{Ok, Err}
use Prim.Native.Nat.{ℕ, ◌+◌, ◌≤◌, ◌<◌}
use mathlib.Core.Path.{◌≡◌, refl, sym, ap, ◌∙◌}
use mathlib.Core.Bool.{Bool, true, false}
use mathlib.Core.List.{List}
use native.Mathlib.Omega.{arith}
use lib.ListN.{length}
use lib.Dec.{ltb}
use borrow.Author.Tests.{ltb-true, lt-ltb, le-ltb}
use Rattle.refusals.specs.Refusals.{COUNT}
use Rattle.refusals.specs.Answers.{Answer, refused}
use Rattle.ultra_format.specs.Contexts.{count, attribute_at, start_in, used}
use Rattle.ultra_format.specs.Decoding.{pick, decoded, start, stored_type, stored_size, stored_count, stored_attribute, context_of}
use Rattle.ultra_format.specs.Records.{records_of}
use Rattle.refusals.specs.declared.Refusal.{Refusal}
use Rattle.ultra_format.specs.declared.records.Records.{Records}
use Rattle.ultra_format.proofs.Bodies.{decoded_type}
use Rattle.ultra_format.proofs.Decoded.{count_decoded, start_decoded, at_decoded}
use Rattle.ultra_reading.specs.Reading.{used_length}
use Rattle.lent_buffers.specs.declared.Part.{Part}
use Rattle.ultra_questions.specs.declared.attributes.AttributeAnswer.{AttributeAnswer}
use Rattle.ultra_locating.specs.Passing.{if_accepted, Accepts}
use Rattle.ultra_questions.specs.Parts.{body_part}
use Rattle.ultra_questions.specs.AttributeQuestion.{answered, unanswered, start_or_count, with_members, attribute_start, attribute_answer}
use Rattle.ultra_locating.proofs.Located.{inside, used_is_law}
use Rattle.ultra_questions.proofs.BodyLaws.{part_within}

-- ---- the start
module _ (b : List ℕ) (i : ℕ) where
  pub start_passed : {r : Refusal} → used_length 2 b ≡ Err r → Err r ≡ attribute_start b i
  unfolding attribute_start
  start_passed e = rw e

  pub start_past : (n : ℕ) → used_length 2 b ≡ Ok n → stored_count b ≤ i → refused COUNT n ≡ attribute_start b i
  unfolding attribute_start
  start_past n e h = rw (e, count_decoded b, le-ltb i (stored_count b) h) (ap (refused COUNT) (used_is_law b (n, e)))

  pub start_found : (n : ℕ) → used_length 2 b ≡ Ok n → i < stored_count b → Ok (start b i) ≡ attribute_start b i
  unfolding attribute_start
  start_found n e h = rw (e, count_decoded b, lt-ltb i (stored_count b) h, start_decoded b i (omega arith))

  -- a start is answered only where there is such an attribute
  pub record StartIs (o : ℕ) : Type 0 where
    pub accepts : Accepts b
    pub below : i < stored_count b
    pub is : o ≡ start b i

  start_counted : (o n : ℕ) → used_length 2 b ≡ Ok n → (t : Bool) → ltb i (count (context_of b)) ≡ t
      → pick t (Ok (start_in (context_of b).attributes i)) (refused COUNT (used (context_of b))) ≡ Ok o → StartIs o
  start_counted o n e true q k =
      let h : i < stored_count b = rw count_decoded at (ltb-true i (count (context_of b)) q) in
      record { accepts = (n, e); below = h; is = sym (cc) ∙ start_decoded b i (omega arith) }
  start_counted o n e false q k = absurd (let z : ◌≡◌ {A = ℕ} 0 1 = cc in omega arith)

  start_read : (o : ℕ) (u : Answer) → used_length 2 b ≡ u → if_accepted (λ r. r) (start_or_count (context_of b) i) u ≡ Ok o → StartIs o
  start_read o (Ok n) e k = start_counted o n e (ltb i (count (context_of b))) refl k
  start_read o (Err r) e k = absurd (let z : ◌≡◌ {A = ℕ} 0 1 = cc in omega arith)

  pub start_said : (o : ℕ) → attribute_start b i ≡ Ok o → StartIs o
  unfolding attribute_start
  start_said o k = start_read o (used_length 2 b) refl k

  -- ---- the answer
  pub answer_passed : {r : Refusal} → attribute_start b i ≡ Err r → unanswered (Err r) ≡ attribute_answer b i
  unfolding attribute_answer
  answer_passed e = rw e

  pub answer_found : (o : ℕ) → attribute_start b i ≡ Ok o → answered o (stored_attribute b i) ≡ attribute_answer b i
  unfolding attribute_answer
  answer_found o e = rw (e, at_decoded b i (start_said o e).below)

  -- the answer, of what is loaded
  pub answer_loaded : (o k s : ℕ) (rs : Records) (p : Part) → o ≡ start b i → k ≡ stored_type b i → s ≡ stored_size b i
      → rs ≡ records_of (decoded b o s k) → p ≡ body_part o (decoded b o s k)
      → ◌≡◌ {A = AttributeAnswer} (record { answer = Ok o; header = record { kind = k; start = o; size = s }; records = rs; part = p }) (answered o (stored_attribute b i))
  answer_loaded o k s rs p e f g r q =
      rw (r, q, e, f, g, decoded_type b (start b i) (stored_size b i) (stored_type b i))

  -- ---- the part lies within the buffer
  Fits : AttributeAnswer → Type 0
  Fits a = a.part.start + a.part.length ≤ length b

  answer_fits : (u : Answer) → attribute_start b i ≡ u → Fits (with_members (attribute_at (context_of b) i) u)
  unfolding Fits
  answer_fits (Ok o) e =
      let k = start_said o e in
      let h = inside b k.accepts i k.below in
      let w = part_within b (start b i) (stored_size b i) (stored_type b i) h.suits in
      rw (at_decoded b i k.below, k.is) (omega (arith, w, h.within))
  answer_fits (Err r) e = omega arith

  pub part_inside : (attribute_answer b i).part.start + (attribute_answer b i).part.length ≤ length b
  unfolding attribute_answer Fits
  part_inside = answer_fits (attribute_start b i) refl

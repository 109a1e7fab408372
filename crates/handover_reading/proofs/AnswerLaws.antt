-- Laws of what reading answers: by the head, then by the records, the agent and the records' strings.
use Rattle.std.specs.Prelude.{Ok, Err}
use Prim.Native.Nat.{ℕ, ◌-◌}
use mathlib.Core.Path.{◌≡◌, sym}
use mathlib.Core.Bool.{true, false}
use mathlib.Core.List.{List}
use Rattle.refusals.specs.Refusals.{STRING}
use Rattle.refusals.specs.Answers.{refused}
use Rattle.handover_format.specs.Payloads.{record_start}
use Rattle.handover_format.specs.PayloadDecoding.{stored_agent, stored_size, stored_count}
use Rattle.refusals.specs.declared.Refusal.{Refusal}
use Rattle.refusals.proofs.Chains.{refuses}
use Rattle.handover_reading.specs.PayloadReading.{head_check, record_check, closes, named_check, each_of, body_answer, reading_of}

module _ (b : List ℕ) (n s : ℕ) where
  pub body_refused : (r : Refusal) → each_of (record_check b n) s 0 n ≡ Err r → Err r ≡ body_answer b n s
  unfolding body_answer
  body_refused r e = rw e

  module _ (v : ℕ) (e : each_of (record_check b n) s 0 n ≡ Ok v) where
    pub body_agent : closes b (record_start n) (s - record_start n) (stored_agent b) ≡ false → refused STRING 0 ≡ body_answer b n s
    unfolding body_answer
    body_agent f = rw (e, f)

    pub body_strings : closes b (record_start n) (s - record_start n) (stored_agent b) ≡ true
        → each_of (named_check b (record_start n) (s - record_start n)) s 0 n ≡ body_answer b n s
    unfolding body_answer
    body_strings f = rw (e, f)

module _ (b : List ℕ) where
  pub head_refuses : (head_check b ≡ 0 → ⊥) → refused (head_check b) 0 ≡ reading_of b
  unfolding reading_of
  head_refuses n = sym (refuses (head_check b) 0 _ n)

  pub head_goes_on : head_check b ≡ 0 → body_answer b (stored_count b) (stored_size b) ≡ reading_of b
  unfolding reading_of
  head_goes_on e = rw e

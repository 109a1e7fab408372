-- What is answered and left, by the number of the first test that fails, where each test of an order fails just under its condition.
use Rattle.std.specs.Prelude.{Ok, Err}
use Prim.Native.Nat.{ℕ, zero, suc}
use mathlib.Core.Path.{◌≡◌, refl, sym, ap, ◌∙◌, subst}
use mathlib.Core.Logic.{⊎_elim}
use mathlib.Core.List.{List}
use native.Mathlib.Omega.{arith}
use Rattle.byte_layout.specs.Stored.{over}
use Rattle.refusals.specs.Answers.{number_of, value_of}
use Rattle.refusals.specs.Order.{First, NoneBreaks}
use Rattle.refusals.specs.declared.Refusal.{Refusal}
use Rattle.refusals.proofs.Order.{AllFine, Chain, said_first, said_none}
use Rattle.handover_format.specs.Payloads.{Entry}
use Rattle.handover_format.specs.WrittenForm.{payload_size, payload_bytes}
use Rattle.handover_writing.specs.Writing.{or_written}

module _ (who : List ℕ) (es : List Entry) (b : List ℕ) where
  -- ---- by the number
  refused_says : (v : ℕ) (r : Refusal) → (or_written v who es b).0 ≡ Err r → (v ≡ r.number) × (v ≡ 0 → ⊥) × (r.offset ≡ 0)
  refused_says zero r e = absurd (let z : ◌≡◌ {A = ℕ} 0 1 = cc in omega arith)
  refused_says (suc v) r e = (ap number_of e, λ z. omega arith, sym (ap value_of e))

  says_refused : (v : ℕ) (r : Refusal) → v ≡ r.number → (v ≡ 0 → ⊥) → r.offset ≡ 0 → (or_written v who es b).0 ≡ Err r
  says_refused zero r e h o = absurd (h refl)
  says_refused (suc v) r e h o = λ j. Err (record { number = e j; offset = sym o j })

  pub refused_stays : (v : ℕ) (r : Refusal) → (or_written v who es b).0 ≡ Err r → (or_written v who es b).1 ≡ b
  refused_stays zero r e = absurd (let z : ◌≡◌ {A = ℕ} 0 1 = cc in omega arith)
  refused_stays (suc v) r e = refl

  done_says : (v k : ℕ) → (or_written v who es b).0 ≡ Ok k → (v ≡ 0) × (k ≡ payload_size who es)
  done_says zero k e = (refl, sym (ap value_of e))
  done_says (suc v) k e = absurd (let z : ◌≡◌ {A = ℕ} 0 1 = cc in omega arith)

  -- ---- by the conditions
  module _ (order : List ℕ) (Breaks : ℕ → Type 0) (v : ℕ) (chain : Chain order Breaks v) where
    pub refused_first : (r : Refusal) → (or_written v who es b).0 ≡ Err r → First order Breaks r.number × (r.offset ≡ 0)
    refused_first r e =
        let s = refused_says v r e in
        (⊎_elim (λ a. absurd (s.1 a.0)) (λ a. subst (First order Breaks) s.0 a.1) chain, s.2)

    pub first_refused : (r : Refusal) → First order Breaks r.number × (r.offset ≡ 0) → (or_written v who es b).0 ≡ Err r
    first_refused r h =
        let s = said_first Breaks order v r.number chain h.0 in
        says_refused v r s.0 (λ z. s.1 (sym s.0 ∙ z)) h.1

    pub none_written : NoneBreaks Breaks → or_written v who es b ≡ (Ok (payload_size who es), over (payload_bytes who es) b)
    none_written h = let z = said_none Breaks order v chain h in rw z

    pub none_done : (k : ℕ) → NoneBreaks Breaks × (k ≡ payload_size who es) → (or_written v who es b).0 ≡ Ok k
    none_done k h = ap (λ x. x.0) (none_written h.0) ∙ ap Ok (sym h.1)

    -- where the order has the number of every condition
    pub done_none : (AllFine order Breaks → NoneBreaks Breaks) → (k : ℕ) → (or_written v who es b).0 ≡ Ok k → NoneBreaks Breaks × (k ≡ payload_size who es)
    done_none all k e =
        let s = done_says v k e in
        (⊎_elim (λ a. all a.1) (λ a. absurd (a.0 s.0)) chain, s.1)

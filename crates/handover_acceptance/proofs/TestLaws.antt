-- Each test of reading says the same as its rule.
use Prim.Native.Nat.{ℕ, ◌+◌, ◌-◌}
use mathlib.Core.Path.{◌≡◌, refl, sym, ap}
use mathlib.Core.Logic.{◌↔◌}
use mathlib.Core.Bool.{Bool, true, false, not}
use mathlib.Core.List.{List, []}
use native.Mathlib.Omega.{arith}
use native.Mathlib.Nat.{add-zero}
use lib.ListN.{length}
use lib.Dec.{eqb}
use borrow.Author.Tests.{ltb-true, lt-ltb, eqb-true, eqb-false, eq-eqb, ne_eqb, not-true}
use Rattle.refusals.proofs.Order.{clash}
use Rattle.byte_layout.specs.Fields.{Field.text, Fits, FieldFits}
use Rattle.byte_layout.specs.Stored.{Bytes}
use Rattle.byte_layout.proofs.FieldLaws.{holds_fit}
use Rattle.handover_format.specs.Payloads.{handover_end}
use Rattle.handover_format.specs.PayloadLayouts.{string_fields}
use Rattle.handover_format.specs.PayloadRules.{StringMeets}
use Rattle.handover_format.specs.PayloadDecoding.{pick, string_at}
use Rattle.handover_format.specs.RecordTests.{end_suits, if_named}
use Rattle.handover_reading.specs.PayloadReading.{closes}

-- ---- the end tag
end_by : (l : Bool) (i n t : ℕ) → eqb (i + 1) n ≡ l → end_suits l t ≡ true → (t ≡ handover_end) ↔ (i + 1 ≡ n)
end_by true i n t e h = (λ q. eqb-true (i + 1) n e, λ q. eqb-true t handover_end h)
end_by false i n t e h = (λ q. absurd (eqb-false t handover_end (not-true (eqb t handover_end) h) q), λ q. absurd (eqb-false (i + 1) n e q))

pub end_said : (i n t : ℕ) → end_suits (eqb (i + 1) n) t ≡ true → (t ≡ handover_end) ↔ (i + 1 ≡ n)
end_said i n t h = end_by (eqb (i + 1) n) i n t refl h

by_end : (l : Bool) (i n t : ℕ) → eqb (i + 1) n ≡ l → (t ≡ handover_end) ↔ (i + 1 ≡ n) → end_suits l t ≡ true
by_end true i n t e h = eq-eqb t handover_end (h.1 (eqb-true (i + 1) n e))
by_end false i n t e h = ap not (ne_eqb t handover_end (λ q. eqb-false (i + 1) n e (h.0 q)))

pub end_suits_law : (i n t : ℕ) → (t ≡ handover_end) ↔ (i + 1 ≡ n) → end_suits (eqb (i + 1) n) t ≡ true
end_suits_law i n t h = by_end (eqb (i + 1) n) i n t refl h

-- ---- strings
module _ (b : List ℕ) (d n o : ℕ) where
  string_fits : Bytes b → FieldFits (text (n - o) (string_at b d n o))
  unfolding Fits
  string_fits y = (holds_fit b y (d + o) 0 (string_fields n o (string_at b d n o)) (rw add-zero, tt)).0

  pub string_meets : Bytes b → closes b d n o ≡ true → StringMeets n o (string_at b d n o)
  unfolding closes
  string_meets y e = let h = ltb-true (length (string_at b d n o)) (n - o) e in record { closes = omega arith; bytes = (string_fits y).1 }

  pub string_closes : (l : List ℕ) → StringMeets n o l → string_at b d n o ≡ l → closes b d n o ≡ true
  unfolding closes
  string_closes l m e = rw e (lt-ltb (length l) (n - o) (omega (arith, m.closes)))

  -- one that counts only where it is named
  pub named_meets : Bytes b → (t : Bool) → if_named t (closes b d n o) ≡ true → t ≡ true → StringMeets n o (pick t (string_at b d n o) [])
  unfolding if_named
  named_meets y true h e = string_meets y h
  named_meets y false h e = clash (sym e)

  pub named_closes : (t : Bool) (l : List ℕ) → (t ≡ true → StringMeets n o l) → (t ≡ true → string_at b d n o ≡ l) → if_named t (closes b d n o) ≡ true
  unfolding if_named
  named_closes true l m h = string_closes l (m refl) (h refl)
  named_closes false l m h = refl

pub no_string : (t : Bool) (l : List ℕ) → t ≡ false → pick t l [] ≡ []
no_string true l e = clash e
no_string false l e = refl

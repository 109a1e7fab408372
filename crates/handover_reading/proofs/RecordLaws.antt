-- Laws of the tests on a record's words and on its strings: each answer from the facts that lead to it, and what 0 says.
use Prim.Native.Nat.{ℕ, ◌+◌, ◌-◌, ◌≤◌}
use mathlib.Core.Path.{◌≡◌, refl, sym, ap, ◌∙◌}
use mathlib.Core.Bool.{Bool, true, false}
use mathlib.Core.List.{List}
use native.Mathlib.Omega.{arith}
use lib.ListN.{length}
use lib.Dec.{ltb}
use Rattle.byte_layout.specs.Stored.{text_at}
use Rattle.byte_layout.proofs.Texts.{text_empty}
use Rattle.handover_format.specs.Payloads.{names_name, names_meta}
use Rattle.handover_format.specs.declared.records.Record.{Record}
use Rattle.refusals.proofs.Chains.{passed}
use Rattle.address_ranges.specs.Ranges.{range_fits}
use Rattle.handover_format.specs.RecordTests.{end_suits, if_named}
use Rattle.handover_reading.specs.PayloadReading.{words_check, closes, strings_check}

-- ---- words
module _ (last : Bool) (r : Record) where
  pub stop_end : end_suits last r.tag ≡ false → 23 ≡ words_check last r
  unfolding words_check
  stop_end e = rw e

  module _ (e : end_suits last r.tag ≡ true) where
    pub stop_range : range_fits r.start r.size ≡ false → 15 ≡ words_check last r
    unfolding words_check
    stop_range f = rw (e, f)

    pub words_pass : range_fits r.start r.size ≡ true → 0 ≡ words_check last r
    unfolding words_check
    words_pass f = rw (e, f)

  pub words_hold : words_check last r ≡ 0 → (end_suits last r.tag ≡ true) × (range_fits r.start r.size ≡ true)
  unfolding words_check
  words_hold z = let p = passed (end_suits last r.tag) _ _ z in (p.0, (passed (range_fits r.start r.size) _ _ p.1).0)

-- ---- strings
module _ (b : List ℕ) (t n : ℕ) (r : Record) where
  abbrev pub name_suits : Bool
  name_suits = if_named (names_name r.tag) (closes b t n r.name)

  abbrev pub meta_suits : Bool
  meta_suits = if_named (names_meta r.tag) (closes b t n r.meta)

  pub stop_name : name_suits ≡ false → 22 ≡ strings_check b t n r
  unfolding strings_check
  stop_name e = rw e

  module _ (e : name_suits ≡ true) where
    pub stop_meta : meta_suits ≡ false → 22 ≡ strings_check b t n r
    unfolding strings_check
    stop_meta f = rw (e, f)

    pub strings_pass : meta_suits ≡ true → 0 ≡ strings_check b t n r
    unfolding strings_check
    strings_pass f = rw (e, f)

  pub strings_hold : strings_check b t n r ≡ 0 → (name_suits ≡ true) × (meta_suits ≡ true)
  unfolding strings_check
  strings_hold z = let p = passed name_suits _ _ z in (p.0, (passed meta_suits _ _ p.1).0)

-- ---- one string
module _ (b : List ℕ) (t n o : ℕ) where
  pub past_table : n ≤ o → false ≡ closes b t n o
  unfolding closes
  past_table h = let q : n - o ≡ 0 = omega arith in rw (q, text_empty b (t + o))

  pub in_table : (k : ℕ) → k ≡ length (text_at b (t + o) (n - o)) → ltb k (n - o) ≡ closes b t n o
  unfolding closes
  in_table k e = rw e

-- ---- a string that counts only where it is named
pub unnamed_suits : (t u : Bool) → t ≡ false → true ≡ if_named t u
unfolding if_named
unnamed_suits true u e = absurd (let z : ◌≡◌ {A = ℕ} 0 1 = cc in omega arith)
unnamed_suits false u e = refl

pub named_suits : (t u : Bool) → t ≡ true → u ≡ if_named t u
unfolding if_named
named_suits true u e = refl
named_suits false u e = absurd (let z : ◌≡◌ {A = ℕ} 0 1 = cc in omega arith)

-- what a call answers of it, with what it was told that is named
pub slot_said : (r t n u v : Bool) → r ≡ if_named t u → t ≡ n → r ≡ v → if_named n u ≡ v
slot_said r t n u v e q f = ap (λ (x : Bool). if_named x u) (sym q) ∙ sym e ∙ f

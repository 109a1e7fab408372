-- Laws of the tests on what is given: what each says of a string, and what 0 says of the whole.
use Prim.Native.Nat.{ℕ, ◌+◌, ◌≤◌}
use mathlib.Core.Path.{◌≡◌}
use mathlib.Core.Bool.{Bool, true}
use mathlib.Core.List.{List}
use lib.ListN.{length}
use lib.Dec.{leb}
use borrow.Author.Tests.{leb-true, eqb-true}
use Rattle.byte_layout.specs.Stored.{text_at}
use Rattle.refusals.proofs.Chains.{passed, both_hold}
use Rattle.handover_format.specs.Payloads.{names_name, names_meta}
use Rattle.handover_format.specs.RecordTests.{if_named}
use Rattle.handover_format.specs.WrittenForm.{payload_size}
use Rattle.handover_arguments.specs.PayloadGiven.{count_given, record_given, agent_part, name_part, meta_part, start_given, length_given, agent_given, entries_given}
use Rattle.handover_arguments.specs.Judging.{every, end_good, range_good, run_has, string_good, strings_good, write_check}

-- ---- one string
module _ (run : List ℕ) (s n : ℕ) where
  run_said : run_has run s n ≡ true → (s + n ≤ length run) × (length (text_at run s n) ≡ n)
  unfolding run_has
  run_said h = let p = both_hold (leb (s + n) (length run)) _ h in (leb-true _ _ p.0, eqb-true _ _ p.1)

module _ (ps run : List ℕ) (k : ℕ) where
  pub string_said : string_good ps run k ≡ true
      → (start_given ps k + length_given ps k ≤ length run) × (length (text_at run (start_given ps k) (length_given ps k)) ≡ length_given ps k)
  unfolding string_good
  string_said h = run_said run (start_given ps k) (length_given ps k) (both_hold (leb (k + 2) (length ps)) _ h).1

  -- of a call that is told whether the string is named
  pub named_said : (t : Bool) → t ≡ true → if_named t (string_good ps run k) ≡ true → start_given ps k + length_given ps k ≤ length run
  unfolding if_named
  named_said t e h = (string_said (rw e at h)).0

-- ---- a record's strings
module _ (rs ps run : List ℕ) (i : ℕ) where
  abbrev name_good : Bool
  name_good = if_named (names_name (record_given rs i).tag) (string_good ps run (name_part i))

  abbrev meta_good : Bool
  meta_good = if_named (names_meta (record_given rs i).tag) (string_good ps run (meta_part i))

  pub strings_said : strings_good rs ps run i ≡ true → (name_good ≡ true) × (meta_good ≡ true)
  unfolding strings_good
  strings_said h = both_hold name_good meta_good h

-- ---- the chain
module _ (rs ps run : List ℕ) (room : ℕ) where
  abbrev count : ℕ
  count = count_given rs

  abbrev size : ℕ
  size = payload_size (agent_given ps run) (entries_given rs ps run)

  -- what 0 says
  pub record Judged : Type 0 where
    pub some : 1 ≤ count_given rs
    pub most : count_given rs ≤ 1024
    pub ends : every (end_good rs (count_given rs)) (count_given rs) ≡ true
    pub ranges : every (range_good rs) (count_given rs) ≡ true
    pub agent : string_good ps run agent_part ≡ true
    pub strings : every (strings_good rs ps run) (count_given rs) ≡ true
    pub within : payload_size (agent_given ps run) (entries_given rs ps run) ≤ room

  pub judged : write_check rs ps run room ≡ 0 → Judged
  unfolding write_check
  judged e =
      let p1 = passed (leb 1 count) _ _ e in
      let p2 = passed (leb count 1024) _ _ p1.1 in
      let p3 = passed (every (end_good rs count) count) _ _ p2.1 in
      let p4 = passed (every (range_good rs) count) _ _ p3.1 in
      let p5 = passed (string_good ps run agent_part) _ _ p4.1 in
      let p6 = passed (every (strings_good rs ps run) count) _ _ p5.1 in
      let p7 = passed (leb size room) _ _ p6.1 in
      record { some = leb-true _ _ p1.0; most = leb-true _ _ p2.0; ends = p3.0; ranges = p4.0; agent = p5.0; strings = p6.0; within = leb-true _ _ p7.0 }

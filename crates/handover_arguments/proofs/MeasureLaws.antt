-- The measures by numbers are the lengths of the strings given.
use Prim.Native.Nat.{ℕ, zero, suc, ◌+◌, ◌-◌, ◌≤◌, ◌<◌}
use mathlib.Core.Path.{◌≡◌, refl, ap, ap₂, ◌∙◌}
use mathlib.Core.Bool.{Bool}
use mathlib.Core.List.{List, [], ◌∷◌}
use native.Mathlib.Omega.{arith}
use native.Mathlib.Nat.{add-zero}
use native.Mathlib.Numerals.{add-one}
use lib.ListN.{length, length-append}
use Rattle.byte_layout.specs.Stored.{closed, bytes_at}
use Rattle.byte_layout.proofs.Copies.{length_stored}
use Rattle.handover_format.specs.Payloads.{names_name, names_meta, record_start}
use Rattle.handover_format.specs.PayloadDecoding.{pick}
use Rattle.handover_format.specs.WrittenForm.{closed_if, name_bytes, meta_bytes, strings_of, strings, payload_size}
use Rattle.handover_format.proofs.WrittenLaws.{length_closed, length_closed_if, closed_picked, strings_none, strings_one, length_strings}
use Rattle.handover_arguments.specs.PayloadGiven.{count_given, record_given, agent_part, name_part, meta_part, start_given, length_given, string_given, agent_given, entry_given, entries_from, entries_given}
use Rattle.handover_arguments.specs.Measures.{width_if, name_width, meta_width, strings_start}
use Rattle.handover_arguments.proofs.GivenLaws.{entries_none, length_entries, entries_more}

-- ---- one string
pub width_closed : (t : Bool) (run : List ℕ) (s n : ℕ) → length (closed_if t (bytes_at run s n)) ≡ width_if t n
unfolding width_if
width_closed t run s n = length_closed_if t (bytes_at run s n) ∙ ap (λ (k : ℕ). pick t (k + 1) 0) (length_stored run s n)

-- ---- where strings start
module _ (rs ps : List ℕ) where
  pub start_first : strings_start rs ps 0 ≡ length_given ps agent_part + 1
  unfolding strings_start
  start_first = refl

  pub start_next : (i : ℕ) → strings_start rs ps (i + 1) ≡ strings_start rs ps i + name_width rs ps i + meta_width rs ps i
  unfolding strings_start
  start_next i = rw add-one

  further : (i k : ℕ) → strings_start rs ps i ≤ strings_start rs ps (i + k)
  further i zero = rw add-zero (omega arith)
  further i (suc k) = let q : i + suc k ≡ i + k + 1 = omega arith in rw q (omega (arith, start_next (i + k), further i k))

  starts_grow : (n i : ℕ) → i ≤ n → strings_start rs ps i ≤ strings_start rs ps n
  starts_grow n i h = let q : i + (n - i) ≡ n = omega arith in rw q at (further i (n - i))

  pub start_below : (n i : ℕ) → i < n → strings_start rs ps i + name_width rs ps i + meta_width rs ps i ≤ strings_start rs ps n
  start_below n i h = omega (arith, start_next i, starts_grow n (i + 1) (omega arith))

  pub agent_below : (n : ℕ) → length_given ps agent_part + 1 ≤ strings_start rs ps n
  agent_below n = omega (arith, start_first, starts_grow n 0 (omega arith))

-- ---- by numbers and by lists
module _ (rs ps run : List ℕ) where
  pub length_agent : length (closed (agent_given ps run)) ≡ length_given ps agent_part + 1
  length_agent = length_closed (agent_given ps run) ∙ ap (λ (k : ℕ). k + 1) (length_stored run (start_given ps agent_part) (length_given ps agent_part))

  pub length_name : (i : ℕ) → length (name_bytes (entry_given rs ps run i)) ≡ name_width rs ps i
  length_name i =
      ap length (closed_picked (names_name (record_given rs i).tag) (string_given ps run (name_part i)))
      ∙ width_closed (names_name (record_given rs i).tag) run (start_given ps (name_part i)) (length_given ps (name_part i))

  length_meta : (i : ℕ) → length (meta_bytes (entry_given rs ps run i)) ≡ meta_width rs ps i
  length_meta i =
      ap length (closed_picked (names_meta (record_given rs i).tag) (string_given ps run (meta_part i)))
      ∙ width_closed (names_meta (record_given rs i).tag) run (start_given ps (meta_part i)) (length_given ps (meta_part i))

  pub length_both : (i : ℕ) → length (strings_of (entry_given rs ps run i)) ≡ name_width rs ps i + meta_width rs ps i
  length_both i =
      length-append (name_bytes (entry_given rs ps run i)) (meta_bytes (entry_given rs ps run i))
      ∙ ap₂ (λ (x y : ℕ). x + y) (length_name i) (length_meta i)

  pub strings_next : (i : ℕ) → length (strings (entries_from rs ps run 0 (i + 1))) ≡ length (strings (entries_from rs ps run 0 i)) + length (strings_of (entry_given rs ps run i))
  strings_next i =
      let e = entry_given rs ps run i in
      omega (arith, ap (λ es. length (strings es)) (entries_more rs ps run i), length_strings (entries_from rs ps run 0 i) (e ∷ []), ap length (strings_one e))

  -- where record i's strings start is how long those before them are
  pub start_length : (i : ℕ) → strings_start rs ps i ≡ length (closed (agent_given ps run)) + length (strings (entries_from rs ps run 0 i))
  start_length zero =
      omega (arith, start_first rs ps, length_agent, ap (λ es. length (strings es)) (entries_none rs ps run 0), ap length strings_none)
  start_length (suc i) = rw (← (add-one i)) (omega (arith, start_next rs ps i, strings_next i, length_both i, start_length i))

  pub size_given_law : payload_size (agent_given ps run) (entries_given rs ps run) ≡ record_start (count_given rs) + strings_start rs ps (count_given rs)
  size_given_law =
      let es = entries_given rs ps run in
      omega (arith, length_entries rs ps run 0 (count_given rs), length-append (closed (agent_given ps run)) (strings es), start_length (count_given rs))

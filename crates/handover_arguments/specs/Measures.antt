-- How many bytes the strings given take, by numbers alone, as the code adds them up. proofs/MeasureLaws.antt proves that these are the
-- lengths of the strings.
-- Serves the library's own functions and proofs: no published contract or promise rests on it.
use Rattle.std.specs.Prelude.{ℕ, zero, suc, ◌+◌, Bool, List}
use Rattle.handover_format.specs.Payloads.{names_name, names_meta}
use Rattle.handover_format.specs.PayloadDecoding.{pick}
use Rattle.handover_arguments.specs.PayloadGiven.{record_given, agent_part, name_part, meta_part, length_given}

-- a string of n bytes with its closing zero, where it is named
unfoldable pub width_if : Bool → ℕ → ℕ
width_if t n = pick t (n + 1) 0

abbrev pub name_width : List ℕ → List ℕ → ℕ → ℕ
name_width rs ps i = width_if (names_name (record_given rs i).tag) (length_given ps (name_part i))

abbrev pub meta_width : List ℕ → List ℕ → ℕ → ℕ
meta_width rs ps i = width_if (names_meta (record_given rs i).tag) (length_given ps (meta_part i))

-- where record i's strings start in the table: after the agent's and those of the records before it
unfoldable pub strings_start : List ℕ → List ℕ → ℕ → ℕ
strings_start rs ps zero = length_given ps agent_part + 1
strings_start rs ps (suc i) = strings_start rs ps i + name_width rs ps i + meta_width rs ps i

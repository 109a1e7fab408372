-- What is lent to be written: the records as document 002 lays them out, 32 bytes each; the parts of the run that are their strings; and the
-- run. "Strings to write are lent in one run of bytes, by start and length": the parts are numbers of 64 bits, two to a string, its start
-- and its length; first the agent's, then of each record its name's and its meta's.
-- A reader has to believe this file.
use Rattle.std.specs.Prelude.{ℕ, zero, suc, ◌+◌, ◌*◌, ◌/◌, List, [], ◌∷◌, length, get_or}
use Rattle.byte_layout.specs.Stored.{bytes_at}
use Rattle.handover_format.specs.Payloads.{names_name, names_meta, Entry}
use Rattle.handover_format.specs.PayloadDecoding.{pick, record_at}
use Rattle.handover_format.specs.declared.records.Record.{Record}

-- whole records count
abbrev pub count_given : List ℕ → ℕ
count_given rs = length rs / 32

abbrev pub record_given : List ℕ → ℕ → Record
record_given rs i = record_at rs (32 * i)

-- which of the numbers are a string's: the one at k is its start, the one after it its length
abbrev pub agent_part : ℕ
agent_part = 0

abbrev pub name_part : ℕ → ℕ
name_part i = 4 * i + 2

abbrev pub meta_part : ℕ → ℕ
meta_part i = 4 * i + 4

abbrev pub start_given : List ℕ → ℕ → ℕ
start_given ps k = get_or ps k 0

abbrev pub length_given : List ℕ → ℕ → ℕ
length_given ps k = get_or ps (k + 1) 0

abbrev pub string_given : List ℕ → List ℕ → ℕ → List ℕ
string_given ps run k = bytes_at run (start_given ps k) (length_given ps k)

-- ---- the agent's string, and the records with theirs; parts of strings that are not named count for nothing
abbrev pub agent_given : List ℕ → List ℕ → List ℕ
agent_given ps run = string_given ps run agent_part

abbrev pub entry_given : List ℕ → List ℕ → List ℕ → ℕ → Entry
entry_given rs ps run i =
    let r = record_given rs i in
    record {
      words = r;
      name = pick (names_name r.tag) (string_given ps run (name_part i)) [];
      meta = pick (names_meta r.tag) (string_given ps run (meta_part i)) [];
    }

-- n of them, from record i on
unfoldable pub entries_from : List ℕ → List ℕ → List ℕ → ℕ → ℕ → List Entry
entries_from rs ps run i zero = []
entries_from rs ps run i (suc n) = entry_given rs ps run i ∷ entries_from rs ps run (suc i) n

abbrev pub entries_given : List ℕ → List ℕ → List ℕ → List Entry
entries_given rs ps run = entries_from rs ps run 0 (count_given rs)

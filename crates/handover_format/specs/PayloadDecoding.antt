-- What the bytes of a buffer say, whether or not they meet the rules: the one payload that they can hold. Total, and judges nothing.
-- A reader has to believe this file.
use Rattle.std.specs.Prelude.{ℕ, zero, suc, ◌+◌, ◌-◌, Bool, true, false, List, [], ◌∷◌}
use Rattle.words.specs.Words.{u32_at, u64_at}
use Rattle.byte_layout.specs.Stored.{text_at}
use Rattle.handover_format.specs.declared.records.Record.{Record}
use Rattle.handover_format.specs.Payloads.{names_name, names_meta, Entry, Payload, record_start}

abbrev pub pick : {X : Type 0} → Bool → X → X → X
pick true x y = x
pick false x y = y

-- ---- the head: 002, "uint32_t magic; uint32_t agent; uint32_t size; uint32_t count;"
abbrev pub stored_agent : List ℕ → ℕ
stored_agent b = u32_at b 4

abbrev pub stored_size : List ℕ → ℕ
stored_size b = u32_at b 8

abbrev pub stored_count : List ℕ → ℕ
stored_count b = u32_at b 12

-- ---- records
-- the record at `o`
abbrev pub record_at : List ℕ → ℕ → Record
record_at b o = record { tag = u32_at b o; flags = u32_at b (o + 4); start = u64_at b (o + 8); size = u64_at b (o + 16); name = u32_at b (o + 24); meta = u32_at b (o + 28) }

-- record i
abbrev pub stored_record : List ℕ → ℕ → Record
stored_record b i = record_at b (record_start i)

-- ---- strings
-- the string at the offset o of a table of n bytes that starts at t: up to a zero, or up to the table's end where there is none
abbrev pub string_at : List ℕ → ℕ → ℕ → ℕ → List ℕ
string_at b t n o = text_at b (t + o) (n - o)

-- in the table that the head says: "String table immediately follows the records array" (002), up to the size
abbrev pub stored_table : List ℕ → ℕ
stored_table b = record_start (stored_count b)

abbrev pub stored_string : List ℕ → ℕ → List ℕ
stored_string b o = string_at b (stored_table b) (stored_size b - stored_table b) o

-- ---- the payload
abbrev pub stored_entry : List ℕ → ℕ → Entry
stored_entry b i =
    let r = stored_record b i in
    record { words = r; name = pick (names_name r.tag) (stored_string b r.name) []; meta = pick (names_meta r.tag) (stored_string b r.meta) [] }

-- n of them, from entry i on
unfoldable pub entries_from : List ℕ → ℕ → ℕ → List Entry
entries_from b i zero = []
entries_from b i (suc n) = stored_entry b i ∷ entries_from b (suc i) n

unfoldable pub payload_of : List ℕ → Payload
payload_of b =
    record { agent = stored_agent b; agent_name = stored_string b (stored_agent b); entries = entries_from b 0 (stored_count b); size = stored_size b }

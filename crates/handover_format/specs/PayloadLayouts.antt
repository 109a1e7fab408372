-- The layout of a payload as bytes: rows of fields, each with the byte that it starts at. One is the head with the records, and there is one
-- for each named string. Strings may overlap and share bytes, so the rows may. What opens a buffer and what is silent come from the rows.
-- A reader has to believe this file.
use Rattle.std.specs.Prelude.{ℕ, ◌+◌, ◌-◌, List, [], ◌∷◌, ◌++◌}
use Rattle.byte_layout.specs.Fields.{Field, Field.number, Field.text}
use Rattle.byte_layout.specs.Placed.{PlacedOpens, PlacedSilent}
use Rattle.handover_format.specs.declared.records.Record.{Record}
use Rattle.handover_format.specs.Payloads.{Entry, Payload, count, table, table_length, Named}

-- "magic 0xc001b001"
abbrev pub magic : ℕ
magic = 3221336065

-- 002: "uint32_t tag; uint32_t flags; uint64_t start; uint64_t size;", then a file's "uint32_t name; uint32_t meta;". "A command line's meta
-- stands where a file's does"
abbrev pub record_fields : Record → List Field
record_fields r = number 4 r.tag ∷ number 4 r.flags ∷ number 8 r.start ∷ number 8 r.size ∷ number 4 r.name ∷ number 4 r.meta ∷ []

unfoldable pub entries_fields : List Entry → List Field
entries_fields [] = []
entries_fields (e ∷ es) = record_fields e.words ++ entries_fields es

-- "a 16-byte head (magic 0xc001b001, agent, size, count), records of 32 bytes"
abbrev pub front_fields : Payload → List Field
front_fields p = number 4 magic ∷ number 4 p.agent ∷ number 4 p.size ∷ number 4 (count p) ∷ entries_fields p.entries

-- the string l at the offset o of a table of n bytes: its bytes, its closing zero, and silence up to the table's end
abbrev pub string_fields : ℕ → ℕ → List ℕ → List Field
string_fields n o l = text (n - o) l ∷ []

-- the rows of a payload
pub data RowOf (p : Payload) : ℕ → List Field → Type 0 where
  front : RowOf p 0 (front_fields p)
  string : (o : ℕ) (l : List ℕ) → Named p o l → RowOf p (table p + o) (string_fields (table_length p) o l)

-- "its bytes open the buffer": the payload's size is within it, and each row is there but for its silent bytes
abbrev pub Opens : List ℕ → Payload → Type 0
Opens b p = PlacedOpens b p.size (RowOf p)

-- "table bytes outside every named string and its closing zero, and all past the size, are silent": byte i is silent in every row.
-- `SilentPlainly` (Silence) has it in these words
abbrev pub Silent : Payload → ℕ → Type 0
Silent p i = PlacedSilent (RowOf p) i

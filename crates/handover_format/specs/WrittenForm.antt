-- The written form, of an agent string and records with their strings as lists: "each record as given, its strings' offsets set; agent string
-- first, then each record's strings in order, none shared, no padding". Nothing here says where the records come from.
-- A reader has to believe this file.
use Rattle.std.specs.Prelude.{ℕ, ◌+◌, Bool, List, [], ◌∷◌, ◌++◌, length}
use Rattle.byte_layout.specs.Fields.{cells, filled}
use Rattle.byte_layout.specs.Stored.{closed}
use Rattle.handover_format.specs.declared.records.Record.{Record}
use Rattle.handover_format.specs.Payloads.{names_name, names_meta, Entry, Payload, record_start}
use Rattle.handover_format.specs.PayloadLayouts.{entries_fields, front_fields}
use Rattle.handover_format.specs.PayloadDecoding.{pick}

-- ---- the strings, one after the other
-- a string with its closing zero, where it is named
unfoldable pub closed_if : Bool → List ℕ → List ℕ
closed_if t l = pick t (closed l) []

abbrev pub name_bytes : Entry → List ℕ
name_bytes e = closed_if (names_name e.words.tag) e.name

abbrev pub meta_bytes : Entry → List ℕ
meta_bytes e = closed_if (names_meta e.words.tag) e.meta

-- "each record's strings in order": its name, then its meta
abbrev pub strings_of : Entry → List ℕ
strings_of e = name_bytes e ++ meta_bytes e

unfoldable pub strings : List Entry → List ℕ
strings [] = []
strings (e ∷ es) = strings_of e ++ strings es

-- ---- the records, with their strings' offsets set
-- a record whose name, where it names one, is at the offset o, and whose meta at m
unfoldable pub words_at : Record → ℕ → ℕ → Record
words_at r o m =
    record {
      tag = r.tag;
      flags = r.flags;
      start = r.start;
      size = r.size;
      name = pick (names_name r.tag) o r.name;
      meta = pick (names_meta r.tag) m r.meta;
    }

-- an entry whose strings start at the offset o of the table
abbrev pub placed : ℕ → Entry → Entry
placed o e = record { words = words_at e.words o (o + length (name_bytes e)); name = e.name; meta = e.meta }

unfoldable pub placed_from : ℕ → List Entry → List Entry
placed_from o [] = []
placed_from o (e ∷ es) = placed o e ∷ placed_from (o + length (strings_of e)) es

-- the bytes of the records, with the first one's strings at the offset o
abbrev pub rows_bytes : ℕ → List Entry → List ℕ
rows_bytes o es = filled (cells (entries_fields (placed_from o es)))

-- ---- the payload of an agent and records, and its bytes
abbrev pub payload_size : List ℕ → List Entry → ℕ
payload_size agent es = record_start (length es) + length (closed agent ++ strings es)

abbrev pub payload : List ℕ → List Entry → Payload
payload agent es = record { agent = 0; agent_name = agent; entries = placed_from (length (closed agent)) es; size = payload_size agent es }

abbrev pub payload_bytes : List ℕ → List Entry → List ℕ
payload_bytes agent es = filled (cells (front_fields (payload agent es))) ++ (closed agent ++ strings es)

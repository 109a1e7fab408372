-- A Handover payload as a list. R-2 of document 02: "a list that carries every record byte, each offset and the string there, with the
-- payload's size as used length". A record's bytes are its six words; the offsets of its strings are two of them, `name` and `meta`.
-- A reader has to believe this file.
use Rattle.std.specs.Prelude.{ℕ, ◌+◌, ◌-◌, ◌*◌, ◌<◌, ◌≡◌, Bool, true, ◌||◌, List, [], length, get_or, eqb}
use Rattle.handover_format.specs.declared.records.Record.{Record}

-- ---- the tags that a rule speaks of: document 002, "Handover Tags". "Unknown tags and flags pass"
-- "HANDOVER_END (0xffffffff)"
abbrev pub handover_end : ℕ
handover_end = 4294967295

-- "HANDOVER_FILE (0xcbc36d3b)"
abbrev pub handover_file : ℕ
handover_file = 3418582331

-- "HANDOVER_CMDLINE (0x435140c4)"
abbrev pub handover_cmdline : ℕ
handover_cmdline = 1129398468

-- "Strings named .. by a file's name and meta and by a command line's meta"
abbrev pub names_name : ℕ → Bool
names_name t = eqb t handover_file

abbrev pub names_meta : ℕ → Bool
names_meta t = names_name t || eqb t handover_cmdline

-- ---- the list
-- a record, and the strings that it names, without their closing zeros; an empty list where it names none
pub record Entry : Type 0 where
  pub words : Record
  pub name : List ℕ
  pub meta : List ℕ

-- the agent's offset and string, the records, and the size
pub record Payload : Type 0 where
  pub agent : ℕ
  pub agent_name : List ℕ
  pub entries : List Entry
  pub size : ℕ

abbrev pub count : Payload → ℕ
count p = length p.entries

abbrev pub no_record : Record
no_record = record { tag = 0; flags = 0; start = 0; size = 0; name = 0; meta = 0 }

abbrev pub no_entry : Entry
no_entry = record { words = no_record; name = []; meta = [] }

-- entry i; past the last there is none
abbrev pub entry_in : Payload → ℕ → Entry
entry_in p i = get_or p.entries i no_entry

abbrev pub words_in : Payload → ℕ → Record
words_in p i = (entry_in p i).words

-- where record i starts: "a 16-byte head .., records of 32 bytes"
abbrev pub record_start : ℕ → ℕ
record_start i = 16 + 32 * i

-- where the string table starts: "then the string table"; it ends at the payload's size
abbrev pub table : Payload → ℕ
table p = record_start (count p)

abbrev pub table_length : Payload → ℕ
table_length p = p.size - table p

-- the string l is named, at the offset o "within the string table" (002): "by the agent, by a file's name and meta and by a command line's
-- meta"
pub data Named (p : Payload) : ℕ → List ℕ → Type 0 where
  agent : Named p p.agent p.agent_name
  name : (i : ℕ) → i < count p → names_name (words_in p i).tag ≡ true → Named p (words_in p i).name (entry_in p i).name
  meta : (i : ℕ) → i < count p → names_meta (words_in p i).tag ≡ true → Named p (words_in p i).meta (entry_in p i).meta

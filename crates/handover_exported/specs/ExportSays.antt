-- What the exported list has, told record by record: of a context that a buffer holds, by its attributes and not by how the list is made. Proved in
-- proofs/ExportSays.antt: `export_says`.
-- A reader has to believe this file.
use Rattle.std.specs.Prelude.{ℕ, ◌+◌, ◌<◌, ◌≡◌, List, [], ◌∷◌, length, get_or, eqb}
use Rattle.ultra_format.specs.Contexts as ultra
use Rattle.ultra_format.specs.Contexts.{Platform, Module, Body, Attribute, Context, body_at}
use Rattle.ultra_format.specs.Contexts.{Body.platform, Body.kernel, Body.memory_map, Body.module_info, Body.command_line, Body.framebuffer, Body.other}
use Rattle.ultra_acceptance.specs.Acceptance.{HoldsContext}
use Rattle.handover_format.specs.Payloads.{handover_end, Entry, Payload, count, entry_in}
use Rattle.handover_format.specs.Tags.{handover_self, handover_rsdp}
use Rattle.handover_format.specs.PayloadDecoding.{pick}
use Rattle.handover_written.specs.Placing.{AsGiven}
use Rattle.export_list.specs.ExportList.{bare, range_entry, file_entry, line_entry, export_list}

abbrev pub no_range : ultra.Entry
no_range = record { address = 0; size = 0; entry_type = 0 }

-- a record that an attribute of the context asks for, and which of the sentence's four kinds it is of, from 0
pub data Asked (c : Context) : ℕ → Entry → Type 0 where
  range : (i : ℕ) (es : List ultra.Entry) (k : ℕ) → i < ultra.count c → body_at c i ≡ memory_map es → k < length es → Asked c 0 (range_entry (get_or es k no_range))
  file : (i : ℕ) (m : Module) → i < ultra.count c → body_at c i ≡ module_info m → Asked c 1 (file_entry m)
  line : (i : ℕ) (t : List ℕ) → i < ultra.count c → body_at c i ≡ command_line t → Asked c 2 (line_entry t)
  pointer : (i : ℕ) (p : Platform) → i < ultra.count c → body_at c i ≡ platform p → (p.rsdp ≡ 0 → ⊥) → Asked c 3 (bare handover_rsdp p.rsdp 20)

-- how many records an attribute asks for
abbrev pub asks : Body → ℕ
asks (platform p) = pick (eqb p.rsdp 0) 0 1
asks (kernel k) = 0
asks (memory_map es) = length es
asks (module_info m) = 1
asks (command_line t) = 1
asks (framebuffer f) = 0
asks (other t) = 0

unfoldable pub all_ask : List Attribute → ℕ
all_ask [] = 0
all_ask (a ∷ l) = asks a.body + all_ask l

-- record j of the payload is e, its strings' offsets set
abbrev pub IsAt : Payload → ℕ → Entry → Type 0
IsAt p j e = (j < count p) × AsGiven e (entry_in p j)

-- it has e, and after it f
abbrev pub InOrder : Payload → Entry → Entry → Type 0
InOrder p e f = (j : ℕ) × (k : ℕ) × (j < k) × IsAt p j e × IsAt p k f

pub record ExportSays (c : Context) (load : ℕ) : Type 0 where
  -- "The agent is the loader's name."
  pub agent : (p : Platform) → body_at c 0 ≡ platform p → (export_list c load).agent_name ≡ p.name
  -- "a SELF record of that address and the payload's size", the first
  pub own : IsAt (export_list c load) 0 (bare handover_self load (export_list c load).size)
  -- "the end", the last
  pub last : (j : ℕ) → j + 1 ≡ count (export_list c load) → IsAt (export_list c load) j (bare handover_end 0 0)
  -- between them every record that is asked for, and no other
  pub each : (n : ℕ) (e : Entry) → Asked c n e → (j : ℕ) × IsAt (export_list c load) j e
  pub number : count (export_list c load) ≡ all_ask c.attributes + 2
  pub only : (j : ℕ) → 0 < j → j + 1 < count (export_list c load) → (n : ℕ) × (e : Entry) × Asked c n e × IsAt (export_list c load) j e
  -- in the sentence's order, whatever the context's is
  pub order : (n m : ℕ) (e f : Entry) → n < m → Asked c n e → Asked c m f → InOrder (export_list c load) e f
  -- "the map's ranges in order": they come first
  pub ranges : (i : ℕ) (es : List ultra.Entry) (k : ℕ) → i < ultra.count c → body_at c i ≡ memory_map es → k < length es
      → IsAt (export_list c load) (k + 1) (range_entry (get_or es k no_range))
  -- files in the context's order
  pub files : (i j : ℕ) (m n : Module) → i < j → j < ultra.count c → body_at c i ≡ module_info m → body_at c j ≡ module_info n
      → InOrder (export_list c load) (file_entry m) (file_entry n)

abbrev pub ExportSaysAll : Type 0
ExportSaysAll = (b : List ℕ) (c : Context) (load : ℕ) → HoldsContext 2 b c → ExportSays c load

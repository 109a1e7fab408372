-- R-6 of document 02: the list that a context is exported to, records with their strings. Their offsets are set, and their bytes laid out, by
-- the written form of R-2 (crate handover_format, WrittenForm).
-- A reader has to believe this file.
use Rattle.std.specs.Prelude.{ℕ, Bool, List, [], ◌∷◌, ◌++◌, eqb}
use Rattle.ultra_format.specs.Contexts as ultra
use Rattle.ultra_format.specs.Contexts.{Platform, Module, Body, type_of, Attribute, Context, body_at}
use Rattle.ultra_format.specs.Contexts.{Member.absent, Body.platform, Body.kernel, Body.memory_map, Body.module_info, Body.command_line, Body.framebuffer, Body.other}
use Rattle.handover_format.specs.Payloads.{handover_end, handover_file, handover_cmdline, Entry, Payload}
use Rattle.handover_format.specs.Tags.{handover_free, handover_self, handover_stack, handover_kernel, handover_loader, handover_rsdp, handover_reserved}
use Rattle.handover_format.specs.PayloadDecoding.{pick}
use Rattle.handover_format.specs.WrittenForm.{payload_size, payload}

-- ---- a record
-- "Fields not named are 0."
abbrev pub entry : ℕ → ℕ → ℕ → List ℕ → List ℕ → Entry
entry t a s name meta = record { words = record { tag = t; flags = 0; start = a; size = s; name = 0; meta = 0 }; name = name; meta = meta }

-- one that names no string
abbrev pub bare : ℕ → ℕ → ℕ → Entry
bare t a s = entry t a s [] []

-- ---- what each attribute becomes
-- "1 as FREE, 0xFFFF0001 as LOADER, 0xFFFF0003 as STACK, 0xFFFF0004 as KERNEL, all else RESERVED": of a map type, in all its 64 bits
unfoldable pub tag_of : ℕ → ℕ
tag_of t =
    pick (eqb t 1) handover_free
    (pick (eqb t 4294901761) handover_loader
    (pick (eqb t 4294901763) handover_stack
    (pick (eqb t 4294901764) handover_kernel
    handover_reserved)))

abbrev pub range_entry : ultra.Entry → Entry
range_entry e = bare (tag_of e.entry_type) e.address e.size

-- "the map's ranges in order"
unfoldable pub range_entries : List ultra.Entry → List Entry
range_entries [] = []
range_entries (e ∷ es) = range_entry e ∷ range_entries es

-- "a FILE for each module with its address, size and name and an empty meta"
abbrev pub file_entry : Module → Entry
file_entry m = entry handover_file m.address m.size m.name []

-- "CMDLINE if there is one"
abbrev pub line_entry : List ℕ → Entry
line_entry t = entry handover_cmdline 0 0 [] t

-- "RSDP with size 20 if that address isn't 0"
unfoldable pub pointer_entries : ℕ → List Entry
pointer_entries a = pick (eqb a 0) [] (bare handover_rsdp a 20 ∷ [])

-- "Framebuffer, device tree and vendor types are left behind"; the device tree is a member of the platform
unfoldable pub records_of : Body → List Entry
records_of (platform p) = pointer_entries p.rsdp
records_of (kernel k) = []
records_of (memory_map es) = range_entries es
records_of (module_info m) = file_entry m ∷ []
records_of (command_line t) = line_entry t ∷ []
records_of (framebuffer f) = []
records_of (other t) = []

-- ---- in which order
-- what the attributes of type k become, in the context's order
unfoldable pub records_if : Bool → Body → List Entry
records_if t x = pick t (records_of x) []

unfoldable pub gathered : ℕ → List Attribute → List Entry
gathered k [] = []
gathered k (a ∷ l) = records_if (eqb (type_of a.body) k) a.body ++ gathered k l

-- ranges, files, the command line and the pointer: of the types 3, 4, 5 and 1
abbrev pub between : List Attribute → List Entry
between l = gathered 3 l ++ (gathered 4 l ++ (gathered 5 l ++ gathered 1 l))

-- "a SELF record of that address and the payload's size; ..; the end"
abbrev pub entries_of : ℕ → ℕ → List Attribute → List Entry
entries_of load size l = bare handover_self load size ∷ (between l ++ (bare handover_end 0 0 ∷ []))

-- ---- the list of a context
abbrev pub no_platform : Platform
no_platform =
    record {
      platform_type = 0;
      loader_major = 0;
      loader_minor = 0;
      name = [];
      rsdp = 0;
      higher_half_base = absent;
      depth = absent;
      dtb = absent;
      smbios = absent;
    }

unfoldable pub platform_or : Platform → Body → Platform
platform_or none (platform p) = p
platform_or none (kernel k) = none
platform_or none (memory_map es) = none
platform_or none (module_info m) = none
platform_or none (command_line t) = none
platform_or none (framebuffer f) = none
platform_or none (other t) = none

-- the members of its platform, which by the rules is the first attribute
abbrev pub platform_in : Context → Platform
platform_in c = platform_or no_platform (body_at c 0)

-- "The agent is the loader's name."
abbrev pub agent_of : Context → List ℕ
agent_of c = (platform_in c).name

-- the payload's size, which is the same whatever SELF has in it
abbrev pub export_size : Context → ℕ
export_size c = payload_size (agent_of c) (entries_of 0 0 c.attributes)

abbrev pub export_entries : Context → ℕ → List Entry
export_entries c load = entries_of load (export_size c) c.attributes

-- "Export an accepted context to a payload whose load address the caller gives"
abbrev pub export_list : Context → ℕ → Payload
export_list c load = payload (agent_of c) (export_entries c load)

-- The layout of a context as bytes: document 01, "The head and the attributes". What it means that a list's bytes open a buffer, which
-- bytes are silent, what is plain and what a writer writes all come from this one definition. Reading decodes by the table's offsets
-- (Decoding); `says_decoded`, in proofs/Decoded.antt, proves that the two agree.
-- A reader has to believe this file.
use Rattle.std.specs.Prelude.{ℕ, ◌-◌, List, [], ◌∷◌, ◌++◌}
use Rattle.byte_layout.specs.Fields.{Field, cells, filled, SilentAt}
use Rattle.byte_layout.specs.Fields as fields
use Rattle.byte_layout.specs.Fields.{Field.number, Field.raw, Field.text, Field.padding}
use Rattle.ultra_format.specs.Contexts.{Member, Entry, Body, type_of, Attribute, Context, count}
use Rattle.ultra_format.specs.Contexts.{Member.present, Member.absent, Body.platform, Body.kernel, Body.memory_map, Body.module_info, Body.command_line, Body.framebuffer, Body.other}

-- an absent member has no bytes
abbrev pub member_fields : ℕ → Member → List Field
member_fields k (present n) = number k n ∷ []
member_fields k absent = []

-- the depth is one byte, with "reserved 65..71" after it
abbrev pub depth_fields : Member → List Field
depth_fields (present n) = number 1 n ∷ padding 7 ∷ []
depth_fields absent = []

abbrev pub entry_fields : Entry → List Field
entry_fields e = number 8 e.address ∷ number 8 e.size ∷ number 8 e.entry_type ∷ []

unfoldable pub entries_fields : List Entry → List Field
entries_fields [] = []
entries_fields (e ∷ es) = entry_fields e ++ entries_fields es

-- a row of the table: the fields from byte 8 on of an attribute of `s` bytes
abbrev pub body_fields : ℕ → Body → List Field
body_fields s (platform p) =
    number 4 p.platform_type ∷ number 2 p.loader_major ∷ number 2 p.loader_minor ∷ text 32 p.name ∷ number 8 p.rsdp
    ∷ (member_fields 8 p.higher_half_base ++ depth_fields p.depth ++ member_fields 8 p.dtb ++ member_fields 8 p.smbios ++ (padding (s - 88) ∷ []))
body_fields s (kernel k) =
    number 8 k.physical_base ∷ number 8 k.virtual_base ∷ number 8 k.size ∷ number 8 k.partition_type
    ∷ raw 16 k.disk_guid ∷ raw 16 k.partition_guid ∷ number 4 k.disk_index ∷ number 4 k.partition_index
    ∷ text 256 k.path ∷ padding (s - 336) ∷ []
body_fields s (memory_map es) = entries_fields es
body_fields s (module_info m) =
    padding 4 ∷ number 4 m.module_type ∷ text 64 m.name ∷ number 8 m.address ∷ number 8 m.size ∷ padding (s - 96) ∷ []
body_fields s (command_line t) = text (s - 8) t ∷ []
body_fields s (framebuffer f) =
    number 4 f.width ∷ number 4 f.height ∷ number 4 f.pitch ∷ number 2 f.bpp ∷ number 2 f.format
    ∷ number 8 f.address ∷ padding (s - 32) ∷ []
body_fields s (other t) = padding (s - 8) ∷ []

-- "Each attribute begins with type u32 and size u32"
abbrev pub attribute_fields : Attribute → List Field
attribute_fields a = number 4 (type_of a.body) ∷ number 4 a.size ∷ body_fields a.size a.body

unfoldable pub attributes_fields : List Attribute → List Field
attributes_fields [] = []
attributes_fields (a ∷ l) = attribute_fields a ++ attributes_fields l

-- "Head, 8 bytes: major u8, minor u8, reserved u16, attribute count u32"; then the attributes, "laid end to end"
abbrev pub layout : Context → List Field
layout c = number 1 c.major ∷ number 1 c.minor ∷ padding 2 ∷ number 4 (count c) ∷ attributes_fields c.attributes

-- "its bytes open a buffer if every byte there that is not silent is as the list says"
abbrev pub Opens : List ℕ → Context → Type 0
Opens b c = fields.Opens b (cells (layout c))

-- "Silent bytes": 01's term. Whatever is past the layout is silent too.
abbrev pub Silent : Context → ℕ → Type 0
Silent c i = SilentAt (cells (layout c)) i

-- what a writer writes of one attribute: "silent bytes of the new attribute are zero"
abbrev pub attribute_written : Attribute → List ℕ
attribute_written a = filled (cells (attribute_fields a))

-- and of a whole context
abbrev pub written : Context → List ℕ
written c = filled (cells (layout c))

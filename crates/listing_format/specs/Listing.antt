-- The listing of a context: document 01, "The listing". "A program reads up to 65,536 bytes of standard input and prints key=value lines."
-- What is listed, and in which order, is said here as lines; how a line is spelled is crates key_value_text and text_output.
-- A reader has to believe this file.
use Rattle.std.specs.Prelude.{ℕ, ◌≤◌, List, [], ◌∷◌, ◌++◌, length, leb, eqb, Ok, Err}
use Prim.Native.String.{String}
use Prim.Native.Char.{code}
use Rattle.byte_layout.specs.Stored.{over}
use Rattle.text_output.specs.Spelling.{ascii}
use Rattle.key_value_text.specs.Lines.{Value.numbers, Value.text, Value.hex, Value.absent as dash, Line, line, lines_bytes}
use Rattle.ultra_format.specs.Contexts.{Member, Platform, Kernel, Entry, Module, Framebuffer, Body, Attribute, Context, count, used}
use Rattle.ultra_format.specs.Contexts.{Member.present, Member.absent, Body.platform, Body.kernel, Body.memory_map, Body.module_info, Body.command_line, Body.framebuffer, Body.other}
use Rattle.ultra_format.specs.Decoding.{pick, context_of}
use Rattle.refusals.specs.Refusals.{ROOM}
use Rattle.refusals.specs.Answers.{Answer, refused}
use Rattle.refusals.specs.declared.Refusal.{Refusal}
use Rattle.ultra_reading.specs.Reading.{used_length}

-- ---- lines of each form
abbrev pub comma : ℕ
comma = code ","

-- numbers with commas between them
abbrev pub commas : String → List ℕ → Line
commas k ns = line (ascii k) (numbers comma ns)

-- "version=1.0", "loader=1.4"
abbrev pub dotted : String → ℕ → ℕ → Line
dotted k major minor = line (ascii k) (numbers (code ".") (major ∷ minor ∷ []))

abbrev pub textual : String → List ℕ → Line
textual k t = line (ascii k) (text t)

-- "an absent platform member prints `-`"
abbrev pub member : List ℕ → Member → Line
member k (present n) = line k (numbers comma (n ∷ []))
member k absent = line k dash

-- ---- the lines of an attribute, in the order of 01's listing and of its "Fields"
-- the members that a platform always has, and those from the higher half base on
abbrev pub leading_lines : Platform → List Line
leading_lines p =
    commas "platform" (p.platform_type ∷ [])
    ∷ dotted "loader" p.loader_major p.loader_minor
    ∷ textual "name" p.name
    ∷ commas "rsdp" (p.rsdp ∷ [])
    ∷ []

abbrev pub late_lines : Platform → List Line
late_lines p =
    member (ascii "half") p.higher_half_base
    ∷ member (ascii "depth") p.depth
    ∷ member (ascii "dtb") p.dtb
    ∷ member (ascii "smbios") p.smbios
    ∷ []

abbrev pub platform_lines : Platform → List Line
platform_lines p = leading_lines p ++ late_lines p

-- "`kernel` physical, virtual, size"
abbrev pub kernel_line : Kernel → Line
kernel_line k = commas "kernel" (k.physical_base ∷ k.virtual_base ∷ k.size ∷ [])

-- "`partition` type, disk, index"
abbrev pub partition_line : Kernel → Line
partition_line k = commas "partition" (k.partition_type ∷ k.disk_index ∷ k.partition_index ∷ [])

-- "then for type 3 a line `guids` with 64 capital hex digits, disk first"
abbrev pub guid_lines : Kernel → List Line
guid_lines k = pick (eqb k.partition_type 3) (line (ascii "guids") (hex (k.disk_guid ++ k.partition_guid)) ∷ []) []

abbrev pub kernel_lines : Kernel → List Line
kernel_lines k = kernel_line k ∷ partition_line k ∷ (guid_lines k ++ (textual "path" k.path ∷ []))

-- "`range` address, size, type"
abbrev pub range_line : Entry → Line
range_line e = commas "range" (e.address ∷ e.size ∷ e.entry_type ∷ [])

unfoldable pub range_lines : List Entry → List Line
range_lines [] = []
range_lines (e ∷ es) = range_line e ∷ range_lines es

abbrev pub map_lines : List Entry → List Line
map_lines es = commas "map" (length es ∷ []) ∷ range_lines es

-- "`module` type, address, size, then `modname`"
abbrev pub module_lines : Module → List Line
module_lines m = commas "module" (m.module_type ∷ m.address ∷ m.size ∷ []) ∷ textual "modname" m.name ∷ []

abbrev pub command_line_lines : List ℕ → List Line
command_line_lines t = textual "cmdline" t ∷ []

-- "`fb` width, height, pitch, bpp, format, address"
abbrev pub framebuffer_lines : Framebuffer → List Line
framebuffer_lines f = commas "fb" (f.width ∷ f.height ∷ f.pitch ∷ f.bpp ∷ f.format ∷ f.address ∷ []) ∷ []

-- "`other` type, size"
abbrev pub other_lines : ℕ → ℕ → List Line
other_lines t s = commas "other" (t ∷ s ∷ []) ∷ []

-- of an attribute of `s` bytes
unfoldable pub body_lines : ℕ → Body → List Line
body_lines s (platform p) = platform_lines p
body_lines s (kernel k) = kernel_lines k
body_lines s (memory_map es) = map_lines es
body_lines s (module_info m) = module_lines m
body_lines s (command_line t) = command_line_lines t
body_lines s (framebuffer f) = framebuffer_lines f
body_lines s (other t) = other_lines t s

-- ---- the lines of a context
-- "Attributes appear in context order."
unfoldable pub attributes_lines : List Attribute → List Line
attributes_lines [] = []
attributes_lines (a ∷ l) = body_lines a.size a.body ++ attributes_lines l

unfoldable pub context_lines : Context → List Line
context_lines c =
    dotted "version" c.major c.minor
    ∷ commas "attributes" (count c ∷ [])
    ∷ (attributes_lines c.attributes ++ (commas "used" (used c ∷ []) ∷ []))

-- "A refused input prints only `refused=number,offset`."
abbrev pub refused_lines : Refusal → List Line
refused_lines r = commas "refused" (r.number ∷ r.offset ∷ []) ∷ []

-- ---- of a buffer
abbrev pub lines_when : Context → Answer → List Line
lines_when c (Ok n) = context_lines c
lines_when c (Err r) = refused_lines r

unfoldable pub lines_of : List ℕ → List Line
lines_of b = lines_when (context_of b) (used_length 2 b)

-- the listing's bytes
abbrev pub listing : List ℕ → List ℕ
listing b = lines_bytes (lines_of b)

-- ---- what `list` answers, and what the output has afterwards: "a lent output is too short" is 18, which changes nothing
abbrev pub text_listed : List ℕ → List ℕ → Answer × List ℕ
text_listed t out = pick (leb (length t) (length out)) (Ok (length t), over t out) (refused ROOM 0, out)

unfoldable pub listed : List ℕ → List ℕ → Answer × List ℕ
listed b out = text_listed (listing b) out

-- ---- how long a listing can be: eight bytes for each byte of the room, and 64 for the lines of the whole. So an output of that many bytes
-- is long enough for every buffer (proved as `listing_fits`).
abbrev pub listing_most : ℕ
listing_most = 524352

abbrev pub ListingFits : Type 0
ListingFits = (b : List ℕ) → length (listing b) ≤ listing_most

-- What an add is given, and what that says before a buffer is looked at: the attribute that it is to become, and the first of 12 to 16
-- that it breaks.
-- A reader has to believe this file.
use Rattle.std.specs.Prelude.{ℕ, ◌%◌, Bool, true, ◌&&◌, List, [], ◌∷◌, length, eqb}
use Rattle.words.specs.Words.{numbers_in}
use Rattle.refusals.specs.Refusals.{unless, FORM}
use Rattle.ultra_format.specs.Contexts.{Entry, Body, type_of, Attribute}
use Rattle.ultra_format.specs.Contexts.{Member.present, Body.platform, Body.kernel, Body.memory_map, Body.module_info, Body.command_line, Body.framebuffer}
use Rattle.ultra_format.specs.Layouts.{attribute_written}
use Rattle.ultra_format.specs.Members.{size_suits, values, texts, ranges, ordered, member_check}
use Rattle.ultra_format.specs.Plain.{written_size}
use Rattle.ultra_format.specs.Records.{platform_given, kernel_given, module_given, framebuffer_given}
use Rattle.ultra_format.specs.declared.records.PlatformRecord.{PlatformRecord}
use Rattle.ultra_format.specs.declared.records.KernelRecord.{KernelRecord}
use Rattle.ultra_format.specs.declared.records.ModuleRecord.{ModuleRecord}
use Rattle.ultra_format.specs.declared.records.FramebufferRecord.{FramebufferRecord}

-- the six adds, each with what it is given: a record, the map's numbers, the command line's bytes
pub data Addition : Type 0 where
  add_platform : PlatformRecord → Addition
  add_kernel : KernelRecord → Addition
  add_map : List ℕ → Addition
  add_module : ModuleRecord → Addition
  add_command_line : List ℕ → Addition
  add_framebuffer : FramebufferRecord → Addition

-- "The memory map comes as 64-bit numbers, three to an entry"; one or two that are left over are no entry
unfoldable pub entries_given : List ℕ → List Entry
entries_given [] = []
entries_given (a ∷ []) = []
entries_given (a ∷ s ∷ []) = []
entries_given (a ∷ s ∷ t ∷ ns) = record { address = a; size = s; entry_type = t } ∷ entries_given ns

-- the members given. A fixed text is its array without trailing zeros (`trimmed`); a command line is its bytes as they are.
unfoldable pub body_given : Addition → Body
body_given (add_platform r) = platform (platform_given r)
body_given (add_kernel r) = kernel (kernel_given r)
body_given (add_map ns) = memory_map (entries_given ns)
body_given (add_module r) = module_info (module_given r)
body_given (add_command_line t) = command_line t
body_given (add_framebuffer r) = framebuffer (framebuffer_given r)

abbrev pub type_given : Addition → ℕ
type_given g = type_of (body_given g)

abbrev pub size_given : Addition → ℕ
size_given g = written_size (body_given g)

-- the attribute that members given become, and the bytes that it is written in
abbrev pub new_attribute : Body → Attribute
new_attribute x = record { size = written_size x; body = x }

abbrev pub new_bytes : Body → List ℕ
new_bytes x = attribute_written (new_attribute x)

abbrev pub attribute_given : Addition → Attribute
attribute_given g = new_attribute (body_given g)

abbrev pub bytes_given : Addition → List ℕ
bytes_given g = new_bytes (body_given g)

-- "12 is given if their count is no multiple of three."
abbrev pub formed : Addition → Bool
formed (add_platform r) = true
formed (add_kernel r) = true
formed (add_map ns) = eqb (length ns % 3) 0
formed (add_module r) = true
formed (add_command_line t) = true
formed (add_framebuffer r) = true

-- ---- members given one by one: "records given cross as numbers and byte slices". A text is its bytes as they are, and every member of a
-- platform is present.
abbrev pub platform_of : (kind major minor : ℕ) (name : List ℕ) (rsdp base depth dtb smbios : ℕ) → Body
platform_of kind major minor name rsdp base depth dtb smbios =
    platform record {
      platform_type = kind;
      loader_major = major;
      loader_minor = minor;
      name = name;
      rsdp = rsdp;
      higher_half_base = present base;
      depth = present depth;
      dtb = present dtb;
      smbios = present smbios;
    }

abbrev pub kernel_of : (physical virtual size partition_type : ℕ) (disk partition : List ℕ) (disk_index partition_index : ℕ) (path : List ℕ)
    → Body
kernel_of physical virtual size partition_type disk partition disk_index partition_index path =
    kernel record {
      physical_base = physical;
      virtual_base = virtual;
      size = size;
      partition_type = partition_type;
      disk_guid = disk;
      partition_guid = partition;
      disk_index = disk_index;
      partition_index = partition_index;
      path = path;
    }

abbrev pub module_of : (kind : ℕ) (name : List ℕ) (address size : ℕ) → Body
module_of kind name address size = module_info (record { module_type = kind; name = name; address = address; size = size })

abbrev pub framebuffer_of : (width height pitch bpp format address : ℕ) → Body
framebuffer_of width height pitch bpp format address =
    framebuffer (record { width = width; height = height; pitch = pitch; bpp = bpp; format = format; address = address })

-- a map as bytes
abbrev pub map_of : List ℕ → Body
map_of bytes = memory_map (entries_given (numbers_in bytes))

-- "12 for a map not of 24n bytes or a GUID not of 16"
abbrev pub map_formed : List ℕ → Bool
map_formed bytes = eqb (length bytes % 24) 0

abbrev pub guids_formed : List ℕ → List ℕ → Bool
guids_formed disk partition = eqb (length disk) 16 && eqb (length partition) 16

-- ---- the first of 12 to 16 that is broken, or 0
-- what adding asks of the values, which document 02, R-11, has differ from reading; today they are the same
abbrev pub values_given : Body → Bool
values_given x = values x

-- of members given, formed or not: the rules of reading on the attribute that they become. "A platform record with an absent member is
-- refused as 12": its 88 bytes have space for every member (size_suits). "A text given is refused as 14 if it holds a zero byte or leaves
-- no place for its closing zero in a fixed field": no zero is a byte of a text, and a text is shorter than its field (texts).
unfoldable pub given_check : Bool → Body → ℕ
given_check formed x =
    unless formed FORM (member_check (size_suits (written_size x) x) (values_given x) (texts (written_size x) x) (ranges x) (ordered x))

abbrev pub addition_check : Addition → ℕ
addition_check g = given_check (formed g) (body_given g)

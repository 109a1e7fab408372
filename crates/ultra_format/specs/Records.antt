-- The records that calls are given and hand back, of the members that a list carries. "bytes of a fixed text from its closing zero on
-- are given as zero"; an absent platform member "is marked absent, not zero".
-- A reader has to believe this file.
use Rattle.std.specs.Prelude.{ℕ, zero, suc, List, [], ◌∷◌, Option, Some, None}
use Rattle.byte_layout.specs.Fields.{padded}
use Rattle.ultra_format.specs.Contexts.{Member, Platform, Kernel, Module, Framebuffer, Body}
use Rattle.ultra_format.specs.Contexts.{Member.present, Member.absent, Body.platform, Body.kernel, Body.memory_map, Body.module_info, Body.command_line, Body.framebuffer, Body.other}
use Rattle.ultra_format.specs.declared.records.PlatformRecord.{PlatformRecord}
use Rattle.ultra_format.specs.declared.records.KernelRecord.{KernelRecord}
use Rattle.ultra_format.specs.declared.records.ModuleRecord.{ModuleRecord}
use Rattle.ultra_format.specs.declared.records.FramebufferRecord.{FramebufferRecord}
use Rattle.ultra_format.specs.declared.records.Records.{Records}

-- a member as a record has it, an `Option<u64>` or an `Option<u8>`
abbrev pub optional : Member → Option ℕ
optional (present n) = Some n
optional absent = None

-- `padded` puts the zeros after a text
abbrev pub platform_record : Platform → PlatformRecord
platform_record p =
    record {
      kind = p.platform_type;
      loader_major = p.loader_major;
      loader_minor = p.loader_minor;
      name = padded 32 p.name;
      rsdp = p.rsdp;
      higher_half_base = optional p.higher_half_base;
      depth = optional p.depth;
      dtb = optional p.dtb;
      smbios = optional p.smbios;
    }

abbrev pub kernel_record : Kernel → KernelRecord
kernel_record k =
    record {
      physical_base = k.physical_base;
      virtual_base = k.virtual_base;
      size = k.size;
      partition_type = k.partition_type;
      disk_guid = k.disk_guid;
      partition_guid = k.partition_guid;
      disk_index = k.disk_index;
      partition_index = k.partition_index;
      path = padded 256 k.path;
    }

abbrev pub module_record : Module → ModuleRecord
module_record m = record { kind = m.module_type; name = padded 64 m.name; address = m.address; size = m.size }

abbrev pub framebuffer_record : Framebuffer → FramebufferRecord
framebuffer_record f =
    record { width = f.width; height = f.height; pitch = f.pitch; bpp = f.bpp; format = f.format; address = f.address }

-- a record of nothing but zeros and absent members: it stands where an attribute has no record of that type
abbrev pub blank_platform : Platform
blank_platform =
    record {
      platform_type = 0;
      loader_major = 0;
      loader_minor = 0;
      name = [];
      rsdp = 0;
      higher_half_base = absent;
      depth = absent;
      dtb = absent;
      smbios = absent;
    }

abbrev pub blank_kernel : Kernel
blank_kernel =
    record {
      physical_base = 0;
      virtual_base = 0;
      size = 0;
      partition_type = 0;
      disk_guid = padded 16 [];
      partition_guid = padded 16 [];
      disk_index = 0;
      partition_index = 0;
      path = [];
    }

abbrev pub blank_module : Module
blank_module = record { module_type = 0; name = []; address = 0; size = 0 }

abbrev pub blank_framebuffer : Framebuffer
blank_framebuffer = record { width = 0; height = 0; pitch = 0; bpp = 0; format = 0; address = 0 }

abbrev pub records : Platform → Kernel → Module → Framebuffer → Records
records p k m f =
    record { platform = platform_record p; kernel = kernel_record k; «module» = module_record m; framebuffer = framebuffer_record f }

abbrev pub blank_records : Records
blank_records = records blank_platform blank_kernel blank_module blank_framebuffer

-- the record that a body has, beside blank ones of the other types
unfoldable pub records_of : Body → Records
records_of (platform p) = records p blank_kernel blank_module blank_framebuffer
records_of (kernel k) = records blank_platform k blank_module blank_framebuffer
records_of (memory_map es) = blank_records
records_of (module_info m) = records blank_platform blank_kernel m blank_framebuffer
records_of (command_line t) = blank_records
records_of (framebuffer f) = records blank_platform blank_kernel blank_module f
records_of (other t) = blank_records

-- ---- back: the members that a record gives
abbrev pub member_of : Option ℕ → Member
member_of (Some n) = present n
member_of None = absent

-- a byte and what is kept of those after it: a zero before nothing is a trailing one
abbrev pub unless_trailing : ℕ → List ℕ → List ℕ
unless_trailing zero [] = []
unless_trailing zero (x ∷ l) = 0 ∷ x ∷ l
unless_trailing (suc x) l = suc x ∷ l

-- the text that an array gives: all but its trailing zeros
unfoldable pub trimmed : List ℕ → List ℕ
trimmed [] = []
trimmed (x ∷ l) = unless_trailing x (trimmed l)

abbrev pub platform_given : PlatformRecord → Platform
platform_given r =
    record {
      platform_type = r.kind;
      loader_major = r.loader_major;
      loader_minor = r.loader_minor;
      name = trimmed r.name;
      rsdp = r.rsdp;
      higher_half_base = member_of r.higher_half_base;
      depth = member_of r.depth;
      dtb = member_of r.dtb;
      smbios = member_of r.smbios;
    }

abbrev pub kernel_given : KernelRecord → Kernel
kernel_given r =
    record {
      physical_base = r.physical_base;
      virtual_base = r.virtual_base;
      size = r.size;
      partition_type = r.partition_type;
      disk_guid = r.disk_guid;
      partition_guid = r.partition_guid;
      disk_index = r.disk_index;
      partition_index = r.partition_index;
      path = trimmed r.path;
    }

abbrev pub module_given : ModuleRecord → Module
module_given r = record { module_type = r.kind; name = trimmed r.name; address = r.address; size = r.size }

abbrev pub framebuffer_given : FramebufferRecord → Framebuffer
framebuffer_given r =
    record { width = r.width; height = r.height; pitch = r.pitch; bpp = r.bpp; format = r.format; address = r.address }

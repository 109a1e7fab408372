-- What is asked of the arguments of adds: that they are of their types, which the language and C ask of every caller. Of every other call
-- nothing is asked: it answers by any numbers.
-- A reader has to believe this file.
use Rattle.std.specs.Prelude.{ℕ, ◌<◌, ◌^◌, ◌≡◌, List, [], ◌∷◌, length, Option, Some, None}
use Rattle.byte_layout.specs.Stored.{Bytes}
use Rattle.ultra_format.specs.Additions.{Addition}
use Rattle.ultra_format.specs.Additions.{Addition.add_platform, Addition.add_kernel, Addition.add_map, Addition.add_module, Addition.add_command_line, Addition.add_framebuffer}
use Rattle.ultra_format.specs.declared.records.PlatformRecord.{PlatformRecord}
use Rattle.ultra_format.specs.declared.records.KernelRecord.{KernelRecord}
use Rattle.ultra_format.specs.declared.records.ModuleRecord.{ModuleRecord}
use Rattle.ultra_format.specs.declared.records.FramebufferRecord.{FramebufferRecord}
use Rattle.demand_2.specs.Calls.{Members, Members.platform_members, Members.kernel_members, Members.map_members, Members.module_members}
use Rattle.demand_2.specs.Calls.{Call, Call.write, Call.ask, Write.begin, Write.add, Write.add_members, Write.add_modules}
use Rattle.demand_2.specs.CallsFromC.{AnyCall, in_rattle}

-- ---- records, numbers and texts
abbrev pub WideTyped : Option ℕ → Type 0
WideTyped (Some n) = n < 2 ^ 64
WideTyped None = Unit {0}

abbrev pub NarrowTyped : Option ℕ → Type 0
NarrowTyped (Some n) = n < 2 ^ 8
NarrowTyped None = Unit {0}

-- [u8; k]
abbrev pub ArrayTyped : ℕ → List ℕ → Type 0
ArrayTyped k l = (length l ≡ k) × Bytes l

pub record PlatformTyped (r : PlatformRecord) : Type 0 where
  pub kind : r.kind < 2 ^ 32
  pub loader_major : r.loader_major < 2 ^ 16
  pub loader_minor : r.loader_minor < 2 ^ 16
  pub name : ArrayTyped 32 r.name
  pub rsdp : r.rsdp < 2 ^ 64
  pub higher_half_base : WideTyped r.higher_half_base
  pub depth : NarrowTyped r.depth
  pub dtb : WideTyped r.dtb
  pub smbios : WideTyped r.smbios

pub record KernelTyped (r : KernelRecord) : Type 0 where
  pub physical_base : r.physical_base < 2 ^ 64
  pub virtual_base : r.virtual_base < 2 ^ 64
  pub size : r.size < 2 ^ 64
  pub partition_type : r.partition_type < 2 ^ 64
  pub disk_guid : ArrayTyped 16 r.disk_guid
  pub partition_guid : ArrayTyped 16 r.partition_guid
  pub disk_index : r.disk_index < 2 ^ 32
  pub partition_index : r.partition_index < 2 ^ 32
  pub path : ArrayTyped 256 r.path

pub record ModuleTyped (r : ModuleRecord) : Type 0 where
  pub kind : r.kind < 2 ^ 32
  pub name : ArrayTyped 64 r.name
  pub address : r.address < 2 ^ 64
  pub size : r.size < 2 ^ 64

pub record FramebufferTyped (r : FramebufferRecord) : Type 0 where
  pub width : r.width < 2 ^ 32
  pub height : r.height < 2 ^ 32
  pub pitch : r.pitch < 2 ^ 32
  pub bpp : r.bpp < 2 ^ 16
  pub format : r.format < 2 ^ 16
  pub address : r.address < 2 ^ 64

-- &[u64]
abbrev pub NumbersTyped : List ℕ → Type 0
NumbersTyped [] = Unit {0}
NumbersTyped (n ∷ ns) = (n < 2 ^ 64) × NumbersTyped ns

abbrev pub AdditionTyped : Addition → Type 0
AdditionTyped (add_platform r) = PlatformTyped r
AdditionTyped (add_kernel r) = KernelTyped r
AdditionTyped (add_map ns) = NumbersTyped ns
AdditionTyped (add_module r) = ModuleTyped r
AdditionTyped (add_command_line t) = Bytes t
AdditionTyped (add_framebuffer r) = FramebufferTyped r

-- &[ModuleRecord]
abbrev pub ModulesTyped : List ModuleRecord → Type 0
ModulesTyped [] = Unit {0}
ModulesTyped (m ∷ ms) = ModuleTyped m × ModulesTyped ms

-- ---- members one by one: a text or a list of bytes is of any length
pub record PlatformMembersTyped (kind major minor : ℕ) (name : List ℕ) (rsdp base depth dtb smbios : ℕ) : Type 0 where
  pub kind_typed : kind < 2 ^ 32
  pub major_typed : major < 2 ^ 16
  pub minor_typed : minor < 2 ^ 16
  pub name_typed : Bytes name
  pub rsdp_typed : rsdp < 2 ^ 64
  pub base_typed : base < 2 ^ 64
  pub depth_typed : depth < 2 ^ 8
  pub dtb_typed : dtb < 2 ^ 64
  pub smbios_typed : smbios < 2 ^ 64

pub record KernelMembersTyped (physical virtual size partition_type : ℕ) (disk partition : List ℕ) (disk_index partition_index : ℕ) (path : List ℕ) : Type 0 where
  pub physical_typed : physical < 2 ^ 64
  pub virtual_typed : virtual < 2 ^ 64
  pub size_typed : size < 2 ^ 64
  pub partition_type_typed : partition_type < 2 ^ 64
  pub disk_typed : Bytes disk
  pub partition_typed : Bytes partition
  pub disk_index_typed : disk_index < 2 ^ 32
  pub partition_index_typed : partition_index < 2 ^ 32
  pub path_typed : Bytes path

abbrev pub MembersTyped : Members → Type 0
MembersTyped (platform_members complete kind major minor name rsdp base depth dtb smbios) = PlatformMembersTyped kind major minor name rsdp base depth dtb smbios
MembersTyped (kernel_members physical virtual size partition_type disk partition disk_index partition_index path) =
    KernelMembersTyped physical virtual size partition_type disk partition disk_index partition_index path
MembersTyped (map_members entries) = Bytes entries
MembersTyped (module_members kind name address size) = (kind < 2 ^ 32) × Bytes name × (address < 2 ^ 64) × (size < 2 ^ 64)

-- ---- calls: of a question nothing is asked, and nothing of a beginning
abbrev pub CallTyped : Call → Type 0
CallTyped (ask q) = Unit {0}
CallTyped (write begin) = Unit {0}
CallTyped (write (add g)) = AdditionTyped g
CallTyped (write (add_members m)) = MembersTyped m
CallTyped (write (add_modules ms)) = ModulesTyped ms

-- calls in a row, from Rattle or from C
unfoldable pub AllTyped : List AnyCall → Type 0
AllTyped [] = Unit {0}
AllTyped (k ∷ ks) = CallTyped (in_rattle k) × AllTyped ks

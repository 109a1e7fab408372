-- A record gives back the members that it was made of, and members the record.
use Rattle.std.specs.Prelude.{Option, Some, None}
use Prim.Native.Nat.{ℕ, zero, suc, ◌<◌}
use mathlib.Core.Path.{◌≡◌, refl, ap, ◌∙◌}
use mathlib.Core.List.{List, [], ◌∷◌}
use native.Mathlib.Omega.{arith}
use native.Mathlib.Nat.{not-suc-le-zero}
use lib.ListN.{length}
use Rattle.byte_layout.specs.Fields.{padded, FieldFits}
use Rattle.byte_layout.specs.Fields.{Field.text}
use Rattle.ultra_format.specs.Contexts.{Member, Platform, Kernel, Module}
use Rattle.ultra_format.specs.Contexts.{Member.present, Member.absent}
use Rattle.ultra_format.specs.Records.{optional, member_of, unless_trailing, trimmed, platform_record, kernel_record, module_record, framebuffer_record, platform_given, kernel_given, module_given, framebuffer_given}
use Rattle.ultra_format.specs.declared.records.PlatformRecord.{PlatformRecord}
use Rattle.ultra_format.specs.declared.records.KernelRecord.{KernelRecord}
use Rattle.ultra_format.specs.declared.records.ModuleRecord.{ModuleRecord}
use Rattle.ultra_format.specs.declared.records.FramebufferRecord.{FramebufferRecord}

-- ---- texts: the zeros that `padded` puts after one are all that `trimmed` takes away
zeros_trimmed : (k : ℕ) → trimmed (padded k []) ≡ []
unfolding trimmed
zeros_trimmed zero = refl
zeros_trimmed (suc k) = ap (unless_trailing 0) (zeros_trimmed k)

kept : (x : ℕ) (l : List ℕ) → 0 < x → unless_trailing x l ≡ x ∷ l
kept zero l h = absurd (not-suc-le-zero h)
kept (suc x) l h = refl

text_given : (k : ℕ) (l : List ℕ) → FieldFits (text k l) → trimmed (padded k l) ≡ l
unfolding trimmed
text_given k [] r = zeros_trimmed k
text_given zero (x ∷ l) r = absurd (omega (arith, r.0))
text_given (suc k) (x ∷ l) r =
    ap (unless_trailing x) (text_given k l (omega (arith, r.0), λ i s. r.1 (suc i) (omega arith))) ∙ kept x l (r.1 0 (omega arith)).0

-- back: `padded` puts the trailing zeros there again
first_back : (k x : ℕ) (l : List ℕ) → padded (suc k) (unless_trailing x l) ≡ x ∷ padded k l
first_back k zero [] = refl
first_back k zero (y ∷ l) = refl
first_back k (suc x) l = refl

pub trimmed_padded : (k : ℕ) (l : List ℕ) → length l ≡ k → padded k (trimmed l) ≡ l
unfolding trimmed
trimmed_padded zero [] h = refl
trimmed_padded zero (x ∷ l) h = absurd (omega arith)
trimmed_padded (suc k) [] h = absurd (omega arith)
trimmed_padded (suc k) (x ∷ l) h = first_back k x (trimmed l) ∙ ap (λ (t : List ℕ). x ∷ t) (trimmed_padded k l (omega arith))

-- ---- members
given_member : (m : Member) → member_of (optional m) ≡ m
given_member (present n) = refl
given_member absent = refl

given_back : (o : Option ℕ) → optional (member_of o) ≡ o
given_back (Some n) = refl
given_back None = refl

-- ---- records
pub platform_given_law : (p : Platform) → FieldFits (text 32 p.name) → platform_given (platform_record p) ≡ p
platform_given_law p r =
    λ i. record {
      platform_type = p.platform_type;
      loader_major = p.loader_major;
      loader_minor = p.loader_minor;
      name = text_given 32 p.name r i;
      rsdp = p.rsdp;
      higher_half_base = given_member p.higher_half_base i;
      depth = given_member p.depth i;
      dtb = given_member p.dtb i;
      smbios = given_member p.smbios i;
    }

pub kernel_given_law : (k : Kernel) → FieldFits (text 256 k.path) → kernel_given (kernel_record k) ≡ k
kernel_given_law k r =
    λ i. record {
      physical_base = k.physical_base;
      virtual_base = k.virtual_base;
      size = k.size;
      partition_type = k.partition_type;
      disk_guid = k.disk_guid;
      partition_guid = k.partition_guid;
      disk_index = k.disk_index;
      partition_index = k.partition_index;
      path = text_given 256 k.path r i;
    }

pub module_given_law : (m : Module) → FieldFits (text 64 m.name) → module_given (module_record m) ≡ m
module_given_law m r = λ i. record { module_type = m.module_type; name = text_given 64 m.name r i; address = m.address; size = m.size }

pub platform_back : (r : PlatformRecord) → length r.name ≡ 32 → platform_record (platform_given r) ≡ r
platform_back r h =
    λ i. record {
      kind = r.kind;
      loader_major = r.loader_major;
      loader_minor = r.loader_minor;
      name = trimmed_padded 32 r.name h i;
      rsdp = r.rsdp;
      higher_half_base = given_back r.higher_half_base i;
      depth = given_back r.depth i;
      dtb = given_back r.dtb i;
      smbios = given_back r.smbios i;
    }

pub kernel_back : (r : KernelRecord) → length r.path ≡ 256 → kernel_record (kernel_given r) ≡ r
kernel_back r h =
    λ i. record {
      physical_base = r.physical_base;
      virtual_base = r.virtual_base;
      size = r.size;
      partition_type = r.partition_type;
      disk_guid = r.disk_guid;
      partition_guid = r.partition_guid;
      disk_index = r.disk_index;
      partition_index = r.partition_index;
      path = trimmed_padded 256 r.path h i;
    }

pub module_back : (r : ModuleRecord) → length r.name ≡ 64 → module_record (module_given r) ≡ r
module_back r h = λ i. record { kind = r.kind; name = trimmed_padded 64 r.name h i; address = r.address; size = r.size }

pub framebuffer_back : (r : FramebufferRecord) → framebuffer_record (framebuffer_given r) ≡ r
framebuffer_back r = refl

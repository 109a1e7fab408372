-- What the bytes of a buffer say, whether or not they meet the rules: the one body that an attribute's bytes can hold, and the one
-- context. Total, and judges nothing.
-- A reader has to believe this file.
use Rattle.std.specs.Prelude.{ℕ, zero, suc, ◌+◌, ◌-◌, ◌/◌, Bool, true, false, List, [], ◌∷◌, get_or, leb, eqb}
use Rattle.words.specs.Words.{number_at, u16_at, u32_at, u64_at}
use Rattle.byte_layout.specs.Stored.{bytes_at, text_at}
use Rattle.ultra_format.specs.Contexts.{Member, Platform, Kernel, Entry, Module, Framebuffer, Body, Attribute, Context}
use Rattle.ultra_format.specs.Contexts.{Member.present, Member.absent, Body.platform, Body.kernel, Body.memory_map, Body.module_info, Body.command_line, Body.framebuffer, Body.other}

abbrev pub pick : {X : Type 0} → Bool → X → X → X
pick true x y = x
pick false x y = y

-- ---- bodies: of the attribute that starts at `o` and has `s` bytes
abbrev pub member_when : Bool → ℕ → Member
member_when true n = present n
member_when false n = absent

-- the member of k bytes at `at` in the attribute: "present exactly if they end within the size"
abbrev pub member_at : List ℕ → ℕ → ℕ → ℕ → ℕ → Member
member_at b o s at k = member_when (leb (at + k) s) (number_at b (o + at) k)

abbrev pub platform_at : List ℕ → ℕ → ℕ → Platform
platform_at b o s =
    record {
      platform_type = u32_at b (o + 8);
      loader_major = u16_at b (o + 12);
      loader_minor = u16_at b (o + 14);
      name = text_at b (o + 16) 32;
      rsdp = u64_at b (o + 48);
      higher_half_base = member_at b o s 56 8;
      depth = member_at b o s 64 1;
      dtb = member_at b o s 72 8;
      smbios = member_at b o s 80 8;
    }

abbrev pub kernel_at : List ℕ → ℕ → Kernel
kernel_at b o =
    record {
      physical_base = u64_at b (o + 8);
      virtual_base = u64_at b (o + 16);
      size = u64_at b (o + 24);
      partition_type = u64_at b (o + 32);
      disk_guid = bytes_at b (o + 40) 16;
      partition_guid = bytes_at b (o + 56) 16;
      disk_index = u32_at b (o + 72);
      partition_index = u32_at b (o + 76);
      path = text_at b (o + 80) 256;
    }

abbrev pub entry_at : List ℕ → ℕ → Entry
entry_at b o = record { address = u64_at b o; size = u64_at b (o + 8); entry_type = u64_at b (o + 16) }

-- n entries from `o` on
unfoldable pub entries_at : List ℕ → ℕ → ℕ → List Entry
entries_at b o zero = []
entries_at b o (suc n) = entry_at b o ∷ entries_at b (o + 24) n

abbrev pub module_at : List ℕ → ℕ → Module
module_at b o =
    record {
      module_type = u32_at b (o + 12);
      name = text_at b (o + 16) 64;
      address = u64_at b (o + 80);
      size = u64_at b (o + 88);
    }

abbrev pub framebuffer_at : List ℕ → ℕ → Framebuffer
framebuffer_at b o =
    record {
      width = u32_at b (o + 8);
      height = u32_at b (o + 12);
      pitch = u32_at b (o + 16);
      bpp = u16_at b (o + 20);
      format = u16_at b (o + 22);
      address = u64_at b (o + 24);
    }

-- the body of an attribute of type `t`
unfoldable pub decoded : List ℕ → ℕ → ℕ → ℕ → Body
decoded b o s t =
    pick (eqb t 1) (platform (platform_at b o s))
    (pick (eqb t 2) (kernel (kernel_at b o))
    (pick (eqb t 3) (memory_map (entries_at b (o + 8) ((s - 8) / 24)))
    (pick (eqb t 4) (module_info (module_at b o))
    (pick (eqb t 5) (command_line (text_at b (o + 8) (s - 8)))
    (pick (eqb t 6) (framebuffer (framebuffer_at b o))
    (other t))))))

-- ---- the context
-- where attribute i starts: after the head and the attributes before it
unfoldable pub start : List ℕ → ℕ → ℕ
start b zero = 8
start b (suc i) = start b i + u32_at b (start b i + 4)

abbrev pub stored_type : List ℕ → ℕ → ℕ
stored_type b i = u32_at b (start b i)

abbrev pub stored_size : List ℕ → ℕ → ℕ
stored_size b i = u32_at b (start b i + 4)

-- "attribute count u32", at 4
abbrev pub stored_count : List ℕ → ℕ
stored_count b = u32_at b 4

abbrev pub stored_attribute : List ℕ → ℕ → Attribute
stored_attribute b i = record { size = stored_size b i; body = decoded b (start b i) (stored_size b i) (stored_type b i) }

-- n attributes from attribute i on
unfoldable pub attributes_from : List ℕ → ℕ → ℕ → List Attribute
attributes_from b i zero = []
attributes_from b i (suc n) = stored_attribute b i ∷ attributes_from b (suc i) n

unfoldable pub context_of : List ℕ → Context
context_of b = record { major = get_or b 0 0; minor = get_or b 1 0; attributes = attributes_from b 0 (stored_count b) }

-- the types of the attributes before i, the nearest first
unfoldable pub types_before : List ℕ → ℕ → List ℕ
types_before b zero = []
types_before b (suc i) = stored_type b i ∷ types_before b i

-- Two contexts and the bytes of the payloads that they are exported to, written out by hand from documents 002 and 02: that of 01's listing,
-- loaded at 2,097,152; and one with all that the first has not. Proved in proofs/ExportExamples.antt: `exported_bytes`. That exporting a
-- buffer gives them: crate handover_exported, Witness.
-- A reader has to believe this file.
use Rattle.std.specs.Prelude.{ℕ, ◌≡◌, List, [], ◌∷◌, ◌++◌}
use Rattle.ultra_format.specs.Contexts.{Platform, Entry, Context}
use Rattle.ultra_format.specs.Contexts.{Member.absent, Body.platform, Body.kernel, Body.memory_map, Body.module_info, Body.command_line, Body.other}
use Rattle.ultra_format.specs.Examples.{listed_kernel, listed}
use Rattle.handover_format.specs.WrittenForm.{payload_bytes}
use Rattle.export_list.specs.ExportList.{agent_of, export_entries}

abbrev pub export_bytes : Context → ℕ → List ℕ
export_bytes c load = payload_bytes (agent_of c) (export_entries c load)

abbrev pub listed_payload : List ℕ
listed_payload =
    -- magic, agent 0, size 188, count 5
    (1 ∷ 176 ∷ 1 ∷ 192 ∷ 0 ∷ 0 ∷ 0 ∷ 0 ∷ 188 ∷ 0 ∷ 0 ∷ 0 ∷ 5 ∷ 0 ∷ 0 ∷ 0 ∷ [])
    -- SELF
    ++ (141 ∷ 152 ∷ 79 ∷ 162 ∷ 0 ∷ 0 ∷ 0 ∷ 0 ∷ 0 ∷ 0 ∷ 32 ∷ 0 ∷ 0 ∷ 0 ∷ 0 ∷ 0 ∷ [])
    ++ (188 ∷ 0 ∷ 0 ∷ 0 ∷ 0 ∷ 0 ∷ 0 ∷ 0 ∷ 0 ∷ 0 ∷ 0 ∷ 0 ∷ 0 ∷ 0 ∷ 0 ∷ 0 ∷ [])
    -- FREE
    ++ (0 ∷ 0 ∷ 0 ∷ 0 ∷ 0 ∷ 0 ∷ 0 ∷ 0 ∷ 0 ∷ 0 ∷ 16 ∷ 0 ∷ 0 ∷ 0 ∷ 0 ∷ 0 ∷ [])
    ++ (0 ∷ 0 ∷ 16 ∷ 0 ∷ 0 ∷ 0 ∷ 0 ∷ 0 ∷ 0 ∷ 0 ∷ 0 ∷ 0 ∷ 0 ∷ 0 ∷ 0 ∷ 0 ∷ [])
    -- CMDLINE, its text at 6
    ++ (196 ∷ 64 ∷ 81 ∷ 67 ∷ 0 ∷ 0 ∷ 0 ∷ 0 ∷ 0 ∷ 0 ∷ 0 ∷ 0 ∷ 0 ∷ 0 ∷ 0 ∷ 0 ∷ [])
    ++ (0 ∷ 0 ∷ 0 ∷ 0 ∷ 0 ∷ 0 ∷ 0 ∷ 0 ∷ 0 ∷ 0 ∷ 0 ∷ 0 ∷ 6 ∷ 0 ∷ 0 ∷ 0 ∷ [])
    -- RSDP
    ++ (24 ∷ 156 ∷ 242 ∷ 142 ∷ 0 ∷ 0 ∷ 0 ∷ 0 ∷ 0 ∷ 0 ∷ 14 ∷ 0 ∷ 0 ∷ 0 ∷ 0 ∷ 0 ∷ [])
    ++ (20 ∷ 0 ∷ 0 ∷ 0 ∷ 0 ∷ 0 ∷ 0 ∷ 0 ∷ 0 ∷ 0 ∷ 0 ∷ 0 ∷ 0 ∷ 0 ∷ 0 ∷ 0 ∷ [])
    -- END
    ++ (255 ∷ 255 ∷ 255 ∷ 255 ∷ 0 ∷ 0 ∷ 0 ∷ 0 ∷ 0 ∷ 0 ∷ 0 ∷ 0 ∷ 0 ∷ 0 ∷ 0 ∷ 0 ∷ [])
    ++ (0 ∷ 0 ∷ 0 ∷ 0 ∷ 0 ∷ 0 ∷ 0 ∷ 0 ∷ 0 ∷ 0 ∷ 0 ∷ 0 ∷ 0 ∷ 0 ∷ 0 ∷ 0 ∷ [])
    -- "frost", "quiet"
    ++ (102 ∷ 114 ∷ 111 ∷ 115 ∷ 116 ∷ 0 ∷ []) ++ (113 ∷ 117 ∷ 105 ∷ 101 ∷ 116 ∷ 0 ∷ [])

-- ---- the other: modules before the map, one of them with an empty name; a range of size 0; every tag of a range, and two types that have none
-- of their own, 0xFFFF0002 and 2^32 + 1; an empty command line; a vendor's attribute; no RSDP address
abbrev pub mixed_platform : Platform
mixed_platform =
    record {
      platform_type = 1;
      loader_major = 1;
      loader_minor = 4;
      name = 98 ∷ [];
      rsdp = 0;
      higher_half_base = absent;
      depth = absent;
      dtb = absent;
      smbios = absent;
    }

abbrev pub mixed_map : List Entry
mixed_map =
    record { address = 0; size = 0; entry_type = 1 }
    ∷ record { address = 4096; size = 4096; entry_type = 4294901761 }
    ∷ record { address = 8192; size = 4096; entry_type = 4294901762 }
    ∷ record { address = 12288; size = 4096; entry_type = 4294901763 }
    ∷ record { address = 16384; size = 4096; entry_type = 4294901764 }
    ∷ record { address = 20480; size = 4096; entry_type = 4294967297 }
    ∷ []

abbrev pub mixed : Context
mixed =
    record {
      major = 1;
      minor = 0;
      attributes =
          record { size = 56; body = platform mixed_platform }
          ∷ record { size = 336; body = kernel listed_kernel }
          ∷ record { size = 96; body = module_info (record { module_type = 1; name = 109 ∷ []; address = 65536; size = 4097 }) }
          ∷ record { size = 96; body = module_info (record { module_type = 1; name = []; address = 131072; size = 0 }) }
          ∷ record { size = 16; body = other 7 }
          ∷ record { size = 16; body = command_line [] }
          ∷ record { size = 152; body = memory_map mixed_map }
          ∷ [];
    }

abbrev pub mixed_payload : List ℕ
mixed_payload =
    -- magic, agent 0, size 376, count 11
    (1 ∷ 176 ∷ 1 ∷ 192 ∷ 0 ∷ 0 ∷ 0 ∷ 0 ∷ 120 ∷ 1 ∷ 0 ∷ 0 ∷ 11 ∷ 0 ∷ 0 ∷ 0 ∷ [])
    -- SELF
    ++ (141 ∷ 152 ∷ 79 ∷ 162 ∷ 0 ∷ 0 ∷ 0 ∷ 0 ∷ 0 ∷ 16 ∷ 0 ∷ 0 ∷ 0 ∷ 0 ∷ 0 ∷ 0 ∷ [])
    ++ (120 ∷ 1 ∷ 0 ∷ 0 ∷ 0 ∷ 0 ∷ 0 ∷ 0 ∷ 0 ∷ 0 ∷ 0 ∷ 0 ∷ 0 ∷ 0 ∷ 0 ∷ 0 ∷ [])
    -- FREE
    ++ (0 ∷ 0 ∷ 0 ∷ 0 ∷ 0 ∷ 0 ∷ 0 ∷ 0 ∷ 0 ∷ 0 ∷ 0 ∷ 0 ∷ 0 ∷ 0 ∷ 0 ∷ 0 ∷ [])
    ++ (0 ∷ 0 ∷ 0 ∷ 0 ∷ 0 ∷ 0 ∷ 0 ∷ 0 ∷ 0 ∷ 0 ∷ 0 ∷ 0 ∷ 0 ∷ 0 ∷ 0 ∷ 0 ∷ [])
    -- LOADER
    ++ (38 ∷ 12 ∷ 248 ∷ 241 ∷ 0 ∷ 0 ∷ 0 ∷ 0 ∷ 0 ∷ 16 ∷ 0 ∷ 0 ∷ 0 ∷ 0 ∷ 0 ∷ 0 ∷ [])
    ++ (0 ∷ 16 ∷ 0 ∷ 0 ∷ 0 ∷ 0 ∷ 0 ∷ 0 ∷ 0 ∷ 0 ∷ 0 ∷ 0 ∷ 0 ∷ 0 ∷ 0 ∷ 0 ∷ [])
    -- RESERVED
    ++ (45 ∷ 29 ∷ 132 ∷ 184 ∷ 0 ∷ 0 ∷ 0 ∷ 0 ∷ 0 ∷ 32 ∷ 0 ∷ 0 ∷ 0 ∷ 0 ∷ 0 ∷ 0 ∷ [])
    ++ (0 ∷ 16 ∷ 0 ∷ 0 ∷ 0 ∷ 0 ∷ 0 ∷ 0 ∷ 0 ∷ 0 ∷ 0 ∷ 0 ∷ 0 ∷ 0 ∷ 0 ∷ 0 ∷ [])
    -- STACK
    ++ (27 ∷ 57 ∷ 91 ∷ 246 ∷ 0 ∷ 0 ∷ 0 ∷ 0 ∷ 0 ∷ 48 ∷ 0 ∷ 0 ∷ 0 ∷ 0 ∷ 0 ∷ 0 ∷ [])
    ++ (0 ∷ 16 ∷ 0 ∷ 0 ∷ 0 ∷ 0 ∷ 0 ∷ 0 ∷ 0 ∷ 0 ∷ 0 ∷ 0 ∷ 0 ∷ 0 ∷ 0 ∷ 0 ∷ [])
    -- KERNEL
    ++ (32 ∷ 27 ∷ 199 ∷ 191 ∷ 0 ∷ 0 ∷ 0 ∷ 0 ∷ 0 ∷ 64 ∷ 0 ∷ 0 ∷ 0 ∷ 0 ∷ 0 ∷ 0 ∷ [])
    ++ (0 ∷ 16 ∷ 0 ∷ 0 ∷ 0 ∷ 0 ∷ 0 ∷ 0 ∷ 0 ∷ 0 ∷ 0 ∷ 0 ∷ 0 ∷ 0 ∷ 0 ∷ 0 ∷ [])
    -- RESERVED
    ++ (45 ∷ 29 ∷ 132 ∷ 184 ∷ 0 ∷ 0 ∷ 0 ∷ 0 ∷ 0 ∷ 80 ∷ 0 ∷ 0 ∷ 0 ∷ 0 ∷ 0 ∷ 0 ∷ [])
    ++ (0 ∷ 16 ∷ 0 ∷ 0 ∷ 0 ∷ 0 ∷ 0 ∷ 0 ∷ 0 ∷ 0 ∷ 0 ∷ 0 ∷ 0 ∷ 0 ∷ 0 ∷ 0 ∷ [])
    -- FILE, its name at 2 and its meta at 4
    ++ (59 ∷ 109 ∷ 195 ∷ 203 ∷ 0 ∷ 0 ∷ 0 ∷ 0 ∷ 0 ∷ 0 ∷ 1 ∷ 0 ∷ 0 ∷ 0 ∷ 0 ∷ 0 ∷ [])
    ++ (1 ∷ 16 ∷ 0 ∷ 0 ∷ 0 ∷ 0 ∷ 0 ∷ 0 ∷ 2 ∷ 0 ∷ 0 ∷ 0 ∷ 4 ∷ 0 ∷ 0 ∷ 0 ∷ [])
    -- FILE, its name at 5 and its meta at 6
    ++ (59 ∷ 109 ∷ 195 ∷ 203 ∷ 0 ∷ 0 ∷ 0 ∷ 0 ∷ 0 ∷ 0 ∷ 2 ∷ 0 ∷ 0 ∷ 0 ∷ 0 ∷ 0 ∷ [])
    ++ (0 ∷ 0 ∷ 0 ∷ 0 ∷ 0 ∷ 0 ∷ 0 ∷ 0 ∷ 5 ∷ 0 ∷ 0 ∷ 0 ∷ 6 ∷ 0 ∷ 0 ∷ 0 ∷ [])
    -- CMDLINE, its text at 7
    ++ (196 ∷ 64 ∷ 81 ∷ 67 ∷ 0 ∷ 0 ∷ 0 ∷ 0 ∷ 0 ∷ 0 ∷ 0 ∷ 0 ∷ 0 ∷ 0 ∷ 0 ∷ 0 ∷ [])
    ++ (0 ∷ 0 ∷ 0 ∷ 0 ∷ 0 ∷ 0 ∷ 0 ∷ 0 ∷ 0 ∷ 0 ∷ 0 ∷ 0 ∷ 7 ∷ 0 ∷ 0 ∷ 0 ∷ [])
    -- END
    ++ (255 ∷ 255 ∷ 255 ∷ 255 ∷ 0 ∷ 0 ∷ 0 ∷ 0 ∷ 0 ∷ 0 ∷ 0 ∷ 0 ∷ 0 ∷ 0 ∷ 0 ∷ 0 ∷ [])
    ++ (0 ∷ 0 ∷ 0 ∷ 0 ∷ 0 ∷ 0 ∷ 0 ∷ 0 ∷ 0 ∷ 0 ∷ 0 ∷ 0 ∷ 0 ∷ 0 ∷ 0 ∷ 0 ∷ [])
    -- "b", "m", "", "", "", ""
    ++ (98 ∷ 0 ∷ []) ++ (109 ∷ 0 ∷ []) ++ (0 ∷ []) ++ (0 ∷ []) ++ (0 ∷ []) ++ (0 ∷ [])

pub record ExportedBytes : Type 0 where
  pub listed_exported : export_bytes listed 2097152 ≡ listed_payload
  pub mixed_exported : export_bytes mixed 4096 ≡ mixed_payload

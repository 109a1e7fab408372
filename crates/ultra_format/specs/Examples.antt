-- Three contexts, each as a list and as bytes that were written out by hand from document 01's table: that of 01's listing, in 480
-- bytes, whose GUIDs, which the listing does not show, are zero; one with every type of attribute, in whose bytes no silent byte is
-- zero; and one with the six types that are added, as they are written, in 640 bytes. proofs/Witness.antt shows that all meet the rules
-- and open their bytes, and that the first and the last are what a writer writes, and plain.
-- A reader has to believe this file.
use Rattle.std.specs.Prelude.{ℕ, ◌≡◌, List, [], ◌∷◌, ◌++◌, replicate}
use Rattle.ultra_format.specs.Decoding.{platform_at}
use Rattle.ultra_format.specs.Contexts.{Platform, Kernel, Entry, Context}
use Rattle.ultra_format.specs.Contexts.{Member.present, Member.absent, Body.platform, Body.kernel, Body.memory_map, Body.module_info, Body.command_line, Body.framebuffer, Body.other}

-- 01, "Readings that look right and are not": "Reading dtb from a 56-byte platform attribute, out of the kernel attribute behind it."
-- Whatever a buffer holds, such a platform has no late member.
abbrev pub ShortPlatform : Type 0
ShortPlatform =
    (b : List ℕ) (o : ℕ) → let p = platform_at b o 56 in
    (p.higher_half_base ≡ absent) × (p.depth ≡ absent) × (p.dtb ≡ absent) × (p.smbios ≡ absent)

abbrev pub zeros : ℕ → List ℕ
zeros n = replicate n 0

abbrev pub listed_platform : Platform
listed_platform =
    record {
      platform_type = 2;
      loader_major = 1;
      loader_minor = 4;
      name = 102 ∷ 114 ∷ 111 ∷ 115 ∷ 116 ∷ [];
      rsdp = 917504;
      higher_half_base = present 18446603336221196288;
      depth = present 4;
      dtb = present 0;
      smbios = present 0;
    }

abbrev pub listed_kernel : Kernel
listed_kernel =
    record {
      physical_base = 2097152;
      virtual_base = 18446744071564165120;
      size = 65536;
      partition_type = 2;
      disk_guid = zeros 16;
      partition_guid = zeros 16;
      disk_index = 0;
      partition_index = 1;
      path = 47 ∷ 98 ∷ 111 ∷ 111 ∷ 116 ∷ 47 ∷ 107 ∷ [];
    }

abbrev pub listed_map : List Entry
listed_map = record { address = 1048576; size = 1048576; entry_type = 1 } ∷ []

abbrev pub listed : Context
listed =
    record {
      major = 1;
      minor = 0;
      attributes =
          record { size = 88; body = platform listed_platform }
          ∷ record { size = 336; body = kernel listed_kernel }
          ∷ record { size = 32; body = memory_map listed_map }
          ∷ record { size = 16; body = command_line (113 ∷ 117 ∷ 105 ∷ 101 ∷ 116 ∷ []) }
          ∷ [];
    }

abbrev pub platform_bytes : List ℕ
platform_bytes =
    (1 ∷ 0 ∷ 0 ∷ 0 ∷ 88 ∷ 0 ∷ 0 ∷ 0 ∷ [])
    ++ (2 ∷ 0 ∷ 0 ∷ 0 ∷ 1 ∷ 0 ∷ 4 ∷ 0 ∷ [])
    ++ (102 ∷ 114 ∷ 111 ∷ 115 ∷ 116 ∷ zeros 27)
    ++ (0 ∷ 0 ∷ 14 ∷ 0 ∷ 0 ∷ 0 ∷ 0 ∷ 0 ∷ [])
    ++ (0 ∷ 0 ∷ 0 ∷ 0 ∷ 0 ∷ 128 ∷ 255 ∷ 255 ∷ [])
    ++ (4 ∷ zeros 7)
    ++ zeros 8
    ++ zeros 8

abbrev pub kernel_bytes : List ℕ
kernel_bytes =
    (2 ∷ 0 ∷ 0 ∷ 0 ∷ 80 ∷ 1 ∷ 0 ∷ 0 ∷ [])
    ++ (0 ∷ 0 ∷ 32 ∷ 0 ∷ 0 ∷ 0 ∷ 0 ∷ 0 ∷ [])
    ++ (0 ∷ 0 ∷ 32 ∷ 128 ∷ 255 ∷ 255 ∷ 255 ∷ 255 ∷ [])
    ++ (0 ∷ 0 ∷ 1 ∷ 0 ∷ 0 ∷ 0 ∷ 0 ∷ 0 ∷ [])
    ++ (2 ∷ zeros 7)
    ++ zeros 16
    ++ zeros 16
    ++ zeros 4
    ++ (1 ∷ 0 ∷ 0 ∷ 0 ∷ [])
    ++ (47 ∷ 98 ∷ 111 ∷ 111 ∷ 116 ∷ 47 ∷ 107 ∷ zeros 249)

abbrev pub map_bytes : List ℕ
map_bytes =
    (3 ∷ 0 ∷ 0 ∷ 0 ∷ 32 ∷ 0 ∷ 0 ∷ 0 ∷ [])
    ++ (0 ∷ 0 ∷ 16 ∷ 0 ∷ 0 ∷ 0 ∷ 0 ∷ 0 ∷ [])
    ++ (0 ∷ 0 ∷ 16 ∷ 0 ∷ 0 ∷ 0 ∷ 0 ∷ 0 ∷ [])
    ++ (1 ∷ zeros 7)

abbrev pub command_line_bytes : List ℕ
command_line_bytes = (5 ∷ 0 ∷ 0 ∷ 0 ∷ 16 ∷ 0 ∷ 0 ∷ 0 ∷ []) ++ (113 ∷ 117 ∷ 105 ∷ 101 ∷ 116 ∷ 0 ∷ 0 ∷ 0 ∷ [])

abbrev pub listed_bytes : List ℕ
listed_bytes = (1 ∷ 0 ∷ 0 ∷ 0 ∷ 4 ∷ 0 ∷ 0 ∷ 0 ∷ []) ++ platform_bytes ++ kernel_bytes ++ map_bytes ++ command_line_bytes

-- ---- every type
-- Each type once, no two members of one record alike, every kind of silent byte, and 01's rules at their edges: a path that is "otherwise
-- free"; entries that touch, the last of a map type whose low 32 bits are zero; a pitch that is just enough; ranges that end at 2^64.
abbrev pub every_platform : Platform
every_platform =
    record {
      platform_type = 67305985;
      loader_major = 258;
      loader_minor = 772;
      name = 98 ∷ [];
      rsdp = 578437695752307201;
      higher_half_base = present 2314601843866147353;
      depth = present 5;
      dtb = present 1157159078456920585;
      smbios = present 1735880461161533969;
    }

abbrev pub every_kernel : Kernel
every_kernel =
    record {
      physical_base = 4294971392;
      virtual_base = 18446744071562072064;
      size = 69632;
      partition_type = 3;
      disk_guid = 1 ∷ 2 ∷ 3 ∷ 4 ∷ 5 ∷ 6 ∷ 7 ∷ 8 ∷ 9 ∷ 10 ∷ 11 ∷ 12 ∷ 13 ∷ 14 ∷ 15 ∷ 16 ∷ [];
      partition_guid = 255 ∷ 254 ∷ 253 ∷ 252 ∷ 251 ∷ 250 ∷ 249 ∷ 248 ∷ 247 ∷ 246 ∷ 245 ∷ 244 ∷ 243 ∷ 242 ∷ 241 ∷ 240 ∷ [];
      disk_index = 513;
      partition_index = 1027;
      path = 47 ∷ 107 ∷ 195 ∷ 169 ∷ [];
    }

abbrev pub every_map : List Entry
every_map =
    record { address = 0; size = 18446744073709547520; entry_type = 1 }
    ∷ record { address = 18446744073709547520; size = 4096; entry_type = 4294967296 }
    ∷ []

abbrev pub every_type : Context
every_type =
    record {
      major = 2;
      minor = 7;
      attributes =
          record { size = 96; body = platform every_platform }
          ∷ record { size = 344; body = kernel every_kernel }
          ∷ record { size = 56; body = memory_map every_map }
          ∷ record { size = 104; body = module_info (record { module_type = 2; name = 109 ∷ []; address = 8589934592; size = 4097 }) }
          ∷ record { size = 24; body = command_line (110 ∷ 111 ∷ 97 ∷ 112 ∷ 105 ∷ 99 ∷ 61 ∷ 49 ∷ []) }
          ∷ record { size = 40; body = framebuffer (record { width = 1024; height = 768; pitch = 4096; bpp = 32; format = 3; address = 18446744073706405888 }) }
          ∷ record { size = 16; body = other 7 }
          ∷ [];
    }

-- what stands in silent bytes
abbrev pub junk : ℕ → List ℕ
junk n = replicate n 165

-- 688 bytes are used, and five silent ones are after them
abbrev pub every_type_bytes : List ℕ
every_type_bytes =
    (2 ∷ 7 ∷ 165 ∷ 165 ∷ 7 ∷ 0 ∷ 0 ∷ 0 ∷ [])
    -- platform
    ++ (1 ∷ 0 ∷ 0 ∷ 0 ∷ 96 ∷ 0 ∷ 0 ∷ 0 ∷ [])
    ++ (1 ∷ 2 ∷ 3 ∷ 4 ∷ 2 ∷ 1 ∷ 4 ∷ 3 ∷ [])
    ++ (98 ∷ 0 ∷ junk 30)
    ++ (1 ∷ 2 ∷ 3 ∷ 4 ∷ 5 ∷ 6 ∷ 7 ∷ 8 ∷ [])
    ++ (25 ∷ 26 ∷ 27 ∷ 28 ∷ 29 ∷ 30 ∷ 31 ∷ 32 ∷ [])
    ++ (5 ∷ junk 7)
    ++ (9 ∷ 10 ∷ 11 ∷ 12 ∷ 13 ∷ 14 ∷ 15 ∷ 16 ∷ [])
    ++ (17 ∷ 18 ∷ 19 ∷ 20 ∷ 21 ∷ 22 ∷ 23 ∷ 24 ∷ [])
    ++ junk 8
    -- kernel
    ++ (2 ∷ 0 ∷ 0 ∷ 0 ∷ 88 ∷ 1 ∷ 0 ∷ 0 ∷ [])
    ++ (0 ∷ 16 ∷ 0 ∷ 0 ∷ 1 ∷ 0 ∷ 0 ∷ 0 ∷ [])
    ++ (0 ∷ 16 ∷ 0 ∷ 128 ∷ 255 ∷ 255 ∷ 255 ∷ 255 ∷ [])
    ++ (0 ∷ 16 ∷ 1 ∷ 0 ∷ 0 ∷ 0 ∷ 0 ∷ 0 ∷ [])
    ++ (3 ∷ zeros 7)
    ++ (1 ∷ 2 ∷ 3 ∷ 4 ∷ 5 ∷ 6 ∷ 7 ∷ 8 ∷ 9 ∷ 10 ∷ 11 ∷ 12 ∷ 13 ∷ 14 ∷ 15 ∷ 16 ∷ [])
    ++ (255 ∷ 254 ∷ 253 ∷ 252 ∷ 251 ∷ 250 ∷ 249 ∷ 248 ∷ 247 ∷ 246 ∷ 245 ∷ 244 ∷ 243 ∷ 242 ∷ 241 ∷ 240 ∷ [])
    ++ (1 ∷ 2 ∷ 0 ∷ 0 ∷ 3 ∷ 4 ∷ 0 ∷ 0 ∷ [])
    ++ (47 ∷ 107 ∷ 195 ∷ 169 ∷ 0 ∷ junk 251)
    ++ junk 8
    -- map
    ++ (3 ∷ 0 ∷ 0 ∷ 0 ∷ 56 ∷ 0 ∷ 0 ∷ 0 ∷ [])
    ++ zeros 8
    ++ (0 ∷ 240 ∷ 255 ∷ 255 ∷ 255 ∷ 255 ∷ 255 ∷ 255 ∷ [])
    ++ (1 ∷ zeros 7)
    ++ (0 ∷ 240 ∷ 255 ∷ 255 ∷ 255 ∷ 255 ∷ 255 ∷ 255 ∷ [])
    ++ (0 ∷ 16 ∷ 0 ∷ 0 ∷ 0 ∷ 0 ∷ 0 ∷ 0 ∷ [])
    ++ (0 ∷ 0 ∷ 0 ∷ 0 ∷ 1 ∷ 0 ∷ 0 ∷ 0 ∷ [])
    -- module
    ++ (4 ∷ 0 ∷ 0 ∷ 0 ∷ 104 ∷ 0 ∷ 0 ∷ 0 ∷ [])
    ++ (165 ∷ 165 ∷ 165 ∷ 165 ∷ 2 ∷ 0 ∷ 0 ∷ 0 ∷ [])
    ++ (109 ∷ 0 ∷ junk 62)
    ++ (0 ∷ 0 ∷ 0 ∷ 0 ∷ 2 ∷ 0 ∷ 0 ∷ 0 ∷ [])
    ++ (1 ∷ 16 ∷ 0 ∷ 0 ∷ 0 ∷ 0 ∷ 0 ∷ 0 ∷ [])
    ++ junk 8
    -- command line
    ++ (5 ∷ 0 ∷ 0 ∷ 0 ∷ 24 ∷ 0 ∷ 0 ∷ 0 ∷ [])
    ++ (110 ∷ 111 ∷ 97 ∷ 112 ∷ 105 ∷ 99 ∷ 61 ∷ 49 ∷ 0 ∷ junk 7)
    -- framebuffer
    ++ (6 ∷ 0 ∷ 0 ∷ 0 ∷ 40 ∷ 0 ∷ 0 ∷ 0 ∷ [])
    ++ (0 ∷ 4 ∷ 0 ∷ 0 ∷ 0 ∷ 3 ∷ 0 ∷ 0 ∷ [])
    ++ (0 ∷ 16 ∷ 0 ∷ 0 ∷ 32 ∷ 0 ∷ 3 ∷ 0 ∷ [])
    ++ (0 ∷ 0 ∷ 208 ∷ 255 ∷ 255 ∷ 255 ∷ 255 ∷ 255 ∷ [])
    ++ junk 8
    -- type 7
    ++ (7 ∷ 0 ∷ 0 ∷ 0 ∷ 16 ∷ 0 ∷ 0 ∷ 0 ∷ [])
    ++ junk 8
    -- past the used length
    ++ junk 5

-- ---- the six types that are added, each as it is written: the members of the context above, version 1.0, and no silent byte but zero
abbrev pub six_types : Context
six_types =
    record {
      major = 1;
      minor = 0;
      attributes =
          record { size = 88; body = platform every_platform }
          ∷ record { size = 336; body = kernel every_kernel }
          ∷ record { size = 56; body = memory_map every_map }
          ∷ record { size = 96; body = module_info (record { module_type = 2; name = 109 ∷ []; address = 8589934592; size = 4097 }) }
          ∷ record { size = 24; body = command_line (110 ∷ 111 ∷ 97 ∷ 112 ∷ 105 ∷ 99 ∷ 61 ∷ 49 ∷ []) }
          ∷ record { size = 32; body = framebuffer (record { width = 1024; height = 768; pitch = 4096; bpp = 32; format = 3; address = 18446744073706405888 }) }
          ∷ [];
    }

-- 640 bytes
abbrev pub six_types_bytes : List ℕ
six_types_bytes =
    (1 ∷ 0 ∷ 0 ∷ 0 ∷ 6 ∷ 0 ∷ 0 ∷ 0 ∷ [])
    -- platform
    ++ (1 ∷ 0 ∷ 0 ∷ 0 ∷ 88 ∷ 0 ∷ 0 ∷ 0 ∷ [])
    ++ (1 ∷ 2 ∷ 3 ∷ 4 ∷ 2 ∷ 1 ∷ 4 ∷ 3 ∷ [])
    ++ (98 ∷ zeros 31)
    ++ (1 ∷ 2 ∷ 3 ∷ 4 ∷ 5 ∷ 6 ∷ 7 ∷ 8 ∷ [])
    ++ (25 ∷ 26 ∷ 27 ∷ 28 ∷ 29 ∷ 30 ∷ 31 ∷ 32 ∷ [])
    ++ (5 ∷ zeros 7)
    ++ (9 ∷ 10 ∷ 11 ∷ 12 ∷ 13 ∷ 14 ∷ 15 ∷ 16 ∷ [])
    ++ (17 ∷ 18 ∷ 19 ∷ 20 ∷ 21 ∷ 22 ∷ 23 ∷ 24 ∷ [])
    -- kernel
    ++ (2 ∷ 0 ∷ 0 ∷ 0 ∷ 80 ∷ 1 ∷ 0 ∷ 0 ∷ [])
    ++ (0 ∷ 16 ∷ 0 ∷ 0 ∷ 1 ∷ 0 ∷ 0 ∷ 0 ∷ [])
    ++ (0 ∷ 16 ∷ 0 ∷ 128 ∷ 255 ∷ 255 ∷ 255 ∷ 255 ∷ [])
    ++ (0 ∷ 16 ∷ 1 ∷ 0 ∷ 0 ∷ 0 ∷ 0 ∷ 0 ∷ [])
    ++ (3 ∷ zeros 7)
    ++ (1 ∷ 2 ∷ 3 ∷ 4 ∷ 5 ∷ 6 ∷ 7 ∷ 8 ∷ 9 ∷ 10 ∷ 11 ∷ 12 ∷ 13 ∷ 14 ∷ 15 ∷ 16 ∷ [])
    ++ (255 ∷ 254 ∷ 253 ∷ 252 ∷ 251 ∷ 250 ∷ 249 ∷ 248 ∷ 247 ∷ 246 ∷ 245 ∷ 244 ∷ 243 ∷ 242 ∷ 241 ∷ 240 ∷ [])
    ++ (1 ∷ 2 ∷ 0 ∷ 0 ∷ 3 ∷ 4 ∷ 0 ∷ 0 ∷ [])
    ++ (47 ∷ 107 ∷ 195 ∷ 169 ∷ zeros 252)
    -- map
    ++ (3 ∷ 0 ∷ 0 ∷ 0 ∷ 56 ∷ 0 ∷ 0 ∷ 0 ∷ [])
    ++ zeros 8
    ++ (0 ∷ 240 ∷ 255 ∷ 255 ∷ 255 ∷ 255 ∷ 255 ∷ 255 ∷ [])
    ++ (1 ∷ zeros 7)
    ++ (0 ∷ 240 ∷ 255 ∷ 255 ∷ 255 ∷ 255 ∷ 255 ∷ 255 ∷ [])
    ++ (0 ∷ 16 ∷ zeros 6)
    ++ (0 ∷ 0 ∷ 0 ∷ 0 ∷ 1 ∷ 0 ∷ 0 ∷ 0 ∷ [])
    -- module
    ++ (4 ∷ 0 ∷ 0 ∷ 0 ∷ 96 ∷ 0 ∷ 0 ∷ 0 ∷ [])
    ++ (0 ∷ 0 ∷ 0 ∷ 0 ∷ 2 ∷ 0 ∷ 0 ∷ 0 ∷ [])
    ++ (109 ∷ zeros 63)
    ++ (0 ∷ 0 ∷ 0 ∷ 0 ∷ 2 ∷ 0 ∷ 0 ∷ 0 ∷ [])
    ++ (1 ∷ 16 ∷ zeros 6)
    -- command line
    ++ (5 ∷ 0 ∷ 0 ∷ 0 ∷ 24 ∷ 0 ∷ 0 ∷ 0 ∷ [])
    ++ (110 ∷ 111 ∷ 97 ∷ 112 ∷ 105 ∷ 99 ∷ 61 ∷ 49 ∷ zeros 8)
    -- framebuffer
    ++ (6 ∷ 0 ∷ 0 ∷ 0 ∷ 32 ∷ 0 ∷ 0 ∷ 0 ∷ [])
    ++ (0 ∷ 4 ∷ 0 ∷ 0 ∷ 0 ∷ 3 ∷ 0 ∷ 0 ∷ [])
    ++ (0 ∷ 16 ∷ 0 ∷ 0 ∷ 32 ∷ 0 ∷ 3 ∷ 0 ∷ [])
    ++ (0 ∷ 0 ∷ 208 ∷ 255 ∷ 255 ∷ 255 ∷ 255 ∷ 255 ∷ [])

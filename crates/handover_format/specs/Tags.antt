-- Tags of document 002, "Handover Tags", that no rule speaks of and that exporting gives (R-6). Those that a rule speaks of: Payloads.
-- A reader has to believe this file.
use Rattle.std.specs.Prelude.{ℕ}

-- "HANDOVER_FREE (0x00000000)"
abbrev pub handover_free : ℕ
handover_free = 0

-- "HANDOVER_SELF (0xa24f988d)"
abbrev pub handover_self : ℕ
handover_self = 2723125389

-- "HANDOVER_STACK (0xf65b391b)"
abbrev pub handover_stack : ℕ
handover_stack = 4133173531

-- "HANDOVER_KERNEL (0xbfc71b20)"
abbrev pub handover_kernel : ℕ
handover_kernel = 3217496864

-- "HANDOVER_LOADER (0xf1f80c26)"
abbrev pub handover_loader : ℕ
handover_loader = 4059565094

-- "HANDOVER_RSDP (0x8ef29c18)"
abbrev pub handover_rsdp : ℕ
handover_rsdp = 2398264344

-- "HANDOVER_RESERVED (0xb8841d2d)"
abbrev pub handover_reserved : ℕ
handover_reserved = 3095665965

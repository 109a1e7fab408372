-- Document 01's rules in digits: values just inside and just outside each, with the number that 01 gives for them. A rule on members or
-- places is one definition, which reading, adding and the rules of the format share: no theorem that compares these would notice a wrong
-- one. Numbers are digits here and not names, so that a wrong name is noticed too. The theorems are in proofs/MemberCases.antt.
-- A reader has to believe this file.
use Rattle.std.specs.Prelude.{ℕ, ◌≡◌, Bool, true, false, List, [], ◌∷◌, ◌++◌, length, replicate, Ok}
use Rattle.refusals.specs.Refusals.{SHORT, VERSION, COUNT, MISSING, HEADER, SIZE, OVERRUN, TYPE, PLACE, REPEAT, SPLIT, FORM, VALUE, TEXT, RANGE, ORDER, FULL, ROOM, ABSENT}
use Rattle.refusals.specs.Answers.{refused, number_of, value_of}
use Rattle.ultra_format.specs.Contexts.{Member, Entry, Body}
use Rattle.ultra_format.specs.Contexts.{Member.present, Member.absent, Body.platform, Body.memory_map, Body.command_line, Body.other}
use Rattle.lent_buffers.specs.Room.{room_of}
use Rattle.ultra_format.specs.Members.{body_check}
use Rattle.ultra_format.specs.Places.{placed, single, repeatable, place_check}
use Rattle.ultra_format.specs.Records.{trimmed}
use Rattle.ultra_format.specs.Additions.{kernel_of, module_of, framebuffer_of, entries_given, map_of, map_formed, guids_formed, given_check, addition_check}
use Rattle.ultra_format.specs.Additions.{Addition.add_map}
use Rattle.ultra_format.specs.Examples.{zeros}

-- what a definition gives, and what 01 says
infix 70 ◌gives◌
infix 70 ◌is◌
pub data Case : Type 0 where
  ◌gives◌ : ℕ → ℕ → Case
  ◌is◌ : Bool → Bool → Case

abbrev pub Holds : Case → Type 0
Holds (x gives n) = x ≡ n
Holds (x is v) = x ≡ v

abbrev pub AllHold : List Case → Type 0
AllHold [] = Unit {0}
AllHold (c ∷ cs) = Holds c × AllHold cs

-- ---- bodies that meet every rule but for the members named
-- `n` bytes of text
abbrev pub letters : ℕ → List ℕ
letters n = replicate n 97

-- "/" and `n` bytes
abbrev pub slash_and : ℕ → List ℕ
slash_and n = 47 ∷ letters n

abbrev pub platform_with : (kind : ℕ) (name : List ℕ) (base depth dtb smbios : Member) → Body
platform_with kind name base depth dtb smbios =
    platform record {
      platform_type = kind;
      loader_major = 0;
      loader_minor = 0;
      name = name;
      rsdp = 0;
      higher_half_base = base;
      depth = depth;
      dtb = dtb;
      smbios = smbios;
    }

-- with no late member
abbrev pub short_platform : (kind : ℕ) (name : List ℕ) → Body
short_platform kind name = platform_with kind name absent absent absent absent

-- of type 1 with the late members named; a present one is 0
abbrev pub late_platform : (base depth dtb smbios : Member) → Body
late_platform = platform_with 1 []

abbrev pub there : Member
there = present 0

abbrev pub kernel_with : (physical virtual size partition_type : ℕ) (path : List ℕ) → Body
kernel_with physical virtual size partition_type path = kernel_of physical virtual size partition_type (zeros 16) (zeros 16) 0 0 path

-- at these places, or with this path
abbrev pub kernel_across : (physical virtual size : ℕ) → Body
kernel_across physical virtual size = kernel_with physical virtual size 1 (slash_and 0)

abbrev pub kernel_from : List ℕ → Body
kernel_from path = kernel_with 0 0 0 1 path

abbrev pub range : (address size kind : ℕ) → Entry
range address size kind = record { address = address; size = size; entry_type = kind }

abbrev pub one_range : (address size kind : ℕ) → Body
one_range address size kind = memory_map (range address size kind ∷ [])

abbrev pub two_ranges : Entry → Entry → Body
two_ranges e f = memory_map (e ∷ f ∷ [])

abbrev pub three_ranges : Entry → Entry → Entry → Body
three_ranges e f g = memory_map (e ∷ f ∷ g ∷ [])

-- a framebuffer of these pixels, at 0
abbrev pub pixels : (format bpp : ℕ) → Body
pixels format bpp = framebuffer_of 1 1 4 bpp format 0

-- ---- "sizes suit the table"
abbrev pub size_cases : List Case
size_cases =
    -- platform "at least 56"; members from the higher half base on "are present exactly if they end within the size"
    body_check 55 (late_platform absent absent absent absent) gives 12
    ∷ body_check 56 (late_platform absent absent absent absent) gives 0
    ∷ body_check 56 (late_platform there absent absent absent) gives 12
    ∷ body_check 56 (late_platform absent there absent absent) gives 12
    ∷ body_check 56 (late_platform absent absent there absent) gives 12
    ∷ body_check 56 (late_platform absent absent absent there) gives 12
    ∷ body_check 63 (late_platform there absent absent absent) gives 12
    ∷ body_check 64 (late_platform absent absent absent absent) gives 12
    ∷ body_check 64 (late_platform there absent absent absent) gives 0
    ∷ body_check 64 (late_platform there there absent absent) gives 12
    ∷ body_check 65 (late_platform there there absent absent) gives 0
    ∷ body_check 72 (late_platform there absent absent absent) gives 12
    ∷ body_check 72 (late_platform there there absent absent) gives 0
    ∷ body_check 79 (late_platform there there there absent) gives 12
    ∷ body_check 80 (late_platform there there absent absent) gives 12
    ∷ body_check 80 (late_platform there there there absent) gives 0
    ∷ body_check 87 (late_platform there there there there) gives 12
    ∷ body_check 88 (late_platform there there there there) gives 0
    ∷ body_check 88 (late_platform absent there there there) gives 12
    ∷ body_check 88 (late_platform there absent there there) gives 12
    ∷ body_check 88 (late_platform there there absent there) gives 12
    ∷ body_check 88 (late_platform there there there absent) gives 12
    ∷ body_check 96 (late_platform there there there there) gives 0
    ∷ body_check 65528 (late_platform there there there there) gives 0
    -- kernel "at least 336"
    ∷ body_check 335 (kernel_across 0 0 0) gives 12
    ∷ body_check 336 (kernel_across 0 0 0) gives 0
    ∷ body_check 344 (kernel_across 0 0 0) gives 0
    ∷ body_check 65528 (kernel_across 0 0 0) gives 0
    -- map "8 + 24n, n from 0"
    ∷ body_check 8 (memory_map []) gives 0
    ∷ body_check 16 (memory_map []) gives 12
    ∷ body_check 24 (memory_map []) gives 12
    ∷ body_check 24 (one_range 0 0 1) gives 12
    ∷ body_check 32 (one_range 0 0 1) gives 0
    ∷ body_check 40 (one_range 0 0 1) gives 12
    ∷ body_check 48 (two_ranges (range 0 0 1) (range 0 0 1)) gives 12
    ∷ body_check 56 (two_ranges (range 0 0 1) (range 0 0 1)) gives 0
    ∷ body_check 64 (two_ranges (range 0 0 1) (range 0 0 1)) gives 12
    -- module "at least 96"
    ∷ body_check 95 (module_of 1 [] 0 0) gives 12
    ∷ body_check 96 (module_of 1 [] 0 0) gives 0
    ∷ body_check 104 (module_of 1 [] 0 0) gives 0
    ∷ body_check 65528 (module_of 1 [] 0 0) gives 0
    -- command line "at least 16"
    ∷ body_check 8 (command_line []) gives 12
    ∷ body_check 15 (command_line []) gives 12
    ∷ body_check 16 (command_line []) gives 0
    ∷ body_check 65528 (command_line []) gives 0
    -- framebuffer "at least 32"
    ∷ body_check 31 (pixels 3 32) gives 12
    ∷ body_check 32 (pixels 3 32) gives 0
    ∷ body_check 40 (pixels 3 32) gives 0
    ∷ body_check 65528 (pixels 3 32) gives 0
    -- types from 7 up have no row
    ∷ body_check 8 (other 7) gives 0
    ∷ body_check 65528 (other 4294967295) gives 0
    ∷ []

-- ---- "values"
abbrev pub value_cases : List Case
value_cases =
    -- "platform type, partition type and every map type not 0 (others accepted)"
    body_check 56 (short_platform 0 []) gives 13
    ∷ body_check 56 (short_platform 1 []) gives 0
    ∷ body_check 56 (short_platform 4294967295 []) gives 0
    ∷ body_check 336 (kernel_with 0 0 0 0 (slash_and 0)) gives 13
    ∷ body_check 336 (kernel_with 0 0 0 1 (slash_and 0)) gives 0
    ∷ body_check 336 (kernel_with 0 0 0 4294967296 (slash_and 0)) gives 0
    ∷ body_check 32 (one_range 0 0 0) gives 13
    ∷ body_check 32 (one_range 0 0 4294967296) gives 0
    ∷ body_check 56 (two_ranges (range 0 0 1) (range 0 0 0)) gives 13
    ∷ body_check 56 (two_ranges (range 0 0 1) (range 0 0 4294967296)) gives 0
    -- "module type 1 or 2"
    ∷ body_check 96 (module_of 0 [] 0 0) gives 13
    ∷ body_check 96 (module_of 1 [] 0 0) gives 0
    ∷ body_check 96 (module_of 2 [] 0 0) gives 0
    ∷ body_check 96 (module_of 3 [] 0 0) gives 13
    ∷ body_check 96 (module_of 257 [] 0 0) gives 13
    ∷ body_check 96 (module_of 65537 [] 0 0) gives 13
    -- "framebuffer format 1 to 4, bpp 24 for formats 1 and 2 and 32 for 3 and 4"
    ∷ body_check 32 (pixels 0 24) gives 13
    ∷ body_check 32 (pixels 0 32) gives 13
    ∷ body_check 32 (pixels 1 24) gives 0
    ∷ body_check 32 (pixels 1 32) gives 13
    ∷ body_check 32 (pixels 2 24) gives 0
    ∷ body_check 32 (pixels 2 32) gives 13
    ∷ body_check 32 (pixels 3 24) gives 13
    ∷ body_check 32 (pixels 3 32) gives 0
    ∷ body_check 32 (pixels 4 24) gives 13
    ∷ body_check 32 (pixels 4 32) gives 0
    ∷ body_check 32 (pixels 5 24) gives 13
    ∷ body_check 32 (pixels 5 32) gives 13
    ∷ body_check 32 (pixels 1 23) gives 13
    ∷ body_check 32 (pixels 1 25) gives 13
    ∷ body_check 32 (pixels 3 31) gives 13
    ∷ body_check 32 (framebuffer_of 1 1 8 33 3 0) gives 13
    ∷ body_check 32 (framebuffer_of 1 1 8192 280 1 0) gives 13
    ∷ body_check 32 (framebuffer_of 1 1 4 24 257 0) gives 13
    -- "pitch × 8 at least width × bpp": width, height, pitch, bpp, format, address
    ∷ body_check 32 (framebuffer_of 3 1 8 24 1 0) gives 13
    ∷ body_check 32 (framebuffer_of 3 1 9 24 1 0) gives 0
    ∷ body_check 32 (framebuffer_of 3 1 11 32 3 0) gives 13
    ∷ body_check 32 (framebuffer_of 3 1 12 32 3 0) gives 0
    ∷ body_check 32 (framebuffer_of 134217728 1 0 32 3 0) gives 13
    ∷ body_check 32 (framebuffer_of 0 1 0 32 3 0) gives 0
    ∷ body_check 32 (framebuffer_of 0 0 0 32 3 0) gives 0
    ∷ body_check 32 (framebuffer_of 1 1 536870912 32 3 0) gives 0
    -- "kernel bases, kernel size and module address multiples of 4,096"
    ∷ body_check 336 (kernel_across 2048 0 0) gives 13
    ∷ body_check 336 (kernel_across 4096 0 0) gives 0
    ∷ body_check 336 (kernel_across 4095 0 0) gives 13
    ∷ body_check 336 (kernel_across 4097 0 0) gives 13
    ∷ body_check 336 (kernel_across 0 2048 0) gives 13
    ∷ body_check 336 (kernel_across 0 4096 0) gives 0
    ∷ body_check 336 (kernel_across 0 4095 0) gives 13
    ∷ body_check 336 (kernel_across 0 4097 0) gives 13
    ∷ body_check 336 (kernel_across 0 0 2048) gives 13
    ∷ body_check 336 (kernel_across 0 0 4096) gives 0
    ∷ body_check 336 (kernel_across 0 0 4095) gives 13
    ∷ body_check 336 (kernel_across 0 0 4097) gives 13
    ∷ body_check 96 (module_of 1 [] 2048 0) gives 13
    ∷ body_check 96 (module_of 1 [] 4096 0) gives 0
    ∷ body_check 96 (module_of 1 [] 4095 0) gives 13
    ∷ body_check 96 (module_of 1 [] 4097 0) gives 13
    ∷ []

-- ---- "texts"
abbrev pub text_cases : List Case
text_cases =
    -- "a zero byte within the field": a text is shorter than its field
    body_check 56 (short_platform 1 (letters 31)) gives 0
    ∷ body_check 56 (short_platform 1 (letters 32)) gives 14
    ∷ body_check 336 (kernel_from (slash_and 254)) gives 0
    ∷ body_check 336 (kernel_from (slash_and 255)) gives 14
    ∷ body_check 96 (module_of 1 (letters 63) 0 0) gives 0
    ∷ body_check 96 (module_of 1 (letters 64) 0 0) gives 14
    ∷ body_check 16 (command_line (letters 7)) gives 0
    ∷ body_check 16 (command_line (letters 8)) gives 14
    ∷ body_check 24 (command_line (letters 15)) gives 0
    ∷ body_check 24 (command_line (letters 16)) gives 14
    -- "before it, bytes 1 to 127 only"
    ∷ body_check 56 (short_platform 1 (0 ∷ [])) gives 14
    ∷ body_check 56 (short_platform 1 (1 ∷ 127 ∷ [])) gives 0
    ∷ body_check 56 (short_platform 1 (1 ∷ 128 ∷ [])) gives 14
    ∷ body_check 96 (module_of 1 (0 ∷ []) 0 0) gives 14
    ∷ body_check 96 (module_of 1 (1 ∷ 127 ∷ []) 0 0) gives 0
    ∷ body_check 96 (module_of 1 (1 ∷ 128 ∷ []) 0 0) gives 14
    ∷ body_check 16 (command_line (0 ∷ [])) gives 14
    ∷ body_check 16 (command_line (1 ∷ 127 ∷ [])) gives 0
    ∷ body_check 16 (command_line (1 ∷ 128 ∷ [])) gives 14
    ∷ body_check 16 (command_line (2 ∷ 9 ∷ 31 ∷ 32 ∷ [])) gives 0
    -- "except in the path, which begins with `/` and is otherwise free"
    ∷ body_check 336 (kernel_from []) gives 14
    ∷ body_check 336 (kernel_from (47 ∷ [])) gives 0
    ∷ body_check 336 (kernel_from (46 ∷ [])) gives 14
    ∷ body_check 336 (kernel_from (97 ∷ 47 ∷ [])) gives 14
    ∷ body_check 336 (kernel_from (47 ∷ 0 ∷ [])) gives 14
    ∷ body_check 336 (kernel_from (47 ∷ 1 ∷ 128 ∷ 255 ∷ [])) gives 0
    ∷ []

-- ---- "ranges": none above 2^64, which is 18,446,744,073,709,551,616
abbrev pub range_cases : List Case
range_cases =
    body_check 336 (kernel_across 18446744073709547520 0 4096) gives 0
    ∷ body_check 336 (kernel_across 18446744073709547520 0 8192) gives 15
    ∷ body_check 336 (kernel_across 0 18446744073709547520 4096) gives 0
    ∷ body_check 336 (kernel_across 0 18446744073709547520 8192) gives 15
    ∷ body_check 32 (one_range 18446744073709547520 4096 1) gives 0
    ∷ body_check 32 (one_range 18446744073709547520 4097 1) gives 15
    ∷ body_check 56 (two_ranges (range 0 4096 1) (range 4096 18446744073709547520 1)) gives 0
    ∷ body_check 56 (two_ranges (range 0 4096 1) (range 4096 18446744073709547521 1)) gives 15
    ∷ body_check 96 (module_of 1 [] 18446744073709547520 4096) gives 0
    ∷ body_check 96 (module_of 1 [] 18446744073709547520 4097) gives 15
    -- pitch × height is 4,096 × 2, then 4,294,967,295 × 4,294,967,295
    ∷ body_check 32 (framebuffer_of 1 2 4096 32 3 18446744073709543424) gives 0
    ∷ body_check 32 (framebuffer_of 1 2 4096 32 3 18446744073709543425) gives 15
    ∷ body_check 32 (framebuffer_of 1 4294967295 4294967295 32 3 8589934591) gives 0
    ∷ body_check 32 (framebuffer_of 1 4294967295 4294967295 32 3 8589934592) gives 15
    ∷ []

-- ---- "map order: each entry's address is at least the sum of address and size of the one before. Size 0 is allowed."
abbrev pub order_cases : List Case
order_cases =
    body_check 56 (two_ranges (range 0 4096 1) (range 4096 1 1)) gives 0
    ∷ body_check 56 (two_ranges (range 0 4097 1) (range 4096 1 1)) gives 16
    ∷ body_check 56 (two_ranges (range 0 8192 1) (range 4096 4096 1)) gives 16
    ∷ body_check 56 (two_ranges (range 0 4096 1) (range 8192 1 1)) gives 0
    ∷ body_check 56 (two_ranges (range 5 0 1) (range 5 0 1)) gives 0
    ∷ body_check 56 (two_ranges (range 5 0 1) (range 4 1 1)) gives 16
    ∷ body_check 56 (two_ranges (range 18446744073709547520 4096 1) (range 0 0 1)) gives 16
    ∷ body_check 56 (two_ranges (range 18446744073709547520 4096 1) (range 18446744073709551615 0 1)) gives 16
    ∷ body_check 80 (three_ranges (range 0 1 1) (range 1 1 1) (range 2 1 1)) gives 0
    ∷ body_check 80 (three_ranges (range 0 1 1) (range 1 1 1) (range 1 1 1)) gives 16
    ∷ []

-- ---- two rules broken: the lower number; "within a map, all entries are tried for 13, then 15, then 16"
abbrev pub both_cases : List Case
both_cases =
    -- the size and a member
    body_check 48 (short_platform 0 []) gives 12
    ∷ body_check 328 (kernel_with 0 0 0 0 []) gives 12
    ∷ body_check 40 (one_range 0 0 0) gives 12
    ∷ body_check 88 (module_of 0 [] 0 0) gives 12
    ∷ body_check 8 (command_line (128 ∷ [])) gives 12
    ∷ body_check 24 (pixels 0 32) gives 12
    -- a value and a text, a value and a range
    ∷ body_check 56 (short_platform 0 (128 ∷ [])) gives 13
    ∷ body_check 336 (kernel_with 0 0 0 0 []) gives 13
    ∷ body_check 96 (module_of 0 (128 ∷ []) 0 0) gives 13
    ∷ body_check 32 (framebuffer_of 1 1 4 32 0 18446744073709551615) gives 13
    -- a text and a range
    ∷ body_check 336 (kernel_with 18446744073709547520 0 8192 1 []) gives 14
    ∷ body_check 96 (module_of 1 (128 ∷ []) 4096 18446744073709551615) gives 14
    -- in a map
    ∷ body_check 56 (two_ranges (range 18446744073709547520 4097 1) (range 0 0 0)) gives 13
    ∷ body_check 56 (two_ranges (range 0 4097 1) (range 4096 1 0)) gives 13
    ∷ body_check 56 (two_ranges (range 0 4097 1) (range 4096 18446744073709551615 1)) gives 15
    ∷ []

-- ---- which type may stand where
abbrev pub place_cases : List Case
place_cases =
    -- "first is not 1, second not 2, or a later one is 1 or 2"
    placed 0 0 is false
    ∷ placed 0 1 is true
    ∷ placed 0 2 is false
    ∷ placed 1 1 is false
    ∷ placed 1 2 is true
    ∷ placed 1 3 is false
    ∷ placed 2 0 is true
    ∷ placed 2 1 is false
    ∷ placed 2 2 is false
    ∷ placed 2 3 is true
    ∷ placed 3 1 is false
    ∷ placed 3 2 is false
    ∷ placed 3 3 is true
    -- "type 3, 5 or 6"
    ∷ single 0 is false
    ∷ single 1 is false
    ∷ single 2 is false
    ∷ single 3 is true
    ∷ single 4 is false
    ∷ single 5 is true
    ∷ single 6 is true
    ∷ single 7 is false
    ∷ single 8 is false
    ∷ single 4294967295 is false
    -- "type 4 or from 7 up"
    ∷ repeatable 0 is false
    ∷ repeatable 1 is false
    ∷ repeatable 2 is false
    ∷ repeatable 3 is false
    ∷ repeatable 4 is true
    ∷ repeatable 5 is false
    ∷ repeatable 6 is false
    ∷ repeatable 7 is true
    ∷ repeatable 8 is true
    ∷ repeatable 4294967295 is true
    -- the types before, the nearest first, and a type
    ∷ place_check [] 1 gives 0
    ∷ place_check [] 2 gives 9
    ∷ place_check (1 ∷ []) 2 gives 0
    ∷ place_check (1 ∷ []) 3 gives 9
    ∷ place_check (2 ∷ 1 ∷ []) 1 gives 9
    ∷ place_check (2 ∷ 1 ∷ []) 2 gives 9
    ∷ place_check (2 ∷ 1 ∷ []) 6 gives 0
    ∷ place_check (3 ∷ 2 ∷ 1 ∷ []) 3 gives 10
    ∷ place_check (5 ∷ 2 ∷ 1 ∷ []) 5 gives 10
    ∷ place_check (7 ∷ 6 ∷ 2 ∷ 1 ∷ []) 6 gives 10
    ∷ place_check (4 ∷ 2 ∷ 1 ∷ []) 4 gives 0
    ∷ place_check (3 ∷ 4 ∷ 2 ∷ 1 ∷ []) 4 gives 11
    ∷ place_check (7 ∷ 2 ∷ 1 ∷ []) 7 gives 0
    ∷ place_check (7 ∷ 7 ∷ 2 ∷ 1 ∷ []) 8 gives 0
    ∷ place_check (8 ∷ 7 ∷ 2 ∷ 1 ∷ []) 7 gives 11
    ∷ []

-- ---- what is given to be added
-- a map as bytes, and a kernel with these GUIDs
abbrev pub map_check : List ℕ → ℕ
map_check bytes = given_check (map_formed bytes) (map_of bytes)

abbrev pub guids_check : List ℕ → List ℕ → ℕ
guids_check disk partition = given_check (guids_formed disk partition) (kernel_of 0 0 0 1 disk partition 0 0 (47 ∷ []))

-- the 24 bytes of an entry, but for the last
abbrev pub most_of_entry : List ℕ
most_of_entry = zeros 16 ++ (1 ∷ zeros 6)

abbrev pub given_cases : List Case
given_cases =
    -- "12 is given if their count is no multiple of three"
    addition_check (add_map []) gives 0
    ∷ addition_check (add_map (0 ∷ [])) gives 12
    ∷ addition_check (add_map (0 ∷ 0 ∷ [])) gives 12
    ∷ addition_check (add_map (0 ∷ 0 ∷ 1 ∷ [])) gives 0
    ∷ addition_check (add_map (0 ∷ 0 ∷ 1 ∷ 0 ∷ [])) gives 12
    ∷ addition_check (add_map (0 ∷ 0 ∷ 0 ∷ 0 ∷ [])) gives 12
    -- "12 for a map not of 24n bytes or a GUID not of 16"
    ∷ map_check [] gives 0
    ∷ map_check (zeros 8) gives 12
    ∷ map_check (zeros 12) gives 12
    ∷ map_check (zeros 16) gives 12
    ∷ map_check most_of_entry gives 12
    ∷ map_check (most_of_entry ++ zeros 1) gives 0
    ∷ map_check (most_of_entry ++ zeros 2) gives 12
    ∷ map_check (most_of_entry ++ zeros 9) gives 12
    ∷ guids_check (zeros 16) (zeros 16) gives 0
    ∷ guids_check (zeros 15) (zeros 16) gives 12
    ∷ guids_check (zeros 17) (zeros 16) gives 12
    ∷ guids_check (zeros 16) (zeros 15) gives 12
    ∷ guids_check (zeros 16) (zeros 17) gives 12
    ∷ []

-- ---- "Numbers a call can give back"
abbrev pub number_cases : List Case
number_cases =
    SHORT gives 1
    ∷ VERSION gives 2
    ∷ COUNT gives 3
    ∷ MISSING gives 4
    ∷ HEADER gives 5
    ∷ SIZE gives 6
    ∷ OVERRUN gives 7
    ∷ TYPE gives 8
    ∷ PLACE gives 9
    ∷ REPEAT gives 10
    ∷ SPLIT gives 11
    ∷ FORM gives 12
    ∷ VALUE gives 13
    ∷ TEXT gives 14
    ∷ RANGE gives 15
    ∷ ORDER gives 16
    ∷ FULL gives 17
    ∷ ROOM gives 18
    ∷ ABSENT gives 19
    -- "0 is success, with the used length after it"; "Otherwise a number and an offset"
    ∷ number_of (Ok 576) gives 0
    ∷ value_of (Ok 576) gives 576
    ∷ number_of (refused 12 432) gives 12
    ∷ value_of (refused 12 432) gives 432
    ∷ []

abbrev pub cases : List Case
cases = size_cases ++ value_cases ++ text_cases ++ range_cases ++ order_cases ++ both_cases ++ place_cases ++ given_cases ++ number_cases

-- ---- what has no number for an answer
-- "three to an entry", address, size, type; and a text given is its array without trailing zeros, and no other
abbrev pub ListsGiven : Type 0
ListsGiven =
    (entries_given (1 ∷ 2 ∷ 3 ∷ 4 ∷ 5 ∷ 6 ∷ []) ≡ range 1 2 3 ∷ range 4 5 6 ∷ [])
    × (trimmed (97 ∷ 0 ∷ 98 ∷ 0 ∷ 0 ∷ []) ≡ 97 ∷ 0 ∷ 98 ∷ [])
    × (trimmed (0 ∷ 97 ∷ []) ≡ 0 ∷ 97 ∷ [])
    × (trimmed (0 ∷ 0 ∷ []) ≡ [])

-- "the smaller of the buffer's length and 65,536"
abbrev pub Rooms : Type 0
Rooms =
    (b : List ℕ) → (length b ≡ 65535 → room_of b ≡ 65535) × (length b ≡ 65536 → room_of b ≡ 65536) × (length b ≡ 65537 → room_of b ≡ 65536)

-- The rules on one attribute: its size suits the table, and its members' values, texts, ranges and order. Each is a test on the
-- attribute's size and members alone, so that reading and adding share it.
-- A reader has to believe this file.
use Rattle.std.specs.Prelude.{ℕ, ◌+◌, ◌-◌, ◌*◌, Bool, true, false, not, ◌&&◌, ◌||◌, List, [], ◌∷◌, length, get_or, leb, ltb, eqb}
use Rattle.address_ranges.specs.Ranges.{page_aligned, range_fits}
use Rattle.refusals.specs.Refusals.{unless, FORM, VALUE, TEXT, RANGE, ORDER}
use Rattle.ultra_format.specs.Contexts.{Member, Entry, Body}
use Rattle.ultra_format.specs.Contexts.{Member.present, Member.absent, Body.platform, Body.kernel, Body.memory_map, Body.module_info, Body.command_line, Body.framebuffer, Body.other}

-- the test holds of every element
unfoldable pub every : {X : Type 0} → (X → Bool) → List X → Bool
every p [] = true
every p (x ∷ l) = p x && every p l

-- ---- "sizes suit the table"
-- "present exactly if they end within the size": given whether it ends within the size, the member is as it has to be
abbrev pub present_if : Bool → Member → Bool
present_if true (present n) = true
present_if true absent = false
present_if false (present n) = false
present_if false absent = true

unfoldable pub size_suits : ℕ → Body → Bool
size_suits s (platform p) =
    leb 56 s
    && present_if (leb (56 + 8) s) p.higher_half_base
    && present_if (leb (64 + 1) s) p.depth
    && present_if (leb (72 + 8) s) p.dtb
    && present_if (leb (80 + 8) s) p.smbios
size_suits s (kernel k) = leb 336 s
size_suits s (memory_map es) = eqb s (8 + 24 * length es)
size_suits s (module_info m) = leb 96 s
size_suits s (command_line t) = leb 16 s
size_suits s (framebuffer f) = leb 32 s
size_suits s (other t) = true

-- ---- "values: platform type, partition type and every map type not 0 (others accepted); module type 1 or 2; framebuffer format 1
-- to 4, bpp 24 for formats 1 and 2 and 32 for 3 and 4, pitch × 8 at least width × bpp; kernel bases, kernel size and module address
-- multiples of 4,096"
abbrev pub nonzero : ℕ → Bool
nonzero n = not (eqb n 0)

abbrev pub entry_typed : Entry → Bool
entry_typed e = nonzero e.entry_type

unfoldable pub kernel_values : ℕ → ℕ → ℕ → ℕ → Bool
kernel_values physical virtual size partition_type = nonzero partition_type && page_aligned physical && page_aligned virtual && page_aligned size

unfoldable pub module_values : ℕ → ℕ → Bool
module_values module_type address = (eqb module_type 1 || eqb module_type 2) && page_aligned address

unfoldable pub bpp_suits : ℕ → ℕ → Bool
bpp_suits format bpp = (leb 1 format && leb format 2 && eqb bpp 24) || (leb 3 format && leb format 4 && eqb bpp 32)

unfoldable pub framebuffer_values : ℕ → ℕ → ℕ → ℕ → Bool
framebuffer_values width pitch bpp format = bpp_suits format bpp && leb (width * bpp) (pitch * 8)

unfoldable pub values : Body → Bool
values (platform p) = nonzero p.platform_type
values (kernel k) = kernel_values k.physical_base k.virtual_base k.size k.partition_type
values (memory_map es) = every entry_typed es
values (module_info m) = module_values m.module_type m.address
values (command_line t) = true
values (framebuffer f) = framebuffer_values f.width f.pitch f.bpp f.format
values (other t) = true

-- ---- "texts: a zero byte within the field; before it, bytes 1 to 127 only, except in the path, which begins with `/` and is
-- otherwise free". A text closes within its field if it is shorter than the field.
abbrev pub ascii : ℕ → Bool
ascii x = ltb 0 x && ltb x 128

unfoldable pub ascii_text : ℕ → List ℕ → Bool
ascii_text width t = ltb (length t) width && every ascii t

unfoldable pub path_text : ℕ → List ℕ → Bool
path_text width t = ltb (length t) width && eqb (get_or t 0 0) 47 && every nonzero t

unfoldable pub texts : ℕ → Body → Bool
texts s (platform p) = ascii_text 32 p.name
texts s (kernel k) = path_text 256 k.path
texts s (memory_map es) = true
texts s (module_info m) = ascii_text 64 m.name
texts s (command_line t) = ascii_text (s - 8) t
texts s (framebuffer f) = true
texts s (other t) = true

-- ---- "ranges: kernel physical base + size, kernel virtual base + size, each entry's and each module's address + size, and
-- framebuffer address + pitch × height, none above 2^64"
abbrev pub entry_fits : Entry → Bool
entry_fits e = range_fits e.address e.size

unfoldable pub ranges : Body → Bool
ranges (platform p) = true
ranges (kernel k) = range_fits k.physical_base k.size && range_fits k.virtual_base k.size
ranges (memory_map es) = every entry_fits es
ranges (module_info m) = range_fits m.address m.size
ranges (command_line t) = true
ranges (framebuffer f) = range_fits f.address (f.pitch * f.height)
ranges (other t) = true

-- ---- "map order: each entry's address is at least the sum of address and size of the one before. Size 0 is allowed."
abbrev pub starts_from : ℕ → List Entry → Bool
starts_from end [] = true
starts_from end (e ∷ es) = leb end e.address

unfoldable pub entries_ordered : List Entry → Bool
entries_ordered [] = true
entries_ordered (e ∷ es) = starts_from (e.address + e.size) es && entries_ordered es

unfoldable pub ordered : Body → Bool
ordered (memory_map es) = entries_ordered es
ordered (platform p) = true
ordered (kernel k) = true
ordered (module_info m) = true
ordered (command_line t) = true
ordered (framebuffer f) = true
ordered (other t) = true

-- ---- the first of 12 to 16 that fails, or 0: the size, the values, the texts, the ranges, the order
abbrev pub member_check : Bool → Bool → Bool → Bool → Bool → ℕ
member_check form value text range order =
    unless form FORM
    (unless value VALUE
    (unless text TEXT
    (unless range RANGE
    (unless order ORDER
    0))))

-- of a body of an attribute of `s` bytes
unfoldable pub body_check : ℕ → Body → ℕ
body_check s x = member_check (size_suits s x) (values x) (texts s x) (ranges x) (ordered x)

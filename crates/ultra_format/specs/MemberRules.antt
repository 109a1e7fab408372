-- Statement: each test on members (Members) holds exactly where document 01's sentence does, of all values and in digits; and so do the
-- tests on what is given to be added and on types (Places). The cases in MemberCases show both sides of each. The map's order is MapOrder. Proved in
-- proofs/MemberRules.antt: `member_rules`.
-- A reader has to believe this file.
use Rattle.std.specs.Prelude.{ℕ, ◌+◌, ◌-◌, ◌*◌, ◌≤◌, ◌<◌, ◌≡◌, true, ◌↔◌, ◌⊎◌, List, length, get_or}
use Rattle.words.specs.Rounding.{Multiple}
use Rattle.ultra_format.specs.Contexts.{Member, Platform, Kernel, Entry, Module, Framebuffer}
use Rattle.ultra_format.specs.Contexts.{Member.present, Member.absent, Body.platform, Body.kernel, Body.memory_map, Body.module_info, Body.command_line, Body.framebuffer, Body.other}
use Rattle.ultra_format.specs.Members.{size_suits, values, texts, ranges}
use Rattle.ultra_format.specs.Places.{single, repeatable}
use Rattle.ultra_format.specs.Additions.{Addition.add_map, formed, map_formed, guids_formed}
use Rattle.ultra_format.specs.MapOrder.{entry_in}

-- "present exactly if they end within the size"
abbrev pub PresentFrom : ℕ → ℕ → Member → Type 0
PresentFrom end s (present n) = end ≤ s
PresentFrom end s absent = s < end

-- "a zero byte within the field; before it, bytes 1 to 127 only"
abbrev pub AsciiWithin : ℕ → List ℕ → Type 0
AsciiWithin width t = (length t < width) × ((i : ℕ) → i < length t → (1 ≤ get_or t i 0) × (get_or t i 0 ≤ 127))

-- "except in the path, which begins with `/` and is otherwise free"
abbrev pub PathWithin : ℕ → List ℕ → Type 0
PathWithin width t = (length t < width) × (get_or t 0 0 ≡ 47) × ((i : ℕ) → i < length t → 1 ≤ get_or t i 0)

-- "none above 2^64"
abbrev pub Ends : ℕ → ℕ → Type 0
Ends address size = address + size ≤ 18446744073709551616

pub record MemberRules : Type 0 where
  -- "sizes suit the table"
  pub platform_size : (s : ℕ) (p : Platform) → (size_suits s (platform p) ≡ true)
      ↔ ((56 ≤ s) × PresentFrom 64 s p.higher_half_base × PresentFrom 65 s p.depth × PresentFrom 80 s p.dtb × PresentFrom 88 s p.smbios)
  pub kernel_size : (s : ℕ) (k : Kernel) → (size_suits s (kernel k) ≡ true) ↔ (336 ≤ s)
  pub map_size : (s : ℕ) (es : List Entry) → (size_suits s (memory_map es) ≡ true) ↔ (s ≡ 8 + 24 * length es)
  pub module_size : (s : ℕ) (m : Module) → (size_suits s (module_info m) ≡ true) ↔ (96 ≤ s)
  pub line_size : (s : ℕ) (t : List ℕ) → (size_suits s (command_line t) ≡ true) ↔ (16 ≤ s)
  pub framebuffer_size : (s : ℕ) (f : Framebuffer) → (size_suits s (framebuffer f) ≡ true) ↔ (32 ≤ s)
  pub other_size : (s t : ℕ) → size_suits s (other t) ≡ true
  -- "platform type, partition type and every map type not 0 (others accepted)"; "kernel bases, kernel size and module address multiples
  -- of 4,096"
  pub platform_values : (p : Platform) → (values (platform p) ≡ true) ↔ (1 ≤ p.platform_type)
  pub kernel_values : (k : Kernel) → (values (kernel k) ≡ true)
      ↔ ((1 ≤ k.partition_type) × Multiple 4096 k.physical_base × Multiple 4096 k.virtual_base × Multiple 4096 k.size)
  pub map_values : (es : List Entry) → (values (memory_map es) ≡ true) ↔ ((i : ℕ) → i < length es → 1 ≤ (entry_in es i).entry_type)
  -- "module type 1 or 2"
  pub module_values : (m : Module)
      → (values (module_info m) ≡ true) ↔ (((m.module_type ≡ 1) ⊎ (m.module_type ≡ 2)) × Multiple 4096 m.address)
  -- "framebuffer format 1 to 4, bpp 24 for formats 1 and 2 and 32 for 3 and 4, pitch × 8 at least width × bpp"
  pub framebuffer_values : (f : Framebuffer) → (values (framebuffer f) ≡ true)
      ↔ ((((1 ≤ f.format) × (f.format ≤ 2) × (f.bpp ≡ 24)) ⊎ ((3 ≤ f.format) × (f.format ≤ 4) × (f.bpp ≡ 32))) × (f.width * f.bpp ≤ f.pitch * 8))
  pub line_values : (t : List ℕ) → values (command_line t) ≡ true
  pub other_values : (t : ℕ) → values (other t) ≡ true
  -- "texts", each in its field: "name 16..47", "path 80..335", "name 16..79", "text from 8"
  pub platform_text : (s : ℕ) (p : Platform) → (texts s (platform p) ≡ true) ↔ AsciiWithin 32 p.name
  pub kernel_text : (s : ℕ) (k : Kernel) → (texts s (kernel k) ≡ true) ↔ PathWithin 256 k.path
  pub module_text : (s : ℕ) (m : Module) → (texts s (module_info m) ≡ true) ↔ AsciiWithin 64 m.name
  pub line_text : (s : ℕ) (t : List ℕ) → (texts s (command_line t) ≡ true) ↔ AsciiWithin (s - 8) t
  -- "ranges"
  pub kernel_ranges : (k : Kernel) → (ranges (kernel k) ≡ true) ↔ (Ends k.physical_base k.size × Ends k.virtual_base k.size)
  pub map_ranges : (es : List Entry)
      → (ranges (memory_map es) ≡ true) ↔ ((i : ℕ) → i < length es → Ends (entry_in es i).address (entry_in es i).size)
  pub module_ranges : (m : Module) → (ranges (module_info m) ≡ true) ↔ Ends m.address m.size
  pub framebuffer_ranges : (f : Framebuffer) → (ranges (framebuffer f) ≡ true) ↔ Ends f.address (f.pitch * f.height)
  -- "12 is given if their count is no multiple of three"; "12 for a map not of 24n bytes or a GUID not of 16"
  pub threes : (ns : List ℕ) → (formed (add_map ns) ≡ true) ↔ Multiple 3 (length ns)
  pub entries : (l : List ℕ) → (map_formed l ≡ true) ↔ Multiple 24 (length l)
  pub guids : (d p : List ℕ) → (guids_formed d p ≡ true) ↔ ((length d ≡ 16) × (length p ≡ 16))
  -- "type 3, 5 or 6"; "type 4 or from 7 up"
  pub singles : (t : ℕ) → (single t ≡ true) ↔ (((t ≡ 3) ⊎ (t ≡ 5)) ⊎ (t ≡ 6))
  pub repeatables : (t : ℕ) → (repeatable t ≡ true) ↔ ((t ≡ 4) ⊎ (7 ≤ t))

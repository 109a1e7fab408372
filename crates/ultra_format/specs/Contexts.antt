-- A context as a list: the version, and each attribute's size and members. Document 01: "The list carries the version and each
-- attribute's type, size and members, but no silent byte".
-- A reader has to believe this file.
use Rattle.std.specs.Prelude.{ℕ, ◌+◌, List, [], ◌∷◌, length, get_or, take}

-- a platform member from the higher half base on: "An absent one is marked absent, not zero."
pub data Member : Type 0 where
  present : ℕ → Member
  absent : Member

-- texts are their bytes before the closing zero; GUIDs "are carried as 16 raw bytes"
pub record Platform : Type 0 where
  pub platform_type : ℕ
  pub loader_major : ℕ
  pub loader_minor : ℕ
  pub name : List ℕ
  pub rsdp : ℕ
  pub higher_half_base : Member
  pub depth : Member
  pub dtb : Member
  pub smbios : Member

pub record Kernel : Type 0 where
  pub physical_base : ℕ
  pub virtual_base : ℕ
  pub size : ℕ
  pub partition_type : ℕ
  pub disk_guid : List ℕ
  pub partition_guid : List ℕ
  pub disk_index : ℕ
  pub partition_index : ℕ
  pub path : List ℕ

pub record Entry : Type 0 where
  pub address : ℕ
  pub size : ℕ
  pub entry_type : ℕ

pub record Module : Type 0 where
  pub module_type : ℕ
  pub name : List ℕ
  pub address : ℕ
  pub size : ℕ

pub record Framebuffer : Type 0 where
  pub width : ℕ
  pub height : ℕ
  pub pitch : ℕ
  pub bpp : ℕ
  pub format : ℕ
  pub address : ℕ

-- what an attribute holds; `other t` is of a type t from 7 up, which has no members
pub data Body : Type 0 where
  platform : Platform → Body
  kernel : Kernel → Body
  memory_map : List Entry → Body
  module_info : Module → Body
  command_line : List ℕ → Body
  framebuffer : Framebuffer → Body
  other : ℕ → Body

abbrev pub type_of : Body → ℕ
type_of (platform p) = 1
type_of (kernel k) = 2
type_of (memory_map es) = 3
type_of (module_info m) = 4
type_of (command_line t) = 5
type_of (framebuffer f) = 6
type_of (other t) = t

-- "size counts the whole attribute"
pub record Attribute : Type 0 where
  pub size : ℕ
  pub body : Body

pub record Context : Type 0 where
  pub major : ℕ
  pub minor : ℕ
  pub attributes : List Attribute

-- ---- the attribute at an index, and what is summed over the list
abbrev pub count : Context → ℕ
count c = length c.attributes

abbrev pub attribute_at : Context → ℕ → Attribute
attribute_at c i = get_or c.attributes i (record { size = 0; body = other 0 })

abbrev pub size_at : Context → ℕ → ℕ
size_at c i = (attribute_at c i).size

abbrev pub body_at : Context → ℕ → Body
body_at c i = (attribute_at c i).body

abbrev pub type_at : Context → ℕ → ℕ
type_at c i = type_of (body_at c i)

unfoldable pub total : List Attribute → ℕ
total [] = 0
total (a ∷ l) = a.size + total l

-- where attribute i starts: "8 plus the sizes before it"
abbrev pub start_in : List Attribute → ℕ → ℕ
start_in l i = 8 + total (take i l)

-- "Its used length is 8 plus the sum of its sizes, also with fewer than two attributes."
abbrev pub used : Context → ℕ
used c = 8 + total c.attributes

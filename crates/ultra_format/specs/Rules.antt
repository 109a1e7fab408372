-- Document 01, "Rules of the format", as conditions on a context and a room. Nothing here reads a buffer.
-- A reader has to believe this file.
use Rattle.std.specs.Prelude.{ℕ, ◌%◌, ◌≤◌, ◌<◌, ◌≡◌, true}
use Rattle.byte_layout.specs.Fields.{Fits}
use Rattle.ultra_format.specs.Contexts.{Body, Context, count, size_at, body_at, type_at, used}
use Rattle.ultra_format.specs.Contexts.{Body.platform, Body.kernel, Body.memory_map, Body.module_info, Body.command_line, Body.framebuffer, Body.other}
use Rattle.ultra_format.specs.Layouts.{layout}
use Rattle.ultra_format.specs.Members.{size_suits, values, texts, ranges, ordered}
use Rattle.ultra_format.specs.Places.{single}

-- a body suits its type: one without members is of a type "from 7 up"; the table's six have their own bodies
abbrev pub TypeSuits : Body → Type 0
TypeSuits (platform p) = Unit {0}
TypeSuits (kernel k) = Unit {0}
TypeSuits (memory_map es) = Unit {0}
TypeSuits (module_info m) = Unit {0}
TypeSuits (command_line t) = Unit {0}
TypeSuits (framebuffer f) = Unit {0}
TypeSuits (other t) = 7 ≤ t

-- what the rules ask of one attribute of `s` bytes
pub record AttributeMeets (s : ℕ) (x : Body) : Type 0 where
  -- "every size is a multiple of 8 and at least 8 (we ask it of the last one too)"
  pub eights : s % 8 ≡ 0
  pub least : 8 ≤ s
  -- "types 7 and up" are those without a row in the table
  pub type_suits : TypeSuits x
  -- "sizes suit the table"
  pub suits : size_suits s x ≡ true
  -- "and the members meet": values, texts, ranges, map order
  pub values_hold : values x ≡ true
  pub texts_hold : texts s x ≡ true
  pub ranges_hold : ranges x ≡ true
  pub in_order : ordered x ≡ true

-- the rules, with `fewest` as the lower limit of the count: 2 for a context, and 0 where adding reads "by all rules but the lower
-- limit of the count"
pub record Meets (fewest room : ℕ) (c : Context) : Type 0 where
  -- every member is of the width that the table gives it
  pub fits : Fits (layout c)
  -- "major is at least 1"
  pub major : 1 ≤ c.major
  -- "the count is the list's length, 2 to 1,024"
  pub enough : fewest ≤ count c
  pub most : count c ≤ 1024
  -- "the total is within the room"
  pub within : used c ≤ room
  -- "no type is 0"
  pub typed : (i : ℕ) → i < count c → type_at c i ≡ 0 → ⊥
  -- "the first is type 1, the second type 2, and neither occurs again"
  pub first : 0 < count c → type_at c 0 ≡ 1
  pub second : 1 < count c → type_at c 1 ≡ 2
  pub later : (i : ℕ) → 1 < i → i < count c → (type_at c i ≡ 1 → ⊥) × (type_at c i ≡ 2 → ⊥)
  -- "types 3, 5 and 6 occur at most once"
  pub once : (i j : ℕ) → i < j → j < count c → single (type_at c j) ≡ true → type_at c i ≡ type_at c j → ⊥
  -- "all attributes of one type stand together, also of types 7 and up, which may repeat"
  pub together : (i j k : ℕ) → i < j → j < k → k < count c → type_at c i ≡ type_at c k → type_at c j ≡ type_at c k
  pub each : (i : ℕ) → i < count c → AttributeMeets (size_at c i) (body_at c i)

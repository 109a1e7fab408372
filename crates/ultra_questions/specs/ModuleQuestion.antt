-- "Which module holds an address: the attribute start of the first module with address ≤ a < address + size, or 0." Since request R-4
-- the size counts as rounded up to 4,096 (`pages_cover`).
-- A reader has to believe this file.
use Rattle.std.specs.Prelude.{ℕ, Bool, false, List, Ok}
use Rattle.address_ranges.specs.Ranges.{pages_cover}
use Rattle.ultra_format.specs.Contexts.{Body, Context}
use Rattle.ultra_format.specs.Contexts.{Body.platform, Body.kernel, Body.memory_map, Body.module_info, Body.command_line, Body.framebuffer, Body.other}
use Rattle.ultra_format.specs.Decoding.{context_of}
use Rattle.refusals.specs.Answers.{Answer}
use Rattle.ultra_reading.specs.Reading.{used_length}
use Rattle.ultra_locating.specs.Passing.{if_accepted}
use Rattle.ultra_locating.specs.Searching.{first_in, found_start}

abbrev pub holding : ℕ → Body → Bool
holding a (platform p) = false
holding a (kernel k) = false
holding a (memory_map es) = false
holding a (module_info m) = pages_cover m.address m.size a
holding a (command_line t) = false
holding a (framebuffer f) = false
holding a (other t) = false

-- of a context
abbrev pub module_in : Context → ℕ → Answer
module_in c a = Ok (found_start (first_in (holding a) c))

-- of a buffer
unfoldable pub module_holding : List ℕ → ℕ → Answer
module_holding b a = if_accepted (λ r. r) (module_in (context_of b) a) (used_length 2 b)

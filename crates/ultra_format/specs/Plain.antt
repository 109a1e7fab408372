-- Document 01, "Plain" (its own term): a context as this library writes one.
-- A reader has to believe this file.
use Rattle.std.specs.Prelude.{ℕ, ◌+◌, ◌*◌, ◌<◌, ◌≡◌, List, length, get_or}
use Rattle.words.specs.Rounding.{rounded_up}
use Rattle.ultra_format.specs.Contexts.{Body, Context, count, size_at, body_at, type_at, used}
use Rattle.ultra_format.specs.Contexts.{Body.platform, Body.kernel, Body.memory_map, Body.module_info, Body.command_line, Body.framebuffer, Body.other}
use Rattle.ultra_format.specs.Layouts.{Silent}

-- the size that an attribute is written with: "88, 336, 96, 32, least text size". Types from 7 up are never written.
-- "A text of k bytes as command line is written in 8 + (k + 1 rounded up to a multiple of 8) bytes."
unfoldable pub written_size : Body → ℕ
written_size (platform p) = 88
written_size (kernel k) = 336
written_size (memory_map es) = 8 + 24 * length es
written_size (module_info m) = 96
written_size (command_line t) = 8 + rounded_up 8 (length t + 1)
written_size (framebuffer f) = 32
written_size (other t) = 8

-- a buffer that holds the context holds it plainly
pub record Plain (b : List ℕ) (c : Context) : Type 0 where
  -- "version 1.0"
  pub major : c.major ≡ 1
  pub minor : c.minor ≡ 0
  -- "sizes as written"
  pub sizes : (i : ℕ) → i < count c → size_at c i ≡ written_size (body_at c i)
  -- "all silent bytes within the used length zero"
  pub zeros : (i : ℕ) → i < used c → Silent c i → get_or b i 0 ≡ 0
  -- "no type from 7 up"
  pub types : (i : ℕ) → i < count c → type_at c i < 7

-- The sizes of document 01's table, for contracts: how many bytes an attribute of each type has at least, and a map's entry.
-- Serves the library's own functions and proofs: no published contract or promise rests on it.
use Rattle.std.specs.Prelude.{ℕ}

abbrev pub platform_size : ℕ
platform_size = 56

-- with every member
abbrev pub platform_full_size : ℕ
platform_full_size = 88

abbrev pub kernel_size : ℕ
kernel_size = 336

abbrev pub entry_size : ℕ
entry_size = 24

abbrev pub module_size : ℕ
module_size = 96

abbrev pub framebuffer_size : ℕ
framebuffer_size = 32

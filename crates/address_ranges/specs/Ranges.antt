-- Rules on addresses and on ranges of them, in whole numbers: no sum wraps.
-- A reader has to believe this file.
use Rattle.std.specs.Prelude.{ℕ, ◌+◌, ◌%◌, Bool, ◌&&◌, leb, ltb, eqb}
use Rattle.words.specs.Rounding.{rounded_up}

-- "multiples of 4,096"
abbrev pub page_aligned : ℕ → Bool
page_aligned n = eqb (n % 4096) 0

-- "address + size .. none above 2^64"
abbrev pub range_fits : ℕ → ℕ → Bool
range_fits address size = leb (address + size) 18446744073709551616

-- "each entry's address is at least the sum of address and size of the one before"
abbrev pub ends_by : ℕ → ℕ → ℕ → Bool
ends_by address size next = leb (address + size) next

-- "address ≤ a < address + size", where request R-4 "uses the size rounded up to 4,096"
unfoldable pub pages_cover : ℕ → ℕ → ℕ → Bool
pages_cover address size a = leb address a && ltb a (address + rounded_up 4096 size)

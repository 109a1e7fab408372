-- The tests on one record that reading and writing share, beside that of a range (`range_fits`, crate address_ranges: "no record's range
-- passes 2^64").
-- A reader has to believe this file.
use Rattle.std.specs.Prelude.{ℕ, Bool, true, false, not, eqb}
use Rattle.handover_format.specs.Payloads.{handover_end}

-- "The last record, and no other, has the end tag": of a record that is the last or not, with the tag t
abbrev pub end_suits : Bool → ℕ → Bool
end_suits true t = eqb t handover_end
end_suits false t = not (eqb t handover_end)

-- what is asked of a string only where it is named
unfoldable pub if_named : Bool → Bool → Bool
if_named true t = t
if_named false t = true

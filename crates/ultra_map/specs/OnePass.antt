-- How one pass over a map's entries tells the first of 13, 15 and 16: three tests, each taken up where the one before it stopped.
-- Serves the library's own functions and proofs: no published contract or promise rests on it.
use Rattle.std.specs.Prelude.{ℕ, ◌+◌, ◌-◌, ◌%◌, ◌≤◌, ◌≡◌, Bool, false, ◌&&◌, List, [], ◌∷◌, drop, get_or}
use Rattle.address_ranges.specs.Ranges.{ends_by}
use Rattle.ultra_format.specs.Contexts.{Entry}
use Rattle.ultra_format.specs.Members.{entry_typed, entry_fits}
use Rattle.ultra_format.specs.Decoding.{pick}
use Rattle.ultra_format.specs.Additions.{entries_given}

-- from `o` to `end` there are whole entries, of so many numbers each
abbrev pub Whole : ℕ → ℕ → ℕ → Type 0
Whole width o end = (o ≤ end) × ((end - o) % width ≡ 0)

-- the entry in the three numbers from `o` on, and all from there on
abbrev pub entry_from : List ℕ → ℕ → Entry
entry_from ns o = record { address = get_or ns o 0; size = get_or ns (o + 1) 0; entry_type = get_or ns (o + 2) 0 }

abbrev pub given_from : List ℕ → ℕ → List Entry
given_from ns o = entries_given (drop o ns)

-- the first entry that fails the test, and all after it; the test is given an entry and those after it
unfoldable pub left_by : (Entry → List Entry → Bool) → List Entry → List Entry
left_by test [] = []
left_by test (e ∷ es) = pick (test e es) (left_by test es) (e ∷ es)

-- "each entry's address is at least the sum of address and size of the one before": `e` is the one before
abbrev pub ends_by_next : Entry → Entry → Bool
ends_by_next e n = ends_by e.address e.size n.address

-- a type, and an end by the address of the next entry, where there is one: a number of 64 bits, so that the end is below 2^64 too
abbrev pub settled : Entry → List Entry → Bool
settled e [] = false
settled e (n ∷ es) = entry_typed e && ends_by_next e n

-- a type, and an end at 2^64 or below
abbrev pub typed_and_fits : Entry → List Entry → Bool
typed_and_fits e es = entry_typed e && entry_fits e

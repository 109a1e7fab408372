-- Statement: the order of a map's entries by index, beside the test on neighbours that reading and adding share (Members). Proved in
-- proofs/MapOrder.antt: `map_order`.
-- A reader has to believe this file.
use Rattle.std.specs.Prelude.{ℕ, suc, ◌+◌, ◌≤◌, ◌<◌, ◌≡◌, ◌↔◌, true, List, length, get_or}
use Rattle.ultra_format.specs.Contexts.{Entry, Body.memory_map}
use Rattle.ultra_format.specs.Members.{entries_ordered, ordered}

abbrev pub entry_in : List Entry → ℕ → Entry
entry_in es i = get_or es i (record { address = 0; size = 0; entry_type = 0 })

-- "each entry's address is at least the sum of address and size of the one before", a sum in whole numbers
abbrev pub InOrder : List Entry → Type 0
InOrder es = (i : ℕ) → suc i < length es → (entry_in es i).address + (entry_in es i).size ≤ (entry_in es (suc i)).address

-- so no entry overlaps a later one, however far after it
abbrev pub Apart : List Entry → Type 0
Apart es = (i j : ℕ) → i < j → j < length es → (entry_in es i).address + (entry_in es i).size ≤ (entry_in es j).address

pub record MapOrder (es : List Entry) : Type 0 where
  pub test : (entries_ordered es ≡ true) ↔ InOrder es
  -- the rule of a map's body (Rules), which 16 ORDER refuses
  pub rule : (ordered (memory_map es) ≡ true) ↔ InOrder es
  pub apart : InOrder es → Apart es

abbrev pub MapsOrdered : Type 0
MapsOrdered = (es : List Entry) → MapOrder es

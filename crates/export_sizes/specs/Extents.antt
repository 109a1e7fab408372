-- How far the records of a payload and their strings reach, as passes over a context count them.
-- Serves the library's own functions and proofs: no published contract or promise rests on it.
use Rattle.std.specs.Prelude.{ℕ, ◌+◌, List, length}
use Rattle.byte_layout.specs.Stored.{closed}
use Rattle.handover_format.specs.Payloads.{Entry}
use Rattle.handover_format.specs.WrittenForm.{strings}
use Rattle.export_sizes.specs.declared.Extent.{Extent}

-- with the records es more
unfoldable pub grown : Extent → List Entry → Extent
grown m es = record { count = m.count + length es; width = m.width + length (strings es) }

-- before the first record: no record, and the agent's string
abbrev pub agent_alone : List ℕ → Extent
agent_alone agent = record { count = 0; width = length (closed agent) }

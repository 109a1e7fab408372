-- Statements on which demand 3 rests (it stands whole in crate demand_3): reading accepts exactly the contexts that meet the rules, there
-- is one at most, and silent bytes never change what is read. They are proved in proofs/Acceptance.antt. Those with `fewest` speak of
-- every lower limit of the count, so of what adding reads too. Of a buffer only that its elements are bytes is assumed, and that only where it is needed.
-- A reader has to believe this file.
use Rattle.std.specs.Prelude.{ℕ, ◌≤◌, ◌<◌, ◌≡◌, ◌↔◌, List, length, get_or, Ok}
use Rattle.byte_layout.specs.Stored.{Bytes}
use Rattle.ultra_format.specs.Contexts.{Context, used}
use Rattle.lent_buffers.specs.Room.{room_of}
use Rattle.ultra_format.specs.Layouts.{Opens, Silent}
use Rattle.ultra_format.specs.Rules.{Meets}
use Rattle.ultra_reading.specs.Reading.{used_length, reading_of, reading_number, read_as}
use Rattle.ultra_reading.specs.declared.Version.{Version}

-- a context that a buffer holds: it "meets the rules" with that buffer's room, "and its bytes open the buffer"
abbrev pub HoldsContext : ℕ → List ℕ → Context → Type 0
HoldsContext fewest b c = Meets fewest (room_of b) c × Opens b c

-- a used length is answered exactly when "some list meets the rules and its bytes open the buffer", and it is that list's
abbrev pub AcceptsExactly : Type 0
AcceptsExactly = (fewest : ℕ) (b : List ℕ) (n : ℕ) → Bytes b → (used_length fewest b ≡ Ok n) ↔ ((c : Context) × HoldsContext fewest b c × (n ≡ used c))

-- "Then there is no other such list and no other used length"
abbrev pub OneContext : Type 0
OneContext = (fewest : ℕ) (b : List ℕ) (c d : Context) → HoldsContext fewest b c → HoldsContext fewest b d → c ≡ d

-- of the context c that b holds, d is "a second buffer of at least the used length, equal to the first up to there apart from bytes
-- silent in the first"
abbrev pub DiffersInSilence : Context → List ℕ → List ℕ → Type 0
DiffersInSilence c b d = (used c ≤ length d) × ((i : ℕ) → i < used c → (Silent c i → ⊥) → get_or d i 0 ≡ get_or b i 0)

-- such a buffer holds the same context, and its used length is answered alike
abbrev pub SilentBytes : Type 0
SilentBytes =
    (fewest : ℕ) (b d : List ℕ) (c : Context) → HoldsContext fewest b c → DiffersInSilence c b d → HoldsContext fewest d c × (used_length fewest d ≡ used_length fewest b)

-- the version of a list: "The list carries the version"
abbrev pub version_in : Context → Version
version_in c = record { major = c.major; minor = c.minor }

-- "reading accepts exactly when some list meets the rules and its bytes open the buffer"
abbrev pub ReadsExactly : Type 0
ReadsExactly = (b : List ℕ) → Bytes b → (reading_number (reading_of b) ≡ 0) ↔ ((c : Context) × HoldsContext 2 b c)

-- and answers that list's version and used length
abbrev pub ReadsHeld : Type 0
ReadsHeld = (b : List ℕ) (c : Context) → HoldsContext 2 b c → reading_of b ≡ read_as (version_in c) (used c)

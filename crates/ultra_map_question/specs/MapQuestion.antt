-- "The map copied out as 64-bit numbers; 19 then 18, both with the used length; elements past the last triple stay. Success answers the
-- number of entries."
-- A reader has to believe this file.
use Rattle.std.specs.Prelude.{ℕ, ◌+◌, ◌-◌, ◌*◌, ◌/◌, List, [], ◌∷◌, length, leb, Ok}
use Rattle.words.specs.Words.{u32_at, numbers_in, numbers_bytes}
use Rattle.byte_layout.specs.Stored.{over}
use Rattle.refusals.specs.Refusals.{ROOM, ABSENT}
use Rattle.refusals.specs.Answers.{Answer, refused}
use Rattle.ultra_format.specs.Contexts.{Entry, Body, Context, used}
use Rattle.ultra_format.specs.Contexts.{Body.platform, Body.kernel, Body.memory_map, Body.module_info, Body.command_line, Body.framebuffer, Body.other}
use Rattle.ultra_format.specs.Decoding.{pick, context_of}
use Rattle.ultra_reading.specs.Reading.{used_length}
use Rattle.ultra_map_question.specs.declared.MapNumbers.{MapNumbers}
use Rattle.ultra_locating.specs.Passing.{if_accepted}
use Rattle.ultra_locating.specs.Searching.{Found, Found.none, Found.found, first_in, of_type}

-- "64-bit numbers, three to an entry"
unfoldable pub numbers : List Entry → List ℕ
numbers [] = []
numbers (e ∷ es) = e.address ∷ e.size ∷ e.entry_type ∷ numbers es

abbrev pub entries_of : Body → List Entry
entries_of (platform p) = []
entries_of (kernel k) = []
entries_of (memory_map es) = es
entries_of (module_info m) = []
entries_of (command_line t) = []
entries_of (framebuffer f) = []
entries_of (other t) = []

-- the answer and what `out` has afterwards, for entries and for a context of the used length n
abbrev pub entries_copied : ℕ → List Entry → List ℕ → Answer × List ℕ
entries_copied n es out =
    pick (leb (3 * length es) (length out)) (Ok (length es), over (numbers es) out) (refused ROOM n, out)

abbrev pub found_copied : ℕ → Found → List ℕ → Answer × List ℕ
found_copied n none out = (refused ABSENT n, out)
found_copied n (found o a) out = entries_copied n (entries_of a.body) out

-- of a context
abbrev pub map_in : Context → List ℕ → Answer × List ℕ
map_in c out = found_copied (used c) (first_in (of_type 3) c) out

-- of a buffer: "all lent memory" is unchanged where reading refuses it
unfoldable pub map_copied : List ℕ → List ℕ → Answer × List ℕ
map_copied b out = if_accepted (λ r. (r, out)) (map_in (context_of b) out) (used_length 2 b)

-- ---- the same with an output of bytes, "eight to a number"; "an output counts whole eights"
abbrev pub over_bytes : List ℕ → Answer × List ℕ → Answer × List ℕ
over_bytes out r = (r.0, over (numbers_bytes r.1) out)

unfoldable pub map_copied_bytes : List ℕ → List ℕ → Answer × List ℕ
map_copied_bytes b out = over_bytes out (map_copied b (numbers_in out))

-- ---- before anything is copied: what is answered, and where the numbers that are copied start and how many they are
-- how many entries the map attribute at `o` has
abbrev pub entries_stored : List ℕ → ℕ → ℕ
entries_stored b o = (u32_at b (o + 4) - 8) / 24

abbrev pub no_numbers : Answer → MapNumbers
no_numbers r = record { answer = r; start = 0; count = 0 }

-- those of k entries, of the map attribute at `o`
abbrev pub numbers_from : ℕ → ℕ → MapNumbers
numbers_from o k = record { answer = Ok k; start = o + 8; count = 3 * k }

-- for an output of n numbers and a context of the used length u
abbrev pub found_numbers : ℕ → ℕ → Found → MapNumbers
found_numbers u n none = no_numbers (refused ABSENT u)
found_numbers u n (found o a) =
    let k = length (entries_of a.body) in
    pick (leb (3 * k) n) (numbers_from o k) (no_numbers (refused ROOM u))

unfoldable pub map_numbers : List ℕ → ℕ → MapNumbers
map_numbers b n = if_accepted no_numbers (found_numbers (used (context_of b)) n (first_in (of_type 3) (context_of b))) (used_length 2 b)

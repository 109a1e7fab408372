-- "The command line is handed back as that part of the buffer, up to its zero; an empty part if there is none or the buffer is refused."
-- Request R-5 of document 02 lends a second text, the board's, and amends the end of that sentence.
-- A reader has to believe this file.
use Rattle.std.specs.Prelude.{ℕ, List}
use Rattle.std.specs.Borrow.{Bor}
use Rattle.ultra_format.specs.Contexts.{Context}
use Rattle.ultra_format.specs.Decoding.{context_of}
use Rattle.ultra_reading.specs.Reading.{used_length}
use Rattle.lent_buffers.specs.declared.Part.{Part}
use Rattle.ultra_locating.specs.Passing.{if_accepted}
use Rattle.lent_buffers.specs.LentParts.{no_part, PartOf, WholeOf}
use Rattle.ultra_questions.specs.Parts.{body_part, part_bytes}
use Rattle.ultra_locating.specs.Searching.{Found, Found.none, Found.found, first_in, of_type}

-- ---- of a context

-- its line, if it has one
abbrev pub line_in : Context → Found
line_in c = first_in (of_type 5) c

-- where a line is: "an empty part if there is none"
abbrev pub found_part : Found → Part
found_part none = no_part
found_part (found o a) = body_part o a.body

abbrev pub command_line_in : Context → Part
command_line_in c = found_part (line_in c)

-- the text of a line; "otherwise the board's text"
abbrev pub found_text : List ℕ → Found → List ℕ
found_text board none = board
found_text board (found o a) = part_bytes a.body

abbrev pub text_in : List ℕ → Context → List ℕ
text_in board c = found_text board (line_in c)

-- ---- of a buffer

-- "the context's own line where the context is accepted and has one"
unfoldable pub line_found : List ℕ → Found
line_found b = if_accepted (λ r. none) (line_in (context_of b)) (used_length 2 b)

unfoldable pub command_line_part : List ℕ → Part
command_line_part b = found_part (line_found b)

-- ---- the slice that `command_line` hands back of the buffer s and the board's text

-- "The answer is a part of one of the two texts lent and not a copy": the line's part of the buffer, or all of the board's text
abbrev pub LineOrBoard : Bor (List ℕ) → Bor (List ℕ) → Bor (List ℕ) → Found → Type 0
LineOrBoard lent s board none = WholeOf lent board
LineOrBoard lent s board (found o a) = PartOf lent s (body_part o a.body)

-- "hands back the context's own line where the context is accepted and has one, even an empty one, and otherwise the board's text": the
-- contract
abbrev pub LineHandedBack : Bor (List ℕ) → Bor (List ℕ) → Bor (List ℕ) → Type 0
LineHandedBack lent s board = LineOrBoard lent s board (line_found s.now)

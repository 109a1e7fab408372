-- Statement: what request R-5 left as it was of the command line question, of every buffer: where the line is told to be; with an empty text
-- of the board, every byte that is handed back; and with any text, a line with its memory. Of which buffers each text is handed back: `line`
-- of EveryBuffer. Proved in proofs/BoardText.antt: `board_text_law`.
-- A reader has to believe this file.
use Rattle.std.specs.Prelude.{ℕ, ◌≡◌, List, []}
use Rattle.std.specs.Borrow.{Bor}
use Rattle.ultra_format.specs.Decoding.{context_of}
use Rattle.ultra_reading.specs.Reading.{used_length}
use Rattle.lent_buffers.specs.declared.Part.{Part}
use Rattle.lent_buffers.specs.LentParts.{no_part, PartOf, WholeOf}
use Rattle.ultra_locating.specs.Passing.{if_accepted}
use Rattle.ultra_questions.specs.CommandLineQuestion.{command_line_in, command_line_part, LineHandedBack}

-- the part that was answered and handed back before the request: "an empty part if there is none or the buffer is refused"
abbrev pub part_before : List ℕ → Part
part_before b = if_accepted (λ r. no_part) (command_line_in (context_of b)) (used_length 2 b)

-- `before` is the slice that was handed back of the buffer s
abbrev pub HandedBackBefore : Bor (List ℕ) → Bor (List ℕ) → Type 0
HandedBackBefore before s = PartOf before s (part_before s.now)

pub record BoardText : Type 0 where
  -- `command_line_part`, and so the call toward C, answers as it did
  pub unmoved : (b : List ℕ) → command_line_part b ≡ part_before b
  -- "The recovery image passes an empty board text and sees no difference."
  pub no_difference : (lent before s board : Bor (List ℕ)) → LineHandedBack lent s board → HandedBackBefore before s → board.now ≡ []
      → lent.now ≡ before.now
  -- a line is handed back as it was, in the same memory, whatever the board's text is
  pub same_line : (lent before s board : Bor (List ℕ)) → LineHandedBack lent s board → HandedBackBefore before s
      → ((part_before s.now).start ≡ 0 → ⊥) → WholeOf lent before
  -- the contract leaves nothing free: slices handed back of the same two texts are the same memory with the same bytes
  pub settled : (lent other s board : Bor (List ℕ)) → LineHandedBack lent s board → LineHandedBack other s board → WholeOf lent other

-- The statements on the questions do not speak of nothing: what they say, in digits, of a buffer that holds a context with every type of
-- attribute (Examples, of crate ultra_format), on both sides of each limit; and of the command line of any context. Proved in
-- proofs/Witness.antt, `witnessed`, from them.
-- A reader has to believe this file.
use Rattle.std.specs.Prelude.{ℕ, ◌+◌, ◌<◌, ◌≡◌, ◌⊎◌, List, [], ◌∷◌, length, get_or, Ok}
use Rattle.std.specs.Borrow.{Bor}
use Rattle.words.specs.Rounding.{rounded_up}
use Rattle.refusals.specs.Answers.{refused}
use Rattle.ultra_format.specs.Contexts.{Body.command_line, Context, count, body_at, type_at, start_in}
use Rattle.ultra_format.specs.Examples.{every_type, every_type_bytes}
use Rattle.ultra_format.specs.MemberRules.{Ends}
use Rattle.ultra_acceptance.specs.Acceptance.{HoldsContext}
use Rattle.lent_buffers.specs.LentParts.{part}
use Rattle.ultra_questions.specs.AttributeQuestion.{attribute_start}
use Rattle.ultra_map_question.specs.MapQuestion.{map_copied, map_copied_bytes}
use Rattle.ultra_questions.specs.CommandLineQuestion.{command_line_part, LineHandedBack}
use Rattle.ultra_questions.specs.ModuleQuestion.{module_holding}
use Rattle.ultra_crossing.specs.Crossing.{part_crossed}
use Rattle.ultra_question_statements.specs.BoardText.{HandedBackBefore}

-- the text of its command line
abbrev pub every_line : List ℕ
every_line = 110 ∷ 111 ∷ 97 ∷ 112 ∷ 105 ∷ 99 ∷ 61 ∷ 49 ∷ []

-- bytes that are lent at an address, in one block of memory
abbrev pub lent_at : ℕ → List ℕ → Bor (List ℕ)
lent_at o l = record { ref_ptr = (1, o); now = l }

pub record Witnessed : Type 0 where
  pub holds : HoldsContext 2 every_type_bytes every_type
  -- seven attributes in 688 bytes
  pub last : attribute_start every_type_bytes 6 ≡ Ok 672
  pub past : attribute_start every_type_bytes 7 ≡ refused 3 688
  -- 4,097 bytes of a module at 2^33, the attribute of which starts at 504: its second page is held to its last byte
  pub before : module_holding every_type_bytes 8589934591 ≡ Ok 0
  pub first_byte : module_holding every_type_bytes 8589934592 ≡ Ok 504
  pub last_byte : module_holding every_type_bytes 8589942783 ≡ Ok 504
  pub after : module_holding every_type_bytes 8589942784 ≡ Ok 0
  pub rounded_end : Ends 8589934592 (rounded_up 4096 4097)
  -- the last page of the address space, at a multiple of 4,096 and of no higher power of 2: rounded up, one byte ends within 2^64, and one
  -- byte more than the page does not
  pub last_page : Ends 18446744073709547520 (rounded_up 4096 1) × (Ends 18446744073709547520 (rounded_up 4096 4097) → ⊥)
  -- half of it, which is not page aligned: the plain end does not pass 2^64, and the rounded one does
  pub half_page : Ends 18446744073709549568 2048 × (Ends 18446744073709549568 (rounded_up 4096 2048) → ⊥)
  -- two entries, six numbers
  pub map : (a b c d e f : ℕ) (rest : List ℕ)
      → map_copied every_type_bytes (a ∷ b ∷ c ∷ d ∷ e ∷ f ∷ rest) ≡ (Ok 2, 0 ∷ 18446744073709547520 ∷ 1 ∷ 18446744073709547520 ∷ 4096 ∷ 4294967296 ∷ rest)
  pub too_short : (out : List ℕ) → length out ≡ 5
      → ((map_copied every_type_bytes out).0 ≡ refused 18 688) × ((map_copied every_type_bytes out).1 ≡ out)
  -- in bytes, 48
  pub map_bytes : (out : List ℕ) → length out ≡ 48 → ((i : ℕ) → get_or out i 0 < 256) → (map_copied_bytes every_type_bytes out).0 ≡ Ok 2
  pub bytes_too_short : (out : List ℕ) → length out ≡ 47 → (map_copied_bytes every_type_bytes out).0 ≡ refused 18 688
  -- the text of eight bytes, from 616 on
  pub line : command_line_part every_type_bytes ≡ part 616 8
  -- of the buffer at the address 4096 the slice at 4712 is handed back, whatever the board's text is; any other that is handed back is the
  -- same memory with the same bytes
  pub line_slice : (board : Bor (List ℕ)) → LineHandedBack (lent_at 4712 every_line) (lent_at 4096 every_type_bytes) board
  pub any_line : (lent s board : Bor (List ℕ)) → s.now ≡ every_type_bytes → LineHandedBack lent s board
      → (lent.ref_ptr.0 ≡ s.ref_ptr.0) × (lent.ref_ptr.1 ≡ 616 + s.ref_ptr.1) × (lent.now ≡ every_line)
  -- of an empty buffer, which is refused, the board's text
  pub board_slice : (board : Bor (List ℕ)) → LineHandedBack board (lent_at 4096 []) board
  pub any_board : (lent s board : Bor (List ℕ)) → s.now ≡ [] → LineHandedBack lent s board
      → (lent.ref_ptr.0 ≡ board.ref_ptr.0) × (lent.ref_ptr.1 ≡ board.ref_ptr.1) × (lent.now ≡ board.now)
  -- what request R-5 changed, of these two buffers, wherever they and the board's text are lent
  pub no_difference : (lent before s board : Bor (List ℕ)) → (s.now ≡ every_type_bytes) ⊎ (s.now ≡ []) → LineHandedBack lent s board
      → HandedBackBefore before s → board.now ≡ [] → lent.now ≡ before.now
  pub same_line : (lent before s board : Bor (List ℕ)) → s.now ≡ every_type_bytes → LineHandedBack lent s board → HandedBackBefore before s
      → (lent.ref_ptr.0 ≡ before.ref_ptr.0) × (lent.ref_ptr.1 ≡ before.ref_ptr.1) × (lent.now ≡ before.now)
  pub settled : (lent other s board : Bor (List ℕ)) → (s.now ≡ every_type_bytes) ⊎ (s.now ≡ []) → LineHandedBack lent s board
      → LineHandedBack other s board → (lent.ref_ptr.0 ≡ other.ref_ptr.0) × (lent.ref_ptr.1 ≡ other.ref_ptr.1) × (lent.now ≡ other.now)
  pub handed_before : HandedBackBefore (lent_at 4712 every_line) (lent_at 4096 every_type_bytes) × HandedBackBefore (lent_at 4096 []) (lent_at 4096 [])
  -- of any context: its line, an empty one too, lies at its own place in the buffer's memory, whatever the board's text is; without one the
  -- board's memory is handed back, from its first byte on
  pub held_line : (lent s board : Bor (List ℕ)) (c : Context) (i : ℕ) (t : List ℕ) → ((j : ℕ) → get_or s.now j 0 < 256) → HoldsContext 2 s.now c
      → i < count c → body_at c i ≡ command_line t → LineHandedBack lent s board
      → (lent.ref_ptr.0 ≡ s.ref_ptr.0) × (lent.ref_ptr.1 ≡ start_in c.attributes i + 8 + s.ref_ptr.1) × (lent.now ≡ t)
  pub held_none : (lent s board : Bor (List ℕ)) (c : Context) → ((j : ℕ) → get_or s.now j 0 < 256) → HoldsContext 2 s.now c
      → ((i : ℕ) → i < count c → type_at c i ≡ 5 → ⊥) → LineHandedBack lent s board
      → (lent.ref_ptr.0 ≡ board.ref_ptr.0) × (lent.ref_ptr.1 ≡ board.ref_ptr.1) × (lent.now ≡ board.now)
  -- toward C: no bytes have no line, and where the number is 0 a list has none
  pub no_number : part_crossed (command_line_part []) ≡ 0
  pub held_number : (b : List ℕ) (c : Context) (i : ℕ) (t : List ℕ) → ((j : ℕ) → get_or b j 0 < 256) → HoldsContext 2 b c → i < count c
      → body_at c i ≡ command_line t → part_crossed (command_line_part b) ≡ 0 → ⊥

-- Statement: each question answers by the context that the buffer holds, and the slice that is handed back as the command line has its
-- text, or is the board's. Proved in proofs/ByContext.antt: `questions_by_context`.
-- A reader has to believe this file.
use Rattle.std.specs.Prelude.{ℕ, ◌≡◌, List, []}
use Rattle.std.specs.Borrow.{Bor}
use Rattle.byte_layout.specs.Stored.{bytes_at}
use Rattle.ultra_format.specs.Contexts.{Context, attribute_at}
use Rattle.ultra_acceptance.specs.Acceptance.{HoldsContext}
use Rattle.ultra_questions.specs.AttributeQuestion.{start_or_count, with_members, attribute_start, attribute_answer}
use Rattle.ultra_map_question.specs.MapQuestion.{map_in, map_copied}
use Rattle.ultra_questions.specs.CommandLineQuestion.{line_in, command_line_in, text_in, line_found, command_line_part, LineOrBoard, LineHandedBack}
use Rattle.ultra_questions.specs.ModuleQuestion.{module_in, module_holding}

pub record ByContext (b : List ℕ) (c : Context) : Type 0 where
  pub starts : (i : ℕ) → attribute_start b i ≡ start_or_count c i
  pub attributes : (i : ℕ) → attribute_answer b i ≡ with_members (attribute_at c i) (start_or_count c i)
  pub maps : (out : List ℕ) → map_copied b out ≡ map_in c out
  pub found : line_found b ≡ line_in c
  pub line : command_line_part b ≡ command_line_in c
  pub text : bytes_at b (command_line_part b).start (command_line_part b).length ≡ text_in [] c
  -- "The command line is handed back as that part of the buffer": whatever slice `command_line` hands back of a buffer that has these
  -- bytes lies there and has the text; or it is the board's text, where the context has no line
  pub slice : (lent s board : Bor (List ℕ)) → s.now ≡ b → LineHandedBack lent s board
      → LineOrBoard lent s board (line_in c) × (lent.now ≡ text_in board.now c)
  pub modules : (a : ℕ) → module_holding b a ≡ module_in c a

abbrev pub QuestionsByContext : Type 0
QuestionsByContext = (b : List ℕ) (c : Context) → HoldsContext 2 b c → ByContext b c

-- Statement: what the questions that look for an attribute answer of a buffer that holds a context, by the index of that attribute and
-- with no word on how it is looked for. (Where the map question refuses: QuestionRefusals.) Proved in proofs/ByIndex.antt:
-- `questions_by_index`.
-- A reader has to believe this file.
use Rattle.std.specs.Prelude.{ℕ, ◌+◌, ◌*◌, ◌/◌, ◌≤◌, ◌<◌, ◌≡◌, ◌↔◌, ◌⊎◌, List, length, Ok}
use Rattle.words.specs.Rounding.{rounded_up}
use Rattle.byte_layout.specs.Stored.{Bytes, over}
use Rattle.ultra_format.specs.Contexts.{Entry, Module, Body.memory_map, Body.module_info, Body.command_line, Context, count, body_at, type_at, start_in}
use Rattle.ultra_acceptance.specs.Acceptance.{HoldsContext}
use Rattle.lent_buffers.specs.LentParts.{part, no_part}
use Rattle.ultra_questions.specs.Parts.{part_bytes}
use Rattle.ultra_map_question.specs.MapQuestion.{numbers, map_copied, map_copied_bytes}
use Rattle.ultra_questions.specs.CommandLineQuestion.{text_in, command_line_part}
use Rattle.ultra_questions.specs.ModuleQuestion.{module_holding}

-- ---- "Which module holds an address"
-- the context has the module at index i
abbrev pub ModuleAt : Context → ℕ → Module → Type 0
ModuleAt c i m = (i < count c) × (body_at c i ≡ module_info m)

-- which start is answered, by what is asked of a module
module _ (Asked : Module → Type 0) (c : Context) where
  abbrev pub NoModule : Type 0
  NoModule = (i : ℕ) (m : Module) → ModuleAt c i m → Asked m → ⊥

  -- "the first module"
  abbrev pub FirstModule : ℕ → Type 0
  FirstModule i = ((m : Module) × ModuleAt c i m × Asked m) × ((j : ℕ) (n : Module) → j < i → ModuleAt c j n → Asked n → ⊥)

  -- "the attribute start of the first module .., or 0"
  abbrev pub ModuleStart : ℕ → Type 0
  ModuleStart o = ((o ≡ 0) × NoModule) ⊎ ((i : ℕ) × (o ≡ start_in c.attributes i) × FirstModule i)

-- "address ≤ a < address + size", where request R-4 "uses the size rounded up to 4,096": the sum is a whole number
abbrev pub HoldsAddress : ℕ → Module → Type 0
HoldsAddress a m = (m.address ≤ a) × (a < m.address + rounded_up 4096 m.size)

pub record ByIndex (b : List ℕ) (c : Context) : Type 0 where
  -- 0 tells that there is none
  pub modules : (a o : ℕ) → (module_holding b a ≡ Ok o) ↔ ModuleStart (HoldsAddress a) c o
  pub no_module : (a : ℕ) → (module_holding b a ≡ Ok 0) ↔ NoModule (HoldsAddress a) c
  -- "The map copied out as 64-bit numbers"; "elements past the last triple stay. Success answers the number of entries."
  pub map : (i : ℕ) (es : List Entry) (out : List ℕ) → i < count c → body_at c i ≡ memory_map es → 3 * length es ≤ length out
      → map_copied b out ≡ (Ok (length es), over (numbers es) out)
  -- "64-bit lists as bytes, eight to a number": those of the map's part of the buffer
  pub map_bytes : (i : ℕ) (es : List Entry) (out : List ℕ) → Bytes out → i < count c → body_at c i ≡ memory_map es
      → 3 * length es ≤ length out / 8
      → map_copied_bytes b out ≡ (Ok (length es), over (part_bytes (memory_map es)) out)
  -- "The command line is handed back as that part of the buffer, up to its zero; an empty part if there is none": where it is, and the
  -- text, which is the board's where there is none
  pub line : (i : ℕ) (t : List ℕ) → i < count c → body_at c i ≡ command_line t
      → (command_line_part b ≡ part (start_in c.attributes i + 8) (length t)) × ((board : List ℕ) → text_in board c ≡ t)
  pub no_line : ((i : ℕ) → i < count c → type_at c i ≡ 5 → ⊥) → (command_line_part b ≡ no_part) × ((board : List ℕ) → text_in board c ≡ board)

abbrev pub QuestionsByIndex : Type 0
QuestionsByIndex = (b : List ℕ) (c : Context) → HoldsContext 2 b c → ByIndex b c

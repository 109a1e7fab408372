-- 01's listing (crate ultra_format, specs/Examples.antt) without its map, and with another command line: the bytes written out, and what
-- they hold. proofs/Examples.antt proves the statements.
-- Serves the library's own functions and proofs: no published contract or promise rests on it.
use Rattle.std.specs.Prelude.{ℕ, ◌≡◌, List, [], ◌∷◌, ◌++◌, drop}
use Rattle.byte_layout.specs.Fields.{cells}
use Rattle.byte_layout.specs.Placed.{LiesAt}
use Rattle.ultra_format.specs.Contexts.{Attribute, attribute_at}
use Rattle.ultra_format.specs.Contexts.{Body.command_line}
use Rattle.ultra_format.specs.Layouts.{attribute_fields, attribute_written}
use Rattle.ultra_format.specs.Examples.{listed, platform_bytes, kernel_bytes, map_bytes, command_line_bytes, listed_bytes}
use Rattle.ultra_edits.specs.Splicing.{spliced, counting}
use Rattle.ultra_edits.specs.Edits.{Edited}

-- the line follows the kernel, the count is 3, and the last 32 bytes are as they were
abbrev pub without_map : List ℕ
without_map = (1 ∷ 0 ∷ 0 ∷ 0 ∷ 3 ∷ 0 ∷ 0 ∷ 0 ∷ []) ++ platform_bytes ++ kernel_bytes ++ command_line_bytes ++ drop 448 listed_bytes

-- the line "on"
abbrev pub other_line : Attribute
other_line = record { size = 16; body = command_line (111 ∷ 110 ∷ []) }

abbrev pub with_other_line : List ℕ
with_other_line =
    (1 ∷ 0 ∷ 0 ∷ 0 ∷ 4 ∷ 0 ∷ 0 ∷ 0 ∷ []) ++ platform_bytes ++ kernel_bytes ++ map_bytes
    ++ (5 ∷ 0 ∷ 0 ∷ 0 ∷ 16 ∷ 0 ∷ 0 ∷ 0 ∷ 111 ∷ 110 ∷ 0 ∷ 0 ∷ 0 ∷ 0 ∷ 0 ∷ 0 ∷ [])

pub record EditExamples : Type 0 where
  -- attribute 3, the command line, lies by itself where it starts
  pub line : LiesAt listed_bytes 464 (cells (attribute_fields (attribute_at listed 3)))
  pub removed : spliced (counting 3 listed_bytes) 432 32 [] 16 ≡ without_map
  pub removed_holds : Edited 2 listed_bytes listed 2 1 [] without_map
  pub replaced : spliced listed_bytes 464 16 (attribute_written other_line) 0 ≡ with_other_line
  pub replaced_holds : Edited 2 listed_bytes listed 3 1 (other_line ∷ []) with_other_line

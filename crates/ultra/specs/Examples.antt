-- Statement: what crosses on document 01's listing (its 480 bytes, written by hand), on the head H alone, and at the boundaries of the
-- lengths that are given. Proved in proofs/Examples.antt: `examples`.
-- A reader has to believe this file.
use Rattle.std.specs.Prelude.{ℕ, ◌≡◌, true, false, List, [], ◌∷◌, ◌++◌, replicate}
use Rattle.ultra_format.specs.Additions.{map_formed, guids_formed}
use Rattle.ultra_format.specs.Examples.{listed_bytes, every_type_bytes}
use Rattle.ultra_reading.specs.Cases.{head}
use Rattle.ultra_reading.specs.Reading.{reading_of}
use Rattle.ultra_stepping.specs.Stepping.{cursor_at, step_of}
use Rattle.ultra_questions.specs.AttributeQuestion.{attribute_start}
use Rattle.ultra_questions.specs.CommandLineQuestion.{command_line_part}
use Rattle.ultra_map_question.specs.MapQuestion.{map_copied_bytes}
use Rattle.ultra_questions.specs.ModuleQuestion.{module_holding}
use Rattle.ultra_crossing.specs.Crossing.{answer_crossed, step_crossed, reading_crossed, part_crossed, crossed}

-- "range=1048576,1048576,1" as three numbers of eight bytes
abbrev pub range_bytes : List ℕ
range_bytes = 0 ∷ 0 ∷ 16 ∷ 0 ∷ 0 ∷ 0 ∷ 0 ∷ 0 ∷ 0 ∷ 0 ∷ 16 ∷ 0 ∷ 0 ∷ 0 ∷ 0 ∷ 0 ∷ 1 ∷ 0 ∷ 0 ∷ 0 ∷ 0 ∷ 0 ∷ 0 ∷ 0 ∷ []

pub record Examples : Type 0 where
  -- "used=480"
  pub used : reading_crossed (reading_of listed_bytes) ≡ 480
  -- "H alone: HEADER at 8": 5 × 2^32 + 8
  pub header : reading_crossed (reading_of head) ≡ 21474836488
  -- the kernel stands after the platform's 88 bytes; after the last of four attributes is the end
  pub next : step_crossed (step_of listed_bytes (cursor_at 0 8)) ≡ 96
  pub end : step_crossed (step_of listed_bytes (cursor_at 4 480)) ≡ 0
  pub kernel : answer_crossed (attribute_start listed_bytes 1) ≡ 96
  -- "3 with the used length": 3 × 2^32 + 480
  pub past : answer_crossed (attribute_start listed_bytes 4) ≡ 12884902368
  -- "cmdline=quiet", five bytes at 472: 472 × 2^32 + 5
  pub line : part_crossed (command_line_part listed_bytes) ≡ 2027224563717
  -- one entry; 31 bytes count as three numbers, and the seven after them stay
  pub copied : crossed (map_copied_bytes listed_bytes (replicate 31 165)) ≡ (1, range_bytes ++ replicate 7 165)
  -- 23 bytes count as two: 18 × 2^32 + 480
  pub short : crossed (map_copied_bytes listed_bytes (replicate 23 165)) ≡ (77309411808, replicate 23 165)
  -- a module of 4,097 bytes at 2^33 starts at 504, in the context with every type; before and after its two pages is none
  pub before : answer_crossed (module_holding every_type_bytes 8589934591) ≡ 0
  pub held : answer_crossed (module_holding every_type_bytes 8589934592) ≡ 504
  pub last_byte : answer_crossed (module_holding every_type_bytes 8589942783) ≡ 504
  pub after : answer_crossed (module_holding every_type_bytes 8589942784) ≡ 0
  -- a step at offset 0: 5 × 2^32; a refused buffer has no line
  pub low : step_crossed (step_of listed_bytes (cursor_at 0 0)) ≡ 21474836480
  pub no_line : part_crossed (command_line_part head) ≡ 0
  -- "12 for a map not of 24n bytes or a GUID not of 16"
  pub map : map_formed (replicate 24 0) ≡ true
  pub map_left_over : map_formed (replicate 32 0) ≡ false
  pub guids : guids_formed (replicate 16 0) (replicate 16 0) ≡ true
  pub disk_guid : guids_formed (replicate 15 0) (replicate 16 0) ≡ false
  pub partition_guid : guids_formed (replicate 16 0) (replicate 17 0) ≡ false

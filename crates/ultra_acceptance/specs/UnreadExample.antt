-- The premises of specs/Unread.antt can be met: a refused buffer with every kind of silent byte, written out by hand from document 01's
-- table, with anything in these bytes. proofs/UnreadExample.antt proves the statement.
-- A reader has to believe this file.
use Rattle.std.specs.Prelude.{ℕ, ◌≡◌, List, [], ◌∷◌, ◌++◌, Err}
use Rattle.byte_layout.specs.Fields.{Cell, bytes, silence}
use Rattle.byte_layout.specs.Fields.{Cell.byte, Cell.silent}
use Rattle.refusals.specs.Refusals.{VALUE}
use Rattle.refusals.specs.Answers.{refusal}
use Rattle.ultra_format.specs.Examples.{zeros}
use Rattle.ultra_reading.specs.Reading.{reading_of}
use Rattle.ultra_acceptance.specs.Unread.{SameButSilent, SameButSilentInList}

-- 632 bytes; the last attribute is refused
abbrev pub refused_cells : List Cell
refused_cells =
    -- head, with its reserved u16
    bytes (1 ∷ 0 ∷ []) ++ silence 2 ++ bytes (6 ∷ 0 ∷ 0 ∷ 0 ∷ [])
    -- platform, from 8 on: bytes after the name's zero, 65..71 and from 88
    ++ bytes (1 ∷ 0 ∷ 0 ∷ 0 ∷ 96 ∷ 0 ∷ 0 ∷ 0 ∷ [])
    ++ bytes (1 ∷ 0 ∷ 0 ∷ 0 ∷ 1 ∷ 0 ∷ 4 ∷ 0 ∷ [])
    ++ bytes (98 ∷ 0 ∷ []) ++ silence 30
    ++ bytes (zeros 16)
    ++ bytes (5 ∷ []) ++ silence 7
    ++ bytes (zeros 16)
    ++ silence 8
    -- kernel, from 104 on: bytes after the path's zero and from 336
    ++ bytes (2 ∷ 0 ∷ 0 ∷ 0 ∷ 88 ∷ 1 ∷ 0 ∷ 0 ∷ [])
    ++ bytes (zeros 24)
    ++ bytes (1 ∷ zeros 7)
    ++ bytes (zeros 40)
    ++ bytes (47 ∷ 107 ∷ 0 ∷ []) ++ silence 253
    ++ silence 8
    -- module, from 448 on: 8..11, bytes after the name's zero and from 96
    ++ bytes (4 ∷ 0 ∷ 0 ∷ 0 ∷ 104 ∷ 0 ∷ 0 ∷ 0 ∷ [])
    ++ silence 4 ++ bytes (1 ∷ 0 ∷ 0 ∷ 0 ∷ [])
    ++ bytes (109 ∷ 0 ∷ []) ++ silence 62
    ++ bytes (zeros 16)
    ++ silence 8
    -- command line, from 552 on: bytes after its zero
    ++ bytes (5 ∷ 0 ∷ 0 ∷ 0 ∷ 24 ∷ 0 ∷ 0 ∷ 0 ∷ [])
    ++ bytes (113 ∷ 0 ∷ []) ++ silence 14
    -- type 7, from 576 on: its body
    ++ bytes (7 ∷ 0 ∷ 0 ∷ 0 ∷ 16 ∷ 0 ∷ 0 ∷ 0 ∷ [])
    ++ silence 8
    -- framebuffer, from 592 on: from 32. 24 bits do not suit format 3.
    ++ bytes (6 ∷ 0 ∷ 0 ∷ 0 ∷ 40 ∷ 0 ∷ 0 ∷ 0 ∷ [])
    ++ bytes (zeros 12)
    ++ bytes (24 ∷ 0 ∷ 3 ∷ 0 ∷ [])
    ++ bytes (zeros 8)
    ++ silence 8

-- v in every silent byte
abbrev pub filled_with : ℕ → List Cell → List ℕ
filled_with v [] = []
filled_with v (byte n ∷ cs) = n ∷ filled_with v cs
filled_with v (silent ∷ cs) = v ∷ filled_with v cs

unfoldable pub refused_bytes : ℕ → List ℕ
refused_bytes v = filled_with v refused_cells

-- with v it is refused by the rules on values, and with w in place of v it differs in silent bytes only
pub record RefusedExample (v w : ℕ) : Type 0 where
  pub refused : reading_of (refused_bytes v) ≡ Err (refusal VALUE 592)
  pub same : SameButSilent (refused_bytes v) (refused_bytes w)
  pub same_in_list : SameButSilentInList (refused_bytes v) (refused_bytes w)

abbrev pub RefusedExamples : Type 0
RefusedExamples = (v w : ℕ) → RefusedExample v w

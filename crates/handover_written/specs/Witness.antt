-- The statements do not speak of nothing: a payload to write, and the bytes that are then written, by hand from document 002; what the
-- statements say of it; and for each refusal, something to write that is refused so although a later condition is met too. Proved in
-- proofs/Witness.antt: `witnessed`.
-- A reader has to believe this file.
use Rattle.std.specs.Prelude.{ℕ, ◌*◌, ◌<◌, ◌≡◌, List, [], ◌∷◌, ◌++◌, get_or, replicate, take, Ok}
use Rattle.byte_layout.specs.Stored.{Bytes}
use Rattle.refusals.specs.Answers.{refused}
use Rattle.lent_buffers.specs.LentParts.{part, no_part}
use Rattle.handover_format.specs.Payloads.{no_entry, entry_in}
use Rattle.handover_format.specs.PayloadLayouts.{Silent}
use Rattle.handover_reading.specs.PayloadReading.{reading_of}
use Rattle.handover_questions.specs.Questions.{record_refused, agent_answer, record_answer}
use Rattle.handover_demand_3.specs.PayloadDemand3.{part_in}
use Rattle.handover_arguments.specs.PayloadGiven.{entries_given}
use Rattle.handover_writing.specs.Writing.{payload_written}
use Rattle.handover_written.specs.Placing.{AsGiven}
use Rattle.handover_written.specs.WritesBack.{payload_given}

-- ---- what is lent
-- HANDOVER_FREE, flags 7, start 4,096, size 8,192, and 5 and 6 where others have offsets
abbrev pub free : List ℕ
free =
    (0 ∷ 0 ∷ 0 ∷ 0 ∷ 7 ∷ 0 ∷ 0 ∷ 0 ∷ 0 ∷ 16 ∷ 0 ∷ 0 ∷ 0 ∷ 0 ∷ 0 ∷ 0 ∷ [])
    ++ (0 ∷ 32 ∷ 0 ∷ 0 ∷ 0 ∷ 0 ∷ 0 ∷ 0 ∷ 5 ∷ 0 ∷ 0 ∷ 0 ∷ 6 ∷ 0 ∷ 0 ∷ 0 ∷ [])

-- HANDOVER_FILE, flags 0, start 1,048,576, size 5, and two words for its strings
abbrev pub file : List ℕ → List ℕ
file words = (59 ∷ 109 ∷ 195 ∷ 203 ∷ 0 ∷ 0 ∷ 0 ∷ 0 ∷ 0 ∷ 0 ∷ 16 ∷ 0 ∷ 0 ∷ 0 ∷ 0 ∷ 0 ∷ []) ++ (5 ∷ 0 ∷ 0 ∷ 0 ∷ 0 ∷ 0 ∷ 0 ∷ 0 ∷ []) ++ words

-- HANDOVER_CMDLINE, flags 0, start 0, size 0, 9 in a file's name's place, and a word in its meta's
abbrev pub line : List ℕ → List ℕ
line word = (196 ∷ 64 ∷ 81 ∷ 67 ∷ 0 ∷ 0 ∷ 0 ∷ 0 ∷ 0 ∷ 0 ∷ 0 ∷ 0 ∷ 0 ∷ 0 ∷ 0 ∷ 0 ∷ []) ++ (0 ∷ 0 ∷ 0 ∷ 0 ∷ 0 ∷ 0 ∷ 0 ∷ 0 ∷ 9 ∷ 0 ∷ 0 ∷ 0 ∷ []) ++ word

-- a tag of four equal bytes, flags 0, start 2^64 - 1, a size, and zeros
abbrev pub last : ℕ → ℕ → List ℕ
last t size =
    (t ∷ t ∷ t ∷ t ∷ 0 ∷ 0 ∷ 0 ∷ 0 ∷ 255 ∷ 255 ∷ 255 ∷ 255 ∷ 255 ∷ 255 ∷ 255 ∷ 255 ∷ [])
    ++ (size ∷ 0 ∷ 0 ∷ 0 ∷ 0 ∷ 0 ∷ 0 ∷ 0 ∷ 0 ∷ 0 ∷ 0 ∷ 0 ∷ 0 ∷ 0 ∷ 0 ∷ 0 ∷ [])

-- four records, the last as said; where offsets are to be set, 77, 78 and 79 are given; the byte after the records is none of theirs
abbrev pub records : List ℕ → List ℕ
records end = free ++ file (77 ∷ 0 ∷ 0 ∷ 0 ∷ 78 ∷ 0 ∷ 0 ∷ 0 ∷ []) ++ line (79 ∷ 0 ∷ 0 ∷ 0 ∷ []) ++ end ++ (200 ∷ [])

-- the last is HANDOVER_END; its range ends at 2^64 and does not pass it
abbrev pub ended : List ℕ
ended = records (last 255 1)

-- "abc"
abbrev pub abc : List ℕ
abc = 97 ∷ 98 ∷ 99 ∷ []

-- the agent is "ab", the file's name "bc" and its meta an empty string at the run's end; the command line is of n bytes from s on. The parts
-- of strings that are not named lie past the run, and those of the last record are not lent.
abbrev pub parts_with : ℕ → ℕ → List ℕ
parts_with s n = (0 ∷ 2 ∷ []) ++ (7 ∷ 7 ∷ 7 ∷ 7 ∷ []) ++ (1 ∷ 2 ∷ 3 ∷ 0 ∷ []) ++ (9 ∷ 9 ∷ s ∷ n ∷ [])

-- the command line is "abc", whose bytes are used again
abbrev pub parts : List ℕ
parts = parts_with 0 3

-- n bytes of 165 to write into
abbrev pub out : ℕ → List ℕ
out n = replicate n 165

-- ---- what is written: 155 bytes
-- the file's name is at 3 of the table, its meta at 6 and the command line at 7
abbrev pub records_written : List ℕ
records_written = free ++ file (3 ∷ 0 ∷ 0 ∷ 0 ∷ 6 ∷ 0 ∷ 0 ∷ 0 ∷ []) ++ line (7 ∷ 0 ∷ 0 ∷ 0 ∷ []) ++ last 255 1

abbrev pub written : List ℕ
written =
    -- magic, agent 0, size 155, count 4
    (1 ∷ 176 ∷ 1 ∷ 192 ∷ 0 ∷ 0 ∷ 0 ∷ 0 ∷ 155 ∷ 0 ∷ 0 ∷ 0 ∷ 4 ∷ 0 ∷ 0 ∷ 0 ∷ [])
    ++ records_written
    -- "ab", "bc", "", "abc"
    ++ (97 ∷ 98 ∷ 0 ∷ []) ++ (98 ∷ 99 ∷ 0 ∷ []) ++ (0 ∷ []) ++ (97 ∷ 98 ∷ 99 ∷ 0 ∷ [])

-- in 158 bytes: three stay
abbrev pub left : List ℕ
left = written ++ (165 ∷ 165 ∷ 165 ∷ [])

-- the parts of its strings: of the agent, and of each record; where none is named, nothing at 0
abbrev pub parts_written : List ℕ
parts_written = (144 ∷ 2 ∷ []) ++ (0 ∷ 0 ∷ 0 ∷ 0 ∷ []) ++ (147 ∷ 2 ∷ 150 ∷ 0 ∷ []) ++ (0 ∷ 0 ∷ 151 ∷ 3 ∷ []) ++ (0 ∷ 0 ∷ 0 ∷ 0 ∷ [])

-- the end alone, and an empty agent string
abbrev pub least_written : List ℕ
least_written = (1 ∷ 176 ∷ 1 ∷ 192 ∷ 0 ∷ 0 ∷ 0 ∷ 0 ∷ 49 ∷ 0 ∷ 0 ∷ 0 ∷ 1 ∷ 0 ∷ 0 ∷ 0 ∷ []) ++ last 255 1 ++ (0 ∷ [])

pub record Witnessed : Type 0 where
  -- ---- it is written
  pub bytes : Bytes ended
  pub run_bytes : Bytes abc
  pub whole : payload_written (out 158) ended parts abc ≡ (Ok 155, left)
  -- room for just the payload
  pub exact : payload_written (out 155) ended parts abc ≡ (Ok 155, written)
  -- the least payload
  pub least : payload_written (out 49) (last 255 1) (0 ∷ 0 ∷ []) [] ≡ (Ok 49, least_written)
  -- ---- by `WritesBack` it reads back
  pub reads : reading_of left ≡ Ok 155
  pub agent : agent_answer left ≡ record { answer = Ok 155; offset = 0; name = part 144 2 }
  pub file_read : record_answer left 1
      ≡ record { answer = Ok 155; words = record { tag = 3418582331; flags = 0; start = 1048576; size = 5; name = 3; meta = 6 }; name = part 147 2; meta = part 150 0 }
  pub line_read : record_answer left 2
      ≡ record { answer = Ok 155; words = record { tag = 1129398468; flags = 0; start = 0; size = 0; name = 9; meta = 7 }; name = no_part; meta = part 151 3 }
  pub past : record_answer left 4 ≡ record_refused (refused 3 155)
  -- ---- by `WritesAgain` its reading writes the same bytes
  pub again : payload_written (out 156) records_written parts_written left ≡ (Ok 155, written ++ (165 ∷ []))
  -- with just the room
  pub again_exact : payload_written (out 155) records_written parts_written left ≡ (Ok 155, written)
  -- bytes 1 and 255 of a string, by `WritesBack`
  pub widest : let d = (payload_written (out 84) (line (0 ∷ 0 ∷ 0 ∷ 0 ∷ []) ++ last 255 1) (0 ∷ 0 ∷ 9 ∷ 9 ∷ 0 ∷ 2 ∷ []) (1 ∷ 255 ∷ [])).1 in
      part_in d (record_answer d 0).meta ≡ 1 ∷ 255 ∷ []
  -- ---- by `NoPadding` no byte of it is silent, and by `EachAsGiven` its first and its last record are as given
  pub loud : (i : ℕ) → i < 155 → Silent (payload_given ended parts abc) i → ⊥
  pub first_as_given : AsGiven (get_or (entries_given ended parts abc) 0 no_entry) (entry_in (payload_given ended parts abc) 0)
  pub last_as_given : AsGiven (get_or (entries_given ended parts abc) 3 no_entry) (entry_in (payload_given ended parts abc) 3)
  -- ---- refusals. Where no string is lent the condition of 22 is met too, and in an output of no bytes that of 18
  pub none : payload_written [] [] [] [] ≡ (refused 3 0, [])
  -- 1,025 records: by `WritingRefuses`
  pub many : (payload_written [] (replicate (32 * 1025) 0) [] []).0 ≡ refused 3 0
  -- 1,024 are not too many: by `WritingRefuses` they are refused for their end
  pub most : (payload_written [] (replicate (32 * 1024) 0) [] []).0 ≡ refused 23 0
  -- no end, and a range that ends at 2^64 + 1
  pub missing : payload_written [] (records (last 0 2)) [] [] ≡ (refused 23 0, [])
  pub misplaced : payload_written [] (last 255 2 ++ last 255 2) [] [] ≡ (refused 23 0, [])
  -- "each over all records before the next": 15 in the first record, 23 in the second
  pub over_all : payload_written [] (last 0 2 ++ last 0 1) [] [] ≡ (refused 23 0, [])
  pub range : payload_written [] (records (last 255 2)) [] [] ≡ (refused 15 0, [])
  -- the command line, with one byte of room too little: its length is not lent; it is 2 bytes from 2 on; none from 4 on, past the run's
  -- end; a zero byte is in it
  pub unlent : payload_written (out 151) ended (take 13 parts) abc ≡ (refused 22 0, out 151)
  pub passes : payload_written (out 153) ended (parts_with 2 2) abc ≡ (refused 22 0, out 153)
  pub empty : payload_written (out 151) ended (parts_with 4 0) abc ≡ (refused 22 0, out 151)
  pub zero_byte : payload_written (out 155) ended (parts_with 0 4) (abc ++ (0 ∷ [])) ≡ (refused 22 0, out 155)
  -- one byte less of room
  pub short : payload_written (out 154) ended parts abc ≡ (refused 18 0, out 154)

-- That the statements on exporting are not empty: buffers exported, in digits, at both sides of each limit. 01's listing context, with its 188
-- bytes (export_list, ExportExamples); the context with every type of attribute (ultra_format, Examples), its payload written out by hand; one
-- of two attributes, for the limits of an RSDP address; and lists at the limit of records, which no buffer is written out for. Proved in
-- proofs/Witness.antt: `witnessed`; what is said of the second comes from `Exports`, `ExportSays` and the demands on payloads.
-- A reader has to believe this file.
use Rattle.std.specs.Prelude.{ℕ, zero, suc, ◌+◌, ◌*◌, ◌≡◌, List, [], ◌∷◌, ◌++◌, replicate, take, Ok}
use Rattle.lent_buffers.specs.LentParts.{part, no_part}
use Rattle.refusals.specs.Answers.{refused}
use Rattle.ultra_format.specs.Contexts.{Entry, Context}
use Rattle.ultra_format.specs.Contexts.{Body.platform, Body.kernel, Body.memory_map}
use Rattle.ultra_format.specs.Examples.{zeros, listed_platform, listed_kernel, kernel_bytes, listed_bytes, every_type, every_type_bytes}
use Rattle.handover_reading.specs.PayloadReading.{reading_of}
use Rattle.handover_questions.specs.Questions.{agent_answer, record_answer}
use Rattle.export_list.specs.ExportList.{entry, bare, export_list}
use Rattle.export_list.specs.ExportExamples.{listed_payload}
use Rattle.handover_export.specs.Exporting.{context_exported, exported}
use Rattle.handover_exported.specs.ExportSays.{IsAt, InOrder}

-- n bytes of 165 to export into
abbrev pub out : ℕ → List ℕ
out n = replicate n 165

abbrev pub every_type_payload : List ℕ
every_type_payload =
    -- magic, agent 0, size 254, count 7
    (1 ∷ 176 ∷ 1 ∷ 192 ∷ 0 ∷ 0 ∷ 0 ∷ 0 ∷ 254 ∷ 0 ∷ 0 ∷ 0 ∷ 7 ∷ 0 ∷ 0 ∷ 0 ∷ [])
    -- SELF
    ++ (141 ∷ 152 ∷ 79 ∷ 162 ∷ 0 ∷ 0 ∷ 0 ∷ 0 ∷ 0 ∷ 0 ∷ 16 ∷ 0 ∷ 0 ∷ 0 ∷ 0 ∷ 0 ∷ [])
    ++ (254 ∷ 0 ∷ 0 ∷ 0 ∷ 0 ∷ 0 ∷ 0 ∷ 0 ∷ 0 ∷ 0 ∷ 0 ∷ 0 ∷ 0 ∷ 0 ∷ 0 ∷ 0 ∷ [])
    -- FREE
    ++ (0 ∷ 0 ∷ 0 ∷ 0 ∷ 0 ∷ 0 ∷ 0 ∷ 0 ∷ 0 ∷ 0 ∷ 0 ∷ 0 ∷ 0 ∷ 0 ∷ 0 ∷ 0 ∷ [])
    ++ (0 ∷ 240 ∷ 255 ∷ 255 ∷ 255 ∷ 255 ∷ 255 ∷ 255 ∷ 0 ∷ 0 ∷ 0 ∷ 0 ∷ 0 ∷ 0 ∷ 0 ∷ 0 ∷ [])
    -- RESERVED
    ++ (45 ∷ 29 ∷ 132 ∷ 184 ∷ 0 ∷ 0 ∷ 0 ∷ 0 ∷ 0 ∷ 240 ∷ 255 ∷ 255 ∷ 255 ∷ 255 ∷ 255 ∷ 255 ∷ [])
    ++ (0 ∷ 16 ∷ 0 ∷ 0 ∷ 0 ∷ 0 ∷ 0 ∷ 0 ∷ 0 ∷ 0 ∷ 0 ∷ 0 ∷ 0 ∷ 0 ∷ 0 ∷ 0 ∷ [])
    -- FILE, its name at 2 and its meta at 4
    ++ (59 ∷ 109 ∷ 195 ∷ 203 ∷ 0 ∷ 0 ∷ 0 ∷ 0 ∷ 0 ∷ 0 ∷ 0 ∷ 0 ∷ 2 ∷ 0 ∷ 0 ∷ 0 ∷ [])
    ++ (1 ∷ 16 ∷ 0 ∷ 0 ∷ 0 ∷ 0 ∷ 0 ∷ 0 ∷ 2 ∷ 0 ∷ 0 ∷ 0 ∷ 4 ∷ 0 ∷ 0 ∷ 0 ∷ [])
    -- CMDLINE, its text at 5
    ++ (196 ∷ 64 ∷ 81 ∷ 67 ∷ 0 ∷ 0 ∷ 0 ∷ 0 ∷ 0 ∷ 0 ∷ 0 ∷ 0 ∷ 0 ∷ 0 ∷ 0 ∷ 0 ∷ [])
    ++ (0 ∷ 0 ∷ 0 ∷ 0 ∷ 0 ∷ 0 ∷ 0 ∷ 0 ∷ 0 ∷ 0 ∷ 0 ∷ 0 ∷ 5 ∷ 0 ∷ 0 ∷ 0 ∷ [])
    -- RSDP
    ++ (24 ∷ 156 ∷ 242 ∷ 142 ∷ 0 ∷ 0 ∷ 0 ∷ 0 ∷ 1 ∷ 2 ∷ 3 ∷ 4 ∷ 5 ∷ 6 ∷ 7 ∷ 8 ∷ [])
    ++ (20 ∷ 0 ∷ 0 ∷ 0 ∷ 0 ∷ 0 ∷ 0 ∷ 0 ∷ 0 ∷ 0 ∷ 0 ∷ 0 ∷ 0 ∷ 0 ∷ 0 ∷ 0 ∷ [])
    -- END
    ++ (255 ∷ 255 ∷ 255 ∷ 255 ∷ 0 ∷ 0 ∷ 0 ∷ 0 ∷ 0 ∷ 0 ∷ 0 ∷ 0 ∷ 0 ∷ 0 ∷ 0 ∷ 0 ∷ [])
    ++ (0 ∷ 0 ∷ 0 ∷ 0 ∷ 0 ∷ 0 ∷ 0 ∷ 0 ∷ 0 ∷ 0 ∷ 0 ∷ 0 ∷ 0 ∷ 0 ∷ 0 ∷ 0 ∷ [])
    -- "b", "m", "", "noapic=1"
    ++ (98 ∷ 0 ∷ []) ++ (109 ∷ 0 ∷ []) ++ (0 ∷ []) ++ (110 ∷ 111 ∷ 97 ∷ 112 ∷ 105 ∷ 99 ∷ 61 ∷ 49 ∷ 0 ∷ [])

-- a context of two attributes, with the eight bytes of an RSDP address: the least platform, whose loader's name is "f", and 01's kernel
abbrev pub pointed : List ℕ → List ℕ
pointed rsdp =
    (1 ∷ 0 ∷ 0 ∷ 0 ∷ 2 ∷ 0 ∷ 0 ∷ 0 ∷ [])
    ++ (1 ∷ 0 ∷ 0 ∷ 0 ∷ 56 ∷ 0 ∷ 0 ∷ 0 ∷ [])
    ++ (2 ∷ 0 ∷ 0 ∷ 0 ∷ 1 ∷ 0 ∷ 4 ∷ 0 ∷ [])
    ++ (102 ∷ zeros 31)
    ++ rsdp
    ++ kernel_bytes

-- the eight bytes of 2^64 - 256 + n
abbrev pub high : ℕ → List ℕ
high n = n ∷ 255 ∷ 255 ∷ 255 ∷ 255 ∷ 255 ∷ 255 ∷ 255 ∷ []

-- a list with n free pages, from page i on, as a map
unfoldable pub pages : ℕ → ℕ → List Entry
pages i zero = []
pages i (suc n) = record { address = 4096 * i; size = 4096; entry_type = 1 } ∷ pages (suc i) n

abbrev pub mapped : ℕ → Context
mapped n =
    record {
      major = 1;
      minor = 0;
      attributes =
          record { size = 88; body = platform listed_platform }
          ∷ record { size = 336; body = kernel listed_kernel }
          ∷ record { size = 8 + 24 * n; body = memory_map (pages 1 n) }
          ∷ [];
    }

pub record Witnessed : Type 0 where
  -- ---- 01's listing context
  pub whole : exported listed_bytes 2097152 (out 190) ≡ (Ok 188, listed_payload ++ (165 ∷ 165 ∷ []))
  -- room for just the payload, and one byte less
  pub exact : exported listed_bytes 2097152 (out 188) ≡ (Ok 188, listed_payload)
  pub short : exported listed_bytes 2097152 (out 187) ≡ (refused 18 0, out 187)
  -- loaded up to 2^64, and one byte past it, where the output is too short too
  pub top : (exported listed_bytes 18446744073709551428 (out 188)).0 ≡ Ok 188
  pub past : exported listed_bytes 18446744073709551429 (out 187) ≡ (refused 15 0, out 187)
  -- its last byte is not lent: the reader's refusal, whatever the load address and the output
  pub cut : exported (take 479 listed_bytes) 18446744073709551429 (out 187) ≡ (refused 7 464, out 187)
  -- ---- every type: framebuffer, device tree and the vendor's type 7 are left behind, and the file has its size as it is
  pub every_type_exported : exported every_type_bytes 1048576 (out 254) ≡ (Ok 254, every_type_payload)
  pub reads : reading_of every_type_payload ≡ Ok 254
  pub agent : agent_answer every_type_payload ≡ record { answer = Ok 254; offset = 0; name = part 240 1 }
  pub own : record_answer every_type_payload 0
      ≡ record { answer = Ok 254; words = record { tag = 2723125389; flags = 0; start = 1048576; size = 254; name = 0; meta = 0 }; name = no_part; meta = no_part }
  pub file : record_answer every_type_payload 3
      ≡ record { answer = Ok 254; words = record { tag = 3418582331; flags = 0; start = 8589934592; size = 4097; name = 2; meta = 4 }; name = part 242 1; meta = part 244 0 }
  pub line : record_answer every_type_payload 4
      ≡ record { answer = Ok 254; words = record { tag = 1129398468; flags = 0; start = 0; size = 0; name = 0; meta = 5 }; name = no_part; meta = part 245 8 }
  -- by `ExportSays` the map's second range, of the type 2^32, is record 2, the file comes before the command line, and the map's first range
  -- before the RSDP, three kinds on
  pub second_range : IsAt (export_list every_type 1048576) 2 (bare 3095665965 18446744073709547520 4096)
  pub file_then_line : InOrder (export_list every_type 1048576) (entry 3418582331 8589934592 4097 (109 ∷ []) [])
      (entry 1129398468 0 0 [] (110 ∷ 111 ∷ 97 ∷ 112 ∷ 105 ∷ 99 ∷ 61 ∷ 49 ∷ []))
  pub range_then_pointer : InOrder (export_list every_type 1048576) (bare 0 0 18446744073709547520) (bare 2398264344 578437695752307201 20)
  -- ---- an RSDP address whose 20 bytes end at 2^64, and one past it, with just the room; 0 has no record
  pub pointer_top : (exported (pointed (high 236)) 0 (out 114)).0 ≡ Ok 114
  pub pointer_past : exported (pointed (high 237)) 0 (out 114) ≡ (refused 15 0, out 114)
  pub pointer_none : (exported (pointed (zeros 8)) 0 (out 82)).0 ≡ Ok 82
  -- ---- of contexts as lists: with the RSDP 1,024 records, which one byte of room is too little for, and 1,025, where 15 and 18 would follow
  pub most : (context_exported (mapped 1021) 0 (out 32789)).0 ≡ refused 18 0
  pub many : context_exported (mapped 1022) 18446744073709551615 [] ≡ (refused 3 0, [])

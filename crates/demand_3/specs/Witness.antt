-- Demand 3 does not speak of nothing: a buffer that holds a context with every type of attribute, what the calls answer of it, written
-- out by hand from document 01, and a second buffer that differs from it in every silent byte of its used length and ends there; each
-- may be the second buffer of the other.
-- (Examples, of crate ultra_format, has the context and its bytes.) And a platform of 56 bytes is answered without late members. Proved
-- in proofs/Witness.antt: `witnessed`.
-- A reader has to believe this file.
use Rattle.std.specs.Prelude.{ℕ, suc, ◌+◌, ◌≤◌, ◌<◌, ◌≡◌, List, [], ◌∷◌, ◌++◌, get_or, Ok, Some, None}
use Rattle.std.specs.Borrow.{Bor}
use Rattle.byte_layout.specs.Stored.{Bytes}
use Rattle.refusals.specs.Refusals.{COUNT}
use Rattle.refusals.specs.Answers.{Answer, refused}
use Rattle.ultra_format.specs.Contexts.{type_at, used}
use Rattle.ultra_format.specs.Layouts.{Silent, written}
use Rattle.ultra_format.specs.Decoding.{platform_at}
use Rattle.ultra_format.specs.Records.{platform_record, blank_records}
use Rattle.ultra_format.specs.Examples.{zeros, every_type, every_type_bytes}
use Rattle.ultra_format.specs.declared.records.Records.{Records}
use Rattle.ultra_reading.specs.Reading.{reading_of, read_as}
use Rattle.ultra_acceptance.specs.Acceptance.{HoldsContext, DiffersInSilence}
use Rattle.lent_buffers.specs.declared.Part.{Part}
use Rattle.ultra_questions.specs.declared.attributes.AttributeAnswer.{AttributeAnswer}
use Rattle.lent_buffers.specs.LentParts.{part, no_part, PartOf}
use Rattle.ultra_questions.specs.AttributeQuestion.{unanswered, attribute_answer, PartHandedBack}
use Rattle.ultra_question_statements.specs.Witness.{every_line, lent_at}
use Rattle.demand_3.specs.Demand3.{part_at, SameReading}

-- ---- the records of the context with every type, each beside blank ones
abbrev pub every_platform_record : Records
every_platform_record =
    record {
      platform =
          record {
            kind = 67305985;
            loader_major = 258;
            loader_minor = 772;
            name = 98 ∷ zeros 31;
            rsdp = 578437695752307201;
            higher_half_base = Some 2314601843866147353;
            depth = Some 5;
            dtb = Some 1157159078456920585;
            smbios = Some 1735880461161533969;
          };
      kernel = blank_records.kernel;
      «module» = blank_records.«module»;
      framebuffer = blank_records.framebuffer;
    }

abbrev pub every_kernel_record : Records
every_kernel_record =
    record {
      platform = blank_records.platform;
      kernel =
          record {
            physical_base = 4294971392;
            virtual_base = 18446744071562072064;
            size = 69632;
            partition_type = 3;
            disk_guid = 1 ∷ 2 ∷ 3 ∷ 4 ∷ 5 ∷ 6 ∷ 7 ∷ 8 ∷ 9 ∷ 10 ∷ 11 ∷ 12 ∷ 13 ∷ 14 ∷ 15 ∷ 16 ∷ [];
            partition_guid = 255 ∷ 254 ∷ 253 ∷ 252 ∷ 251 ∷ 250 ∷ 249 ∷ 248 ∷ 247 ∷ 246 ∷ 245 ∷ 244 ∷ 243 ∷ 242 ∷ 241 ∷ 240 ∷ [];
            disk_index = 513;
            partition_index = 1027;
            path = 47 ∷ 107 ∷ 195 ∷ 169 ∷ zeros 252;
          };
      «module» = blank_records.«module»;
      framebuffer = blank_records.framebuffer;
    }

abbrev pub every_module_record : Records
every_module_record =
    record {
      platform = blank_records.platform;
      kernel = blank_records.kernel;
      «module» = record { kind = 2; name = 109 ∷ zeros 63; address = 8589934592; size = 4097 };
      framebuffer = blank_records.framebuffer;
    }

abbrev pub every_framebuffer_record : Records
every_framebuffer_record =
    record {
      platform = blank_records.platform;
      kernel = blank_records.kernel;
      «module» = blank_records.«module»;
      framebuffer = record { width = 1024; height = 768; pitch = 4096; bpp = 32; format = 3; address = 18446744073706405888 };
    }

-- a record of nothing but zeros and absent members, of each type
abbrev pub nothing : Records
nothing =
    record {
      platform =
          record {
            kind = 0;
            loader_major = 0;
            loader_minor = 0;
            name = zeros 32;
            rsdp = 0;
            higher_half_base = None;
            depth = None;
            dtb = None;
            smbios = None;
          };
      kernel =
          record {
            physical_base = 0;
            virtual_base = 0;
            size = 0;
            partition_type = 0;
            disk_guid = zeros 16;
            partition_guid = zeros 16;
            disk_index = 0;
            partition_index = 0;
            path = zeros 256;
          };
      «module» = record { kind = 0; name = zeros 64; address = 0; size = 0 };
      framebuffer = record { width = 0; height = 0; pitch = 0; bpp = 0; format = 0; address = 0 };
    }

-- ---- the answers: start, type, size, records, part
abbrev pub the_answer : ℕ → ℕ → ℕ → Records → Part → AttributeAnswer
the_answer o t s rs p = record { answer = Ok o; header = record { kind = t; start = o; size = s }; records = rs; part = p }

abbrev pub every_answers : List AttributeAnswer
every_answers =
    the_answer 8 1 96 every_platform_record no_part
    ∷ the_answer 104 2 344 every_kernel_record no_part
    ∷ the_answer 448 3 56 blank_records (part 456 48)
    ∷ the_answer 504 4 104 every_module_record no_part
    ∷ the_answer 608 5 24 blank_records (part 616 8)
    ∷ the_answer 632 6 40 every_framebuffer_record no_part
    ∷ the_answer 672 7 16 blank_records no_part
    ∷ []

-- the bytes of the map's part; those of the command line's are `every_line`
abbrev pub every_entries : List ℕ
every_entries =
    zeros 8
    ++ (0 ∷ 240 ∷ 255 ∷ 255 ∷ 255 ∷ 255 ∷ 255 ∷ 255 ∷ [])
    ++ (1 ∷ zeros 7)
    ++ (0 ∷ 240 ∷ 255 ∷ 255 ∷ 255 ∷ 255 ∷ 255 ∷ 255 ∷ [])
    ++ (0 ∷ 16 ∷ zeros 6)
    ++ (0 ∷ 0 ∷ 0 ∷ 0 ∷ 1 ∷ 0 ∷ 0 ∷ 0 ∷ [])

pub record Witnessed : Type 0 where
  pub bytes : Bytes every_type_bytes
  pub holds : HoldsContext 2 every_type_bytes every_type
  -- types 1 to 7, in this order
  pub types : (i : ℕ) → i < 7 → type_at every_type i ≡ suc i
  pub whole : reading_of every_type_bytes ≡ read_as (record { major = 2; minor = 7 }) 688
  -- what stands beside a refusal, and in the records of other types
  pub nothing_beside : (r : Answer)
      → unanswered r ≡ record { answer = r; header = record { kind = 0; start = 0; size = 0 }; records = nothing; part = record { start = 0; length = 0 } }
  pub each : (i : ℕ) → i < 7 → attribute_answer every_type_bytes i ≡ get_or every_answers i (unanswered (refused COUNT 0))
  pub past : (i : ℕ) → 7 ≤ i → attribute_answer every_type_bytes i ≡ unanswered (refused COUNT 688)
  pub entries : part_at every_type_bytes 2 ≡ every_entries
  pub line : part_at every_type_bytes 4 ≡ every_line
  -- of the buffer at the address 4096, the slices of the map at 4552 and of the text at 4712 may be handed back, and an empty one past
  -- the last attribute; any other slice that is handed back lies there too and has the same bytes
  pub entries_slice : PartHandedBack (lent_at 4552 every_entries) (lent_at 4096 every_type_bytes) 2
  pub line_slice : PartHandedBack (lent_at 4712 every_line) (lent_at 4096 every_type_bytes) 4
  pub no_slice : PartHandedBack (lent_at 4096 []) (lent_at 4096 every_type_bytes) 7
  pub any_entries : (lent s : Bor (List ℕ)) → s.now ≡ every_type_bytes → PartHandedBack lent s 2
      → PartOf lent s (part 456 48) × (lent.ref_ptr.0 ≡ s.ref_ptr.0) × (lent.ref_ptr.1 ≡ 456 + s.ref_ptr.1) × (lent.now ≡ every_entries)
  pub any_past : (lent s : Bor (List ℕ)) (i : ℕ) → s.now ≡ every_type_bytes → 7 ≤ i → PartHandedBack lent s i → lent.now ≡ []
  pub any_line : (lent s : Bor (List ℕ)) → s.now ≡ every_type_bytes → PartHandedBack lent s 4
      → PartOf lent s (part 616 8) × (lent.ref_ptr.0 ≡ s.ref_ptr.0) × (lent.ref_ptr.1 ≡ 616 + s.ref_ptr.1) × (lent.now ≡ every_line)
  -- its silent bytes are 165; a writer writes zeros there, and the readings are the same
  pub differs : DiffersInSilence every_type every_type_bytes (written every_type)
  pub noisy : (i : ℕ) → i < used every_type → Silent every_type i → (get_or every_type_bytes i 0 ≡ 165) × (get_or (written every_type) i 0 ≡ 0)
  pub same : SameReading every_type_bytes (written every_type)
  -- and back, from the zeros to the 165s, and from the used length on to five bytes more
  pub holds_written : HoldsContext 2 (written every_type) every_type
  pub differs_back : DiffersInSilence every_type (written every_type) every_type_bytes
  pub same_back : SameReading (written every_type) every_type_bytes
  -- the slices of what is written, wherever it is lent
  pub written_entries : (lent s : Bor (List ℕ)) → s.now ≡ written every_type → PartHandedBack lent s 2 → lent.now ≡ every_entries
  pub written_line : (lent s : Bor (List ℕ)) → s.now ≡ written every_type → PartHandedBack lent s 4 → lent.now ≡ every_line
  -- "Reading dtb from a 56-byte platform attribute, out of the kernel attribute behind it." looks right and is not
  pub short : (b : List ℕ) (o : ℕ) → let p = platform_record (platform_at b o 56) in
      (p.higher_half_base ≡ None) × (p.depth ≡ None) × (p.dtb ≡ None) × (p.smbios ≡ None)

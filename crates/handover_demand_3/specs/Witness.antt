-- Demand 3 does not speak of nothing: a buffer, written out by hand from document 002, whose strings overlap and share bytes and closing zeros,
-- with slack inside and after its table, every silent byte 165; the payload that it holds; what the calls answer of it; and a second buffer that
-- differs from it in every silent byte and ends at its size. Each may be the second buffer of the other. Proved in proofs/Witness.antt:
-- `witnessed`.
-- A reader has to believe this file.
use Rattle.std.specs.Prelude.{ℕ, ◌+◌, ◌≤◌, ◌<◌, ◌≡◌, ◌↔◌, ◌⊎◌, List, [], ◌∷◌, ◌++◌, get_or, Ok}
use Rattle.std.specs.Borrow.{Bor}
use Rattle.byte_layout.specs.Stored.{Bytes}
use Rattle.lent_buffers.specs.declared.Part.{Part}
use Rattle.lent_buffers.specs.LentParts.{part}
use Rattle.refusals.specs.Answers.{Answer, refused}
use Rattle.handover_format.specs.Payloads.{Payload}
use Rattle.handover_format.specs.PayloadLayouts.{Silent}
use Rattle.handover_format.specs.declared.records.Record.{Record}
use Rattle.handover_reading.specs.PayloadReading.{reading_of}
use Rattle.handover_questions.specs.declared.RecordAnswer.{RecordAnswer}
use Rattle.handover_questions.specs.Questions.{agent_refused, record_refused, agent_answer, record_answer, AgentHandedBack, NameHandedBack, MetaHandedBack}
use Rattle.handover_acceptance.specs.PayloadAcceptance.{HoldsPayload}
use Rattle.handover_demand_3.specs.PayloadDemand3.{DiffersInSilence, SameReading}

-- ---- the buffer: the head, five records, and the first four bytes of the table, at 176
abbrev pub front : List ℕ
front =
    -- magic, agent 1, size 185, count 5
    (1 ∷ 176 ∷ 1 ∷ 192 ∷ 1 ∷ 0 ∷ 0 ∷ 0 ∷ 185 ∷ 0 ∷ 0 ∷ 0 ∷ 5 ∷ 0 ∷ 0 ∷ 0 ∷ [])
    -- FILE, flags 7, start 4,096, size 5, name 2, meta 1
    ++ (59 ∷ 109 ∷ 195 ∷ 203 ∷ 7 ∷ 0 ∷ 0 ∷ 0 ∷ 0 ∷ 16 ∷ 0 ∷ 0 ∷ 0 ∷ 0 ∷ 0 ∷ 0 ∷ 5 ∷ 0 ∷ 0 ∷ 0 ∷ 0 ∷ 0 ∷ 0 ∷ 0 ∷ 2 ∷ 0 ∷ 0 ∷ 0 ∷ 1 ∷ 0 ∷ 0 ∷ 0 ∷ [])
    -- CMDLINE, flags 0, start 0, size 0, 9 in a file's name's place, which is past the table and names nothing, meta 0
    ++ (196 ∷ 64 ∷ 81 ∷ 67 ∷ 0 ∷ 0 ∷ 0 ∷ 0 ∷ 0 ∷ 0 ∷ 0 ∷ 0 ∷ 0 ∷ 0 ∷ 0 ∷ 0 ∷ 0 ∷ 0 ∷ 0 ∷ 0 ∷ 0 ∷ 0 ∷ 0 ∷ 0 ∷ 9 ∷ 0 ∷ 0 ∷ 0 ∷ 0 ∷ 0 ∷ 0 ∷ 0 ∷ [])
    -- tag 7, which 002 does not define, flags 2^32 - 1, start 1, size 2^64 - 1, words 2^32 - 1 and 200, which name nothing
    ++ (7 ∷ 0 ∷ 0 ∷ 0 ∷ 255 ∷ 255 ∷ 255 ∷ 255 ∷ 1 ∷ 0 ∷ 0 ∷ 0 ∷ 0 ∷ 0 ∷ 0 ∷ 0 ∷ 255 ∷ 255 ∷ 255 ∷ 255 ∷ 255 ∷ 255 ∷ 255 ∷ 255 ∷ 255 ∷ 255 ∷ 255 ∷ 255 ∷ 200 ∷ 0 ∷ 0 ∷ 0 ∷ [])
    -- FILE, flags 0, start 8,192, size 0, name 5, meta 6
    ++ (59 ∷ 109 ∷ 195 ∷ 203 ∷ 0 ∷ 0 ∷ 0 ∷ 0 ∷ 0 ∷ 32 ∷ 0 ∷ 0 ∷ 0 ∷ 0 ∷ 0 ∷ 0 ∷ 0 ∷ 0 ∷ 0 ∷ 0 ∷ 0 ∷ 0 ∷ 0 ∷ 0 ∷ 5 ∷ 0 ∷ 0 ∷ 0 ∷ 6 ∷ 0 ∷ 0 ∷ 0 ∷ [])
    -- END, flags 0, start 2^64 - 1, size 1, zeros
    ++ (255 ∷ 255 ∷ 255 ∷ 255 ∷ 0 ∷ 0 ∷ 0 ∷ 0 ∷ 255 ∷ 255 ∷ 255 ∷ 255 ∷ 255 ∷ 255 ∷ 255 ∷ 255 ∷ 1 ∷ 0 ∷ 0 ∷ 0 ∷ 0 ∷ 0 ∷ 0 ∷ 0 ∷ 0 ∷ 0 ∷ 0 ∷ 0 ∷ 0 ∷ 0 ∷ 0 ∷ 0 ∷ [])
    -- "abc" and its zero
    ++ (97 ∷ 98 ∷ 99 ∷ 0 ∷ [])

-- slack, "d" and its zero, slack up to the size, and two bytes past it
abbrev pub shared_bytes : List ℕ
shared_bytes = front ++ (165 ∷ 100 ∷ 0 ∷ 165 ∷ 165 ∷ 165 ∷ 165 ∷ [])

-- the same payload with other silent bytes, and nothing past its size
abbrev pub other_bytes : List ℕ
other_bytes = front ++ (0 ∷ 100 ∷ 0 ∷ 0 ∷ 98 ∷ [])

-- ---- the payload
abbrev pub first_file : Record
first_file = record { tag = 3418582331; flags = 7; start = 4096; size = 5; name = 2; meta = 1 }

abbrev pub line : Record
line = record { tag = 1129398468; flags = 0; start = 0; size = 0; name = 9; meta = 0 }

abbrev pub unknown : Record
unknown = record { tag = 7; flags = 4294967295; start = 1; size = 18446744073709551615; name = 4294967295; meta = 200 }

abbrev pub second_file : Record
second_file = record { tag = 3418582331; flags = 0; start = 8192; size = 0; name = 5; meta = 6 }

abbrev pub end : Record
end = record { tag = 4294967295; flags = 0; start = 18446744073709551615; size = 1; name = 0; meta = 0 }

-- "abc" is the command line, "bc" in it the agent and the first file's meta, "c" in that its name; "d" is the second file's name, and its meta
-- is empty: it starts at the zero that closes "d"
abbrev pub shared : Payload
shared =
    record {
      agent = 1;
      agent_name = 98 ∷ 99 ∷ [];
      entries =
          record { words = first_file; name = 99 ∷ []; meta = 98 ∷ 99 ∷ [] }
          ∷ record { words = line; name = []; meta = 97 ∷ 98 ∷ 99 ∷ [] }
          ∷ record { words = unknown; name = []; meta = [] }
          ∷ record { words = second_file; name = 100 ∷ []; meta = [] }
          ∷ record { words = end; name = []; meta = [] }
          ∷ [];
      size = 185;
    }

-- ---- the answers
abbrev pub the_answer : Record → Part → Part → RecordAnswer
the_answer r n m = record { answer = Ok 185; words = r; name = n; meta = m }

abbrev pub the_answers : List RecordAnswer
the_answers =
    the_answer first_file (part 178 1) (part 177 2)
    ∷ the_answer line (part 0 0) (part 176 3)
    ∷ the_answer unknown (part 0 0) (part 0 0)
    ∷ the_answer second_file (part 181 1) (part 182 0)
    ∷ the_answer end (part 0 0) (part 0 0)
    ∷ []

-- bytes that are lent at an address, in one block of memory
abbrev pub lent_at : ℕ → List ℕ → Bor (List ℕ)
lent_at o l = record { ref_ptr = (1, o); now = l }

pub record Witnessed : Type 0 where
  pub bytes : Bytes shared_bytes
  pub holds : HoldsPayload shared_bytes shared
  pub whole : reading_of shared_bytes ≡ Ok 185
  pub agent : agent_answer shared_bytes ≡ record { answer = Ok 185; offset = 1; name = part 177 2 }
  pub each : (i : ℕ) → i < 5 → record_answer shared_bytes i ≡ get_or the_answers i (record_refused (refused 3 0))
  pub past : (i : ℕ) → 5 ≤ i → record_answer shared_bytes i ≡ record_refused (refused 3 185)
  -- what stands beside a refusal
  pub nothing_beside : (r : Answer)
      → (agent_refused r ≡ record { answer = r; offset = 0; name = part 0 0 })
      × (record_refused r ≡ record { answer = r; words = record { tag = 0; flags = 0; start = 0; size = 0; name = 0; meta = 0 }; name = part 0 0; meta = part 0 0 })
  -- of the buffer at the address 4096, slices at 4273, 4274 and 4272 may be handed back, and an empty one past the last record; any other
  -- slice that is handed back lies there too and has the same bytes
  pub agent_slice : AgentHandedBack (lent_at 4273 (98 ∷ 99 ∷ [])) (lent_at 4096 shared_bytes)
  pub name_slice : NameHandedBack (lent_at 4274 (99 ∷ [])) (lent_at 4096 shared_bytes) 0
  pub meta_slice : MetaHandedBack (lent_at 4272 (97 ∷ 98 ∷ 99 ∷ [])) (lent_at 4096 shared_bytes) 1
  pub no_slice : NameHandedBack (lent_at 4096 []) (lent_at 4096 shared_bytes) 5
  pub any_agent : (lent s : Bor (List ℕ)) → s.now ≡ shared_bytes → AgentHandedBack lent s
      → (lent.ref_ptr.0 ≡ s.ref_ptr.0) × (lent.ref_ptr.1 ≡ 177 + s.ref_ptr.1) × (lent.now ≡ 98 ∷ 99 ∷ [])
  pub any_name : (lent s : Bor (List ℕ)) → s.now ≡ shared_bytes → NameHandedBack lent s 0
      → (lent.ref_ptr.0 ≡ s.ref_ptr.0) × (lent.ref_ptr.1 ≡ 178 + s.ref_ptr.1) × (lent.now ≡ 99 ∷ [])
  pub any_meta : (lent s : Bor (List ℕ)) → s.now ≡ shared_bytes → MetaHandedBack lent s 1
      → (lent.ref_ptr.0 ≡ s.ref_ptr.0) × (lent.ref_ptr.1 ≡ 176 + s.ref_ptr.1) × (lent.now ≡ 97 ∷ 98 ∷ 99 ∷ [])
  pub any_past : (lent s : Bor (List ℕ)) (i : ℕ) → s.now ≡ shared_bytes → 5 ≤ i → MetaHandedBack lent s i → lent.now ≡ []
  -- silent are the slack and all past the size, and nothing else: not the zero at 179 that closes three strings, nor that at 182
  pub silent : (i : ℕ) → Silent shared i ↔ ((i ≡ 180) ⊎ (183 ≤ i))
  pub noisy : (i : ℕ) → i < 187 → Silent shared i → get_or shared_bytes i 0 ≡ 165
  pub differs : DiffersInSilence shared shared_bytes other_bytes
  pub different : (i : ℕ) → i < 185 → Silent shared i → get_or other_bytes i 0 ≡ get_or shared_bytes i 0 → ⊥
  pub same : SameReading shared_bytes other_bytes
  -- and back, from the second buffer to the first, which is longer
  pub holds_other : HoldsPayload other_bytes shared
  pub differs_back : DiffersInSilence shared other_bytes shared_bytes
  pub same_back : SameReading other_bytes shared_bytes

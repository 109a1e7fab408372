-- Statements: what follows for every buffer from the statements of Acceptance, Refusing, Steps and Unread, and for one context that is
-- not plain. Each is proved with these as parameters (proofs/EveryReading.antt), so that a premise which one of them should not have
-- would be missing there. Of a buffer nothing is assumed but, where a list is found in it, that its elements are bytes.
-- A reader has to believe this file.
use Rattle.std.specs.Prelude.{ℕ, ◌<◌, ◌≡◌, ◌⊎◌, List, ◌++◌, length, get_or, set, Err}
use Rattle.refusals.specs.declared.Refusal.{Refusal}
use Rattle.ultra_format.specs.Contexts.{Context, used}
use Rattle.ultra_format.specs.Layouts.{Silent}
use Rattle.ultra_format.specs.Decoding.{context_of}
use Rattle.ultra_format.specs.Examples.{every_type, every_type_bytes}
use Rattle.ultra_reading.specs.Reading.{reading_of, reading_number, reading_value, read_as}
use Rattle.ultra_stepping.specs.Stepping.{step_of, step_number, step_value, steps_to, at_end}
use Rattle.ultra_stepping.specs.declared.cursor.Header.{Header}
use Rattle.ultra_stepping.specs.declared.cursor.Cursor.{Cursor}
use Rattle.ultra_acceptance.specs.Acceptance.{HoldsContext, version_in}
use Rattle.ultra_acceptance.specs.Refusing.{Refuses}
use Rattle.ultra_acceptance.specs.Steps.{StepRefuses, StepEnds, StepGives, StepsThrough}
use Rattle.ultra_acceptance.specs.Unread.{ReadAlike}

-- whatever bytes a buffer holds, reading accepts the list that it holds, or refuses by the table
abbrev pub EveryReading : Type 0
EveryReading =
    (b : List ℕ) → ((i : ℕ) → get_or b i 0 < 256)
    → ((c : Context) × HoldsContext 2 b c × (reading_of b ≡ read_as (version_in c) (used c)))
    ⊎ ((r : Refusal) × Refuses 2 b (reading_number (Err r)) (reading_value (Err r)) × (reading_of b ≡ Err r))

-- and never both; the table names one refusal at most
pub record OneReading (b : List ℕ) (n o : ℕ) : Type 0 where
  pub not_held : (c : Context) → HoldsContext 2 b c → ⊥
  pub only : (m p : ℕ) → Refuses 2 b m p → (m ≡ n) × (p ≡ o)

abbrev pub OneReadings : Type 0
OneReadings = (b : List ℕ) (n o : ℕ) → Refuses 2 b n o → OneReading b n o

-- whatever a buffer and a cursor hold, a step is refused by the table, ends, or hands back an attribute
abbrev pub EveryStep : Type 0
EveryStep =
    (b : List ℕ) (k : Cursor)
    → ((r : Refusal) × StepRefuses b k (step_number (Err r)) (step_value (Err r)) × (step_of b k ≡ Err r))
    ⊎ ((StepEnds b k × (step_of b k ≡ at_end)) ⊎ ((h : Header) × (m : Cursor) × StepGives b k h m × (step_of b k ≡ steps_to h m)))

-- and only one of the three; here too the table names one refusal at most
pub record OneStep (b : List ℕ) (k : Cursor) : Type 0 where
  pub only : (n o m p : ℕ) → StepRefuses b k n o → StepRefuses b k m p → (n ≡ m) × (o ≡ p)
  pub not_end : (n o : ℕ) → StepRefuses b k n o → StepEnds b k → ⊥
  pub not_given : (n o : ℕ) (h : Header) (m : Cursor) → StepRefuses b k n o → StepGives b k h m → ⊥
  pub not_both : (h : Header) (m : Cursor) → StepEnds b k → StepGives b k h m → ⊥

abbrev pub OneSteps : Type 0
OneSteps = (b : List ℕ) (k : Cursor) → OneStep b k

-- the head's reserved bytes, 2 and 3, may hold anything, whatever else the buffer holds; and nothing from byte 65,536 on counts
pub record UnreadEverywhere (b rest : List ℕ) (x : ℕ) : Type 0 where
  pub byte2 : ReadAlike b (set b 2 x)
  pub byte3 : ReadAlike b (set b 3 x)
  pub longer : length b ≡ 65536 → ReadAlike b (b ++ rest) × ((k : Cursor) → step_of (b ++ rest) k ≡ step_of b k)

abbrev pub UnreadInEvery : Type 0
UnreadInEvery = (b rest : List ℕ) (x : ℕ) → UnreadEverywhere b rest x

-- so may any byte that is silent in the list that is decoded from the buffer, be it refused or accepted
abbrev pub SilentOverwritten : Type 0
SilentOverwritten = (b : List ℕ) (i x : ℕ) → Silent (context_of b) i → ReadAlike b (set b i x)

-- whatever bytes reading accepts, steps go through the list that the buffer holds
abbrev pub AcceptedSteps : Type 0
AcceptedSteps = (b : List ℕ) → ((i : ℕ) → get_or b i 0 < 256) → reading_number (reading_of b) ≡ 0
    → (c : Context) × HoldsContext 2 b c × StepsThrough b c

-- so they go through the context with every type, which is not plain
abbrev pub StepsThroughEveryType : Type 0
StepsThroughEveryType = StepsThrough every_type_bytes every_type

-- Proofs of the statements in specs/EveryReading.antt, from the statements that they follow from, as parameters: no lemma of their proofs
-- is cited.
use Rattle.std.specs.Prelude.{Err, Some, None, Ok}
use Prim.Native.Nat.{ℕ, zero, suc, ◌+◌, ◌≤◌, ◌<◌}
use mathlib.Core.Path.{◌≡◌, refl, sym, ap, ◌∙◌, subst}
use mathlib.Core.List.{List, ◌++◌}
use mathlib.Core.Logic.{◌⊎◌, ◌⊎◌.inl, ◌⊎◌.inr}
use native.Mathlib.Omega.{arith}
use lib.ListN.{length, take, set, length-set}
use lib.Seq.{get_or-set_other, take-append_seam}
use Rattle.refusals.specs.declared.Refusal.{Refusal}
use Rattle.refusals.specs.Answers.{refusal}
use Rattle.ultra_format.specs.Contexts.{Context, used}
use Rattle.lent_buffers.specs.Room.{room_of}
use Rattle.ultra_format.specs.Layouts.{Silent}
use Rattle.ultra_format.specs.Decoding.{start, context_of}
use Rattle.ultra_format.specs.Examples.{every_type, every_type_bytes}
use Rattle.ultra_format.proofs.Witness.{every_type_meets, every_type_opens}
use Rattle.ultra_reading.specs.Reading.{reading_of, reading_number, reading_value, Reading, read_as}
use Rattle.ultra_stepping.specs.Stepping.{step_of, step_number, step_value, Step, steps_to, at_end}
use Rattle.ultra_stepping.specs.declared.cursor.Header.{Header}
use Rattle.ultra_stepping.specs.declared.cursor.Cursor.{Cursor}
use Rattle.ultra_acceptance.specs.Acceptance.{HoldsContext, version_in, ReadsExactly, ReadsHeld}
use Rattle.ultra_acceptance.specs.Refusing.{Refuses, ReadingRefuses}
use Rattle.ultra_acceptance.specs.Steps.{StepRefuses, StepEnds, StepGives, StepsExactly, SteppingThrough}
use Rattle.ultra_acceptance.specs.Unread.{ReadAlike, PastRoomUnread, SameButSilent, SilentUnread, SilentInListUnread}
use Rattle.ultra_acceptance.specs.EveryReading.{EveryReading, OneReadings, EveryStep, OneSteps, UnreadInEvery, SilentOverwritten, AcceptedSteps, StepsThroughEveryType}
use Rattle.ultra_acceptance.proofs.Acceptance.{reads_exactly, held_reading}
use Rattle.ultra_acceptance.proofs.Refusing.{reading_refuses}
use Rattle.ultra_acceptance.proofs.Steps.{steps_exactly, stepping_through}
use Rattle.ultra_acceptance.proofs.Unread.{silent_unread, silent_in_list_unread, past_room_unread}

-- ---- reading
module _ (exactly : ReadsExactly) (held : ReadsHeld) (refuses : ReadingRefuses) where
  accepted_or_refused : EveryReading
  accepted_or_refused b y = go (reading_of b) refl
    where
      go : (a : Reading) → reading_of b ≡ a
          → ((c : Context) × HoldsContext 2 b c × (reading_of b ≡ read_as (version_in c) (used c)))
          ⊎ ((r : Refusal) × Refuses 2 b (reading_number (Err r)) (reading_value (Err r)) × (reading_of b ≡ Err r))
      go (Ok a) e = let s = (exactly b y).0 (ap reading_number e) in inl (s.0, s.1, held b s.0 s.1)
      go (Err r) e = inr (r, (refuses b r).0 e, e)

  one_of_them : OneReadings
  one_of_them b n o t =
      let e = (refuses b (refusal n o)).1 t in
      record {
        not_held = λ c h. clash c (sym (held b c h) ∙ e);
        only = λ m p u. let q = sym ((refuses b (refusal m p)).1 u) ∙ e in (ap reading_number q, ap reading_value q);
      }
    where
      clash : (c : Context) → read_as (version_in c) (used c) ≡ Err (refusal n o) → ⊥
      clash c q = let z : ◌≡◌ {A = ℕ} 0 1 = cc in omega arith

pub every_reading : EveryReading
every_reading = accepted_or_refused reads_exactly held_reading reading_refuses

pub one_readings : OneReadings
one_readings = one_of_them reads_exactly held_reading reading_refuses

-- ---- steps
module _ (exactly : StepsExactly) where
  one_of_three : EveryStep
  one_of_three b k = go (step_of b k) refl
    where
      go : (a : Step) → step_of b k ≡ a
          → ((r : Refusal) × StepRefuses b k (step_number (Err r)) (step_value (Err r)) × (step_of b k ≡ Err r))
          ⊎ ((StepEnds b k × (step_of b k ≡ at_end)) ⊎ ((h : Header) × (m : Cursor) × StepGives b k h m × (step_of b k ≡ steps_to h m)))
      go (Err r) e = inl (r, (exactly.refuses b k r).0 e, e)
      go (Ok None) e = inr (inl ((exactly.ends b k).0 e, e))
      go (Ok (Some s)) e = inr (inr (s.0, s.1, (exactly.gives b k s.0 s.1).0 e, e))

  only_one : OneSteps
  only_one b k =
      record {
        only = λ n o m p t u. let q = sym (refused n o t) ∙ refused m p u in (ap step_number q, ap step_value q);
        not_end = λ n o t u. let q = sym (refused n o t) ∙ (exactly.ends b k).1 u in refused_end n o q;
        not_given = λ n o h m t u. let q = sym (refused n o t) ∙ (exactly.gives b k h m).1 u in refused_given n o h m q;
        not_both = λ h m t u. let q = sym ((exactly.ends b k).1 t) ∙ (exactly.gives b k h m).1 u in end_given h m q;
      }
    where
      refused : (n o : ℕ) → StepRefuses b k n o → step_of b k ≡ Err (refusal n o)
      refused n o = (exactly.refuses b k (refusal n o)).1

      refused_end : (n o : ℕ) → Err (refusal n o) ≡ at_end → ⊥
      refused_end n o q = let z : ◌≡◌ {A = ℕ} 0 1 = cc in omega arith

      refused_given : (n o : ℕ) (h : Header) (m : Cursor) → Err (refusal n o) ≡ steps_to h m → ⊥
      refused_given n o h m q = let z : ◌≡◌ {A = ℕ} 0 1 = cc in omega arith

      end_given : (h : Header) (m : Cursor) → at_end ≡ steps_to h m → ⊥
      end_given h m q = let z : ◌≡◌ {A = ℕ} 0 1 = cc in omega arith

pub every_step : EveryStep
every_step = one_of_three steps_exactly

pub one_steps : OneSteps
one_steps = only_one steps_exactly

through_accepted : ReadsExactly → SteppingThrough → AcceptedSteps
through_accepted exactly t b y e = let s = (exactly b y).0 e in (s.0, s.1, t b s.0 s.1)

pub accepted_steps : AcceptedSteps
accepted_steps = through_accepted reads_exactly stepping_through

through_every_type : SteppingThrough → StepsThroughEveryType
through_every_type t = t every_type_bytes every_type (every_type_meets, every_type_opens)

pub steps_through_every_type : StepsThroughEveryType
steps_through_every_type = through_every_type stepping_through

-- ---- what is not read
after_head : (b : List ℕ) (j : ℕ) → 8 ≤ start b j
unfolding start
after_head b zero = omega arith
after_head b (suc j) = omega (arith, after_head b j)

same_room : (b : List ℕ) (i x : ℕ) → room_of (set b i x) ≡ room_of b
same_room b i x = rw (length-set b i x)

-- a byte of the head that is reserved
reserved : (b : List ℕ) (i x : ℕ) → i < 8 → ((j : ℕ) → (j ≡ 2 → ⊥) → (j ≡ 3 → ⊥) → j ≡ i → ⊥) → SameButSilent b (set b i x)
reserved b i x l r =
    record {
      room = same_room b i x;
      head = λ j h m n g. get_or-set_other b i j x 0 (r j m n);
      header = λ j h c k g q. get_or-set_other b i (start b j + k) x 0 (λ e. omega (arith, after_head b j));
      body = λ j h c k g m n q. get_or-set_other b i (start b j + k) x 0 (λ e. omega (arith, after_head b j));
    }

module _ (silent : SilentUnread) (past : PastRoomUnread) where
  past_room_law : (b rest : List ℕ) → length b ≡ 65536 → ReadAlike b (b ++ rest) × ((k : Cursor) → step_of (b ++ rest) k ≡ step_of b k)
  past_room_law b rest l =
      let q : take 65536 (b ++ rest) ≡ b = ap (λ (n : ℕ). take n (b ++ rest)) (sym l) ∙ take-append_seam b rest in
      let p = subst (λ (d : List ℕ). ReadAlike (b ++ rest) d × ((k : Cursor) → step_of d k ≡ step_of (b ++ rest) k)) q (past (b ++ rest)) in
      (record { reading = sym p.0.reading; used = λ n. sym (p.0.used n) }, λ k. sym (p.1 k))

  unread_everywhere : UnreadInEvery
  unread_everywhere b rest x =
      record {
        byte2 = silent b (set b 2 x) (reserved b 2 x (omega arith) (λ j m n. m));
        byte3 = silent b (set b 3 x) (reserved b 3 x (omega arith) (λ j m n. n));
        longer = past_room_law b rest;
      }

pub unread_in_every : UnreadInEvery
unread_in_every = unread_everywhere silent_unread past_room_unread

overwritten : SilentInListUnread → SilentOverwritten
overwritten t b i x s = t b (set b i x) (same_room b i x, λ j n l. get_or-set_other b i j x 0 (λ e. n (subst (Silent (context_of b)) (sym e) s)))

pub silent_overwritten : SilentOverwritten
silent_overwritten = overwritten silent_in_list_unread

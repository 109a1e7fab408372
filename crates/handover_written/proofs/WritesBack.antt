-- What is written is held, so it reads back as it was given.
use Rattle.std.specs.Prelude.{Ok}
use Prim.Native.Nat.{ℕ, ◌≤◌}
use mathlib.Core.Path.{◌≡◌, refl, sym, ap, ◌∙◌, subst}
use mathlib.Core.List.{List}
use native.Mathlib.Omega.{arith}
use lib.ListN.{length, get_or}
use Rattle.words.proofs.Stores.{after_it}
use Rattle.byte_layout.specs.Stored.{Bytes, over}
use Rattle.byte_layout.proofs.Runs.{front_over}
use Rattle.lent_buffers.specs.Room.{room_of}
use Rattle.refusals.specs.Order.{NoneBreaks}
use Rattle.handover_format.specs.Payloads.{Entry}
use Rattle.handover_format.specs.WrittenForm.{payload_size, payload, payload_bytes}
use Rattle.handover_acceptance.specs.PayloadAcceptance.{HoldsPayload}
use Rattle.handover_demand_3.proofs.PayloadDemand3.{payload_demand_3}
use Rattle.handover_arguments.specs.PayloadGiven.{agent_given, entries_given}
use Rattle.handover_writing.specs.Writing.{payload_written}
use Rattle.handover_written.specs.WritingRefusals.{WritingBreaks, WritingBreaks.past}
use Rattle.handover_written.specs.WritesBack.{WrittenBack, WritesBack}
use Rattle.handover_written.proofs.Placing.{length_payload, length_over, placed_holds}
use Rattle.handover_written.proofs.WritingRefusals.{written_whole, writing_succeeds}
use Rattle.handover_written.proofs.SoundGiven.{not_over, sound_given, agent_given_law}

-- past what was written nothing changes
pub past_over : (x b : List ℕ) (i : ℕ) → length x ≤ i → get_or (over x b) i 0 ≡ get_or b i 0
past_over x b i h = ap (λ (l : List ℕ). get_or l i 0) (sym (front_over b x (length x) refl)) ∙ after_it b x 0 (length x) refl (omega arith) i (omega arith)

module _ (b rs ps run : List ℕ) (n : ℕ) (y : Bytes rs) (w : Bytes run) (a : (payload_written b rs ps run).0 ≡ Ok n) where
  abbrev who : List ℕ
  who = agent_given ps run

  abbrev es : List Entry
  es = entries_given rs ps run

  abbrev d : List ℕ
  d = (payload_written b rs ps run).1

  none_breaks : NoneBreaks (WritingBreaks rs ps run (room_of b))
  none_breaks = ((writing_succeeds b rs ps run n).0 a).0

  pub size_answered : n ≡ payload_size who es
  size_answered = ((writing_succeeds b rs ps run n).0 a).1

  pub left_over : d ≡ over (payload_bytes who es) b
  left_over = ap (λ x. x.1) (written_whole b rs ps run none_breaks)

  within : payload_size who es ≤ room_of b
  within = not_over (payload_size who es) (room_of b) (λ q. none_breaks _ (past q))

  pub written_holds : HoldsPayload d (payload who es)
  written_holds = subst (λ (l : List ℕ). HoldsPayload l (payload who es)) (sym left_over) (placed_holds who es b (agent_given_law rs ps run (room_of b) y w none_breaks) (sound_given rs ps run (room_of b) y w none_breaks) within)

  length_left : length d ≡ length b
  length_left = ap length left_over ∙ length_over who es b (omega (arith, within))

  written_back : WrittenBack b d (payload who es) n
  written_back =
      record {
        holds = written_holds;
        reads = payload_demand_3.reads d (payload who es) written_holds;
        answered = size_answered;
        kept = length_left;
        stays = λ i l. ap (λ (m : List ℕ). get_or m i 0) left_over ∙ past_over (payload_bytes who es) b i (omega (arith, size_answered, length_payload who es));
      }

pub writes_back : WritesBack
writes_back b rs ps run n y w a = written_back b rs ps run n y w a

-- Exporting leaves a payload that is held, and so accepted and read as the list of the context.
use Rattle.std.specs.Prelude.{Ok}
use Prim.Native.Nat.{ℕ, zero, suc, ◌+◌, ◌≤◌, ◌<◌}
use mathlib.Core.Path.{◌≡◌, refl, sym, ap, ◌∙◌, subst}
use mathlib.Core.List.{List, [], ◌∷◌}
use native.Mathlib.Omega.{arith}
use lib.ListN.{length, get_or}
use Rattle.byte_layout.specs.Stored.{over}
use Rattle.lent_buffers.specs.Room.{room_of}
use Rattle.refusals.specs.Order.{NoneBreaks}
use Rattle.ultra_format.specs.Contexts.{Context, count, size_at, body_at, type_at}
use Rattle.ultra_format.specs.Rules.{Meets}
use Rattle.ultra_format.proofs.Attributes.{body_fits}
use Rattle.ultra_acceptance.specs.Acceptance.{HoldsContext}
use Rattle.handover_format.specs.Payloads.{handover_end, Entry}
use Rattle.handover_format.specs.Tags.{handover_self}
use Rattle.handover_format.specs.WrittenForm.{payload_size, payload, payload_bytes}
use Rattle.handover_acceptance.specs.PayloadAcceptance.{HoldsPayload}
use Rattle.handover_demand_3.proofs.PayloadDemand3.{payload_demand_3}
use Rattle.handover_written.specs.Placing.{Text, Sound, SoundRecords}
use Rattle.handover_written.specs.WritesBack.{WrittenBack}
use Rattle.handover_written.proofs.Placing.{length_payload, length_over, placed_holds}
use Rattle.handover_written.proofs.SoundGiven.{not_over}
use Rattle.handover_written.proofs.WritesBack.{past_over}
use Rattle.export_list.specs.ExportList.{bare, records_of, gathered, between, no_platform, platform_or, platform_in, agent_of, export_size, export_entries, export_list}
use Rattle.handover_export.specs.Exporting.{exported}
use Rattle.handover_exported.specs.ExportRefusals.{ExportBreaks, ExportBreaks.many, ExportBreaks.own, ExportBreaks.pointer, ExportBreaks.past}
use Rattle.handover_exported.specs.Exports.{ByList, Exports}
use Rattle.handover_exported.proofs.Entries.{Each, Before, each_none, each_more, each_append, each_at, each_turned, ends_once}
use Rattle.handover_exported.proofs.SoundExport.{Inner, bare_sound, records_sound, agent_text}
use Rattle.handover_exported.proofs.Gathered.{gathered_each}
use Rattle.handover_exported.proofs.ExportRefusals.{size_listed, count_listed, pointer_of, of_context, export_succeeds, exported_whole}

-- ---- the records of a context
module _ (c : Context) (room load space : ℕ) (m : Meets 2 room c) (n : NoneBreaks (ExportBreaks c load space)) (small : space ≤ 65536) where
  within : (export_list c load).size ≤ space
  within = not_over (export_list c load).size space (λ q. n _ (past q))

  -- no RSDP address passes 2^64
  pointer_fits : (platform_in c).rsdp + 20 ≤ 18446744073709551616
  pointer_fits = not_over _ 18446744073709551616 (λ q. let p = pointer_of (body_at c 0) q in n _ (pointer p.0 p.1 p.2 p.3))

  first_fits : (i : ℕ) → i < count c → type_at c i ≡ 1 → (platform_or no_platform (body_at c i)).rsdp + 20 ≤ 18446744073709551616
  first_fits zero k e = pointer_fits
  first_fits (suc zero) k e = absurd (omega (arith, m.second (omega arith), e))
  first_fits (suc (suc i)) k e = absurd ((m.later (suc (suc i)) (omega arith) k).0 e)

  attribute_sound : (i : ℕ) → i < count c → Each Inner (records_of (body_at c i))
  attribute_sound i k = records_sound (size_at c i) (body_at c i) (body_fits m i k) (m.each i k).ranges_hold (first_fits i k)

  between_sound : Each Inner (between c.attributes)
  between_sound =
      let l = c.attributes in
      let g : (k : ℕ) → Each Inner (gathered k l) = λ k. gathered_each Inner k l attribute_sound in
      each_append Inner (gathered 3 l) _ (g 3) (each_append Inner (gathered 4 l) _ (g 4) (each_append Inner (gathered 5 l) (gathered 1 l) (g 5) (g 1)))

  self_sound : Sound (bare handover_self load (export_size c))
  self_sound =
      let h = not_over _ 18446744073709551616 (λ q. n _ (own q)) in
      let s = size_listed c load space in
      bare_sound handover_self load (export_size c) (omega arith) (omega arith) (omega (arith, within)) (omega arith)

  abbrev front : List Entry
  front = bare handover_self load (export_size c) ∷ between c.attributes

  front_sound : Each Inner front
  front_sound = each_more Inner (bare handover_self load (export_size c)) (between c.attributes) (self_sound, λ q. omega arith) between_sound

  all_sound : Each Sound (export_entries c load)
  all_sound =
      each_append Sound front (bare handover_end 0 0 ∷ []) (each_turned Inner Sound (λ e h. h.0) front front_sound)
      (each_more Sound (bare handover_end 0 0) [] (bare_sound handover_end 0 0 (omega arith) (omega arith) (omega arith) (omega arith)) (each_none Sound))

  export_sound : SoundRecords (export_entries c load)
  export_sound =
      record {
        some = omega arith;
        most = omega (arith, not_over _ 1024 (λ q. n _ (many q)), count_listed c load space);
        each = each_at Sound (export_entries c load) all_sound;
        last = ends_once front (bare handover_end 0 0) (each_turned Inner Before (λ e h. h.1) front front_sound) refl;
      }

-- ---- what is left
module _ (b : List ℕ) (c : Context) (load : ℕ) (out : List ℕ) (n : ℕ) (h : HoldsContext 2 b c) (a : (exported b load out).0 ≡ Ok n) where
  abbrev who : List ℕ
  who = agent_of c

  abbrev es : List Entry
  es = export_entries c load

  abbrev d : List ℕ
  d = (exported b load out).1

  none_breaks : NoneBreaks (ExportBreaks c load (room_of out))
  none_breaks = ((export_succeeds b c load out n h).0 a).0

  answered : n ≡ (export_list c load).size
  answered = ((export_succeeds b c load out n h).0 a).1

  left_over : d ≡ over (payload_bytes who es) out
  left_over = ap (λ x. x.1) (exported_whole b c load out h none_breaks)

  fits : payload_size who es ≤ room_of out
  fits = within c (room_of b) load (room_of out) h.0 none_breaks (omega arith)

  who_text : Text who
  who_text = let k = h.0.enough in agent_text (size_at c 0) (body_at c 0) (body_fits h.0 0 (omega arith))

  holds : HoldsPayload d (export_list c load)
  holds =
      subst (λ (l : List ℕ). HoldsPayload l (payload who es)) (sym left_over)
      (placed_holds who es out who_text (export_sound c (room_of b) load (room_of out) h.0 none_breaks (omega arith)) fits)

  written : WrittenBack out d (export_list c load) n
  written =
      record {
        holds = holds;
        reads = payload_demand_3.reads d (export_list c load) holds;
        answered = answered;
        kept = ap length left_over ∙ length_over who es out (omega (arith, fits));
        stays = λ i l. ap (λ (x : List ℕ). get_or x i 0) left_over ∙ past_over (payload_bytes who es) out i (omega (arith, answered, length_payload who es));
      }

pub by_list : ByList
by_list b c load out h = of_context b c load out h

pub exports : Exports
exports b c load out n h a = written b c load out n h a

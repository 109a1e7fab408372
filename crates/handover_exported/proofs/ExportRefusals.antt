-- Which refusal exporting gives, exactly.
use Rattle.std.specs.Prelude.{Ok, Err}
use Prim.Native.Nat.{ℕ, ◌+◌, ◌<◌}
use mathlib.Core.Path.{◌≡◌, refl, sym, ap, ◌∙◌}
use mathlib.Core.Logic.{◌↔◌, ◌⊎◌, inl, inr, ⊎_elim}
use mathlib.Core.Bool.{false, ◌&&◌}
use mathlib.Core.List.{List, [], ◌∷◌}
use native.Mathlib.Omega.{arith}
use lib.ListN.{length}
use lib.Dec.{leb}
use Rattle.lent_buffers.specs.Room.{room_of}
use Rattle.byte_layout.specs.Stored.{over, closed}
use Rattle.refusals.specs.Refusals.{COUNT, RANGE, ROOM}
use Rattle.refusals.specs.Answers.{Answer, number_of, value_of}
use Rattle.refusals.specs.Order.{First, NoneBreaks}
use Rattle.refusals.specs.declared.Refusal.{Refusal}
use Rattle.refusals.proofs.Order.{AllFine, Chain, ends, link, below, through, one_number, either_fails}
use Rattle.ultra_format.specs.Contexts.{Platform, Body, Body.platform, Body.kernel, Body.memory_map, Body.module_info, Body.command_line, Body.framebuffer, Body.other, Context, body_at}
use Rattle.ultra_format.specs.Decoding.{context_of}
use Rattle.ultra_format.proofs.Decoded.{decoded_only}
use Rattle.ultra_reading.specs.Reading.{used_length}
use Rattle.ultra_acceptance.specs.Acceptance.{HoldsContext}
use Rattle.ultra_acceptance.proofs.Acceptance.{complete}
use Rattle.handover_format.specs.Payloads.{Entry, count}
use Rattle.handover_format.specs.WrittenForm.{payload_size, payload_bytes}
use Rattle.handover_format.proofs.WrittenLaws.{length_placed}
use Rattle.ultra_locating.specs.Passing.{if_accepted}
use Rattle.handover_writing.specs.Writing.{or_written}
use Rattle.handover_written.proofs.OrWritten.{refused_first, first_refused, refused_stays, done_none, none_done, none_written}
use Rattle.export_list.specs.ExportList.{entries_of, no_platform, platform_or, platform_in, agent_of, export_size, export_entries, export_list}
use Rattle.export_list.proofs.SelfLaws.{size_same}
use Rattle.handover_export.specs.Exporting.{tests_of, export_check, context_exported, exported}
use Rattle.handover_exported.specs.ExportRefusals.{ExportBreaks, ExportBreaks.many, ExportBreaks.own, ExportBreaks.pointer, ExportBreaks.past, export_order, ExportRefuses, ExportSucceeds, ReadingFirst, ExportKeeps}

-- ---- the platform, where the first attribute is one
platform_is : (x : Body) (p : Platform) → x ≡ platform p → platform_or no_platform x ≡ p
unfolding platform_or
platform_is x p e = ap (platform_or no_platform) e

-- an RSDP address that passes 2^64 is that of a platform, and is not 0
pub pointer_of : (x : Body) → 18446744073709551616 < (platform_or no_platform x).rsdp + 20
    → (p : Platform) × (x ≡ platform p) × (p.rsdp ≡ 0 → ⊥) × (18446744073709551616 < p.rsdp + 20)
unfolding platform_or
pointer_of (platform p) h = (p, refl, (λ z. omega arith), h)
pointer_of (kernel k) h = absurd (omega arith)
pointer_of (memory_map es) h = absurd (omega arith)
pointer_of (module_info m) h = absurd (omega arith)
pointer_of (command_line t) h = absurd (omega arith)
pointer_of (framebuffer f) h = absurd (omega arith)
pointer_of (other t) h = absurd (omega arith)

-- ---- the tests, in order
module _ (c : Context) (load room : ℕ) where
  abbrev Breaks : ℕ → Type 0
  Breaks = ExportBreaks c load room

  -- the records are as many, and the payload is as large, whatever SELF has in it
  pub count_listed : count (export_list c load) ≡ length (entries_of 0 0 c.attributes)
  count_listed = length_placed (length (closed (agent_of c))) (export_entries c load)

  pub size_listed : (export_list c load).size ≡ export_size c
  size_listed = size_same (agent_of c) load (export_size c) c.attributes

  abbrev top : ℕ
  top = 18446744073709551616

  many_fails : (leb (length (entries_of 0 0 c.attributes)) 1024 ≡ false) ↔ Breaks COUNT
  many_fails = through (below _ 1024) (λ h. many (omega (arith, count_listed))) back
    where
      back : Breaks COUNT → 1024 < length (entries_of 0 0 c.attributes)
      back (many h) = omega (arith, count_listed)

  range_fails : ((leb (load + export_size c) top && leb ((platform_in c).rsdp + 20) top) ≡ false) ↔ Breaks RANGE
  range_fails =
      through (either_fails _ _ (below (load + export_size c) top) (below ((platform_in c).rsdp + 20) top))
      (⊎_elim (λ h. own (omega (arith, size_listed))) (λ h. let p = pointer_of (body_at c 0) h in pointer p.0 p.1 p.2 p.3)) back
    where
      back : Breaks RANGE → (top < load + export_size c) ⊎ (top < (platform_in c).rsdp + 20)
      back (own h) = inl (omega (arith, size_listed))
      back (pointer p e n h) = inr (rw (platform_is (body_at c 0) p e) h)

  past_fails : (leb (export_size c) room ≡ false) ↔ Breaks ROOM
  past_fails = through (below (export_size c) room) (λ h. past (omega (arith, size_listed))) back
    where
      back : Breaks ROOM → room < export_size c
      back (past h) = omega (arith, size_listed)

  chain : Chain export_order Breaks (export_check c load room)
  unfolding tests_of
  chain =
      rw (one_number (leb (load + export_size c) top) (leb ((platform_in c).rsdp + 20) top) RANGE)
      (link Breaks _ 2 _ (RANGE ∷ ROOM ∷ []) many_fails
      (link Breaks _ 14 _ (ROOM ∷ []) range_fails
      (link Breaks _ 17 _ [] past_fails
      (ends Breaks))))

  all_none : AllFine export_order Breaks → NoneBreaks Breaks
  all_none f m (many h) = f.0 (many h)
  all_none f m (own h) = f.1.0 (own h)
  all_none f m (pointer p e n h) = f.1.0 (pointer p e n h)
  all_none f m (past h) = f.1.1.0 (past h)

-- ---- of a buffer that holds the context
module _ (b : List ℕ) (c : Context) (load : ℕ) (out : List ℕ) (h : HoldsContext 2 b c) where
  pub of_context : exported b load out ≡ context_exported c load out
  unfolding exported
  of_context =
      let q : context_of b ≡ c = sym (decoded_only 2 (room_of b) b c h.0 h.1) in
      rw (q, complete 2 b c h.0 h.1)

  abbrev who : List ℕ
  who = agent_of c

  abbrev es : List Entry
  es = export_entries c load

  abbrev Given : ℕ → Type 0
  Given = ExportBreaks c load (room_of out)

  given_chain : Chain export_order Given (export_check c load (room_of out))
  given_chain = chain c load (room_of out)

  refuses : (r : Refusal) → ((exported b load out).0 ≡ Err r) ↔ (First export_order Given (number_of (Err r)) × (value_of (Err r) ≡ 0))
  refuses r = rw of_context (refused_first who es out export_order Given _ given_chain r, first_refused who es out export_order Given _ given_chain r)

  succeeds : (n : ℕ) → ((exported b load out).0 ≡ Ok n) ↔ (NoneBreaks Given × (n ≡ (export_list c load).size))
  succeeds n = rw of_context (done_none who es out export_order Given _ given_chain (all_none c load (room_of out)) n, none_done who es out export_order Given _ given_chain n)

  -- what success answers and leaves
  pub exported_whole : NoneBreaks Given → exported b load out ≡ (Ok (payload_size who es), over (payload_bytes who es) out)
  exported_whole k = of_context ∙ none_written who es out export_order Given _ given_chain k

pub export_refuses : ExportRefuses
export_refuses b c load out r h = refuses b c load out h r

pub export_succeeds : ExportSucceeds
export_succeeds b c load out n h = succeeds b c load out h n

-- ---- of any buffer
pub reading_first : ReadingFirst
unfolding exported
reading_first b load out r e = rw e

kept_by : (a : Answer) (v : ℕ) (who : List ℕ) (es : List Entry) (out : List ℕ) (r : Refusal) → (if_accepted (λ q. (q, out)) (or_written v who es out) a).0 ≡ Err r
    → (if_accepted (λ q. (q, out)) (or_written v who es out) a).1 ≡ out
kept_by (Ok n) v who es out r e = refused_stays who es out v r e
kept_by (Err q) v who es out r e = refl

pub export_keeps : ExportKeeps
unfolding exported
export_keeps b load out r e =
    kept_by (used_length 2 b) (export_check (context_of b) load (room_of out)) (agent_of (context_of b)) (export_entries (context_of b) load) out r e

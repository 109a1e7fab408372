-- Laws of the whole call: the sizes that are counted, the tests on them, and what is answered and left, by how it went.
use Rattle.std.specs.Prelude.{Ok, Err}
use Prim.Native.Nat.{ℕ, zero, suc, ◌+◌, ◌*◌, ◌≤◌}
use mathlib.Core.Path.{◌≡◌, refl, sym, ap, ◌∙◌}
use mathlib.Core.List.{List}
use native.Mathlib.Omega.{arith}
use lib.ListN.{length, length-append}
use lib.Dec.{leb}
use borrow.Author.Tests.{leb-true}
use Rattle.byte_layout.specs.Stored.{over, closed}
use Rattle.lent_buffers.specs.Room.{room_of}
use Rattle.address_ranges.specs.Ranges.{range_fits}
use Rattle.refusals.specs.Answers.{Answer, refusal, value_of}
use Rattle.refusals.specs.declared.Refusal.{Refusal}
use Rattle.refusals.proofs.Chains.{passed}
use Rattle.ultra_format.specs.Contexts.{Context}
use Rattle.ultra_format.specs.Decoding.{context_of}
use Rattle.ultra_reading.specs.Reading.{used_length}
use Rattle.ultra_locating.specs.Passing.{if_accepted}
use Rattle.handover_format.specs.Payloads.{Entry}
use Rattle.handover_format.specs.WrittenForm.{strings, payload_size, payload_bytes}
use Rattle.handover_writing.specs.Writing.{or_written}
use Rattle.handover_writing.proofs.WriteLaws.{or_kept}
use Rattle.export_list.specs.ExportList.{entries_of, platform_in, agent_of, export_size, export_entries}
use Rattle.export_list.proofs.SelfLaws.{size_same}
use Rattle.export_sizes.specs.Extents.{grown, agent_alone}
use Rattle.export_sizes.specs.declared.Extent.{Extent}
use Rattle.export_sizes.proofs.ExtentLaws.{grown_count, grown_width}
use Rattle.handover_export.specs.Exporting.{tests_of, export_check, exported}

-- ---- sizes
module _ (who : List ℕ) (es : List Entry) (m : Extent) (e : m ≡ grown (agent_alone who) es) where
  pub count_is : m.count ≡ length es
  count_is = omega (arith, ap (λ (x : Extent). x.count) e, grown_count (agent_alone who) es)

  pub size_is : 16 + 32 * m.count + m.width ≡ payload_size who es
  size_is = omega (arith, count_is, ap (λ (x : Extent). x.width) e, grown_width (agent_alone who) es, length-append (closed who) (strings es))

-- ---- the tests
module _ (count size load rsdp room : ℕ) where
  pub none_given : tests_of count size load rsdp room ≡ 0 → (count ≤ 1024) × (size ≤ room)
  unfolding tests_of
  none_given e =
      let p = passed (leb count 1024) _ _ e in
      let q = passed (range_fits load size) _ _ p.1 in
      let r = passed (range_fits rsdp 20) _ _ q.1 in
      (leb-true count 1024 p.0, leb-true size room (passed (leb size room) _ _ r.1).0)

-- ---- the three ways
module _ (b : List ℕ) (load : ℕ) (out : List ℕ) where
  pub unread : (r : Refusal) → used_length 2 b ≡ Err r → (Err r, out) ≡ exported b load out
  unfolding exported
  unread r e = rw e

  abbrev c : Context
  c = context_of b

  module _ (n v : ℕ) (a : used_length 2 b ≡ Ok n) (e : v ≡ export_check c load (room_of out)) where
    pub refused_by : (r : Refusal) → r ≡ refusal v 0 → (v ≡ 0 → ⊥) → (Err r, out) ≡ exported b load out
    unfolding exported
    refused_by r f h =
        rw a (ap (λ (q : Refusal). (Err q, out)) f ∙ or_kept v (agent_of c) (export_entries c load) out h ∙ ap (λ (k : ℕ). or_written k (agent_of c) (export_entries c load) out) e)

    pub exported_by : (s : ℕ) (q : List ℕ) → v ≡ 0 → s ≡ export_size c → q ≡ over (payload_bytes (agent_of c) (entries_of load s c.attributes)) out → (Ok s, q) ≡ exported b load out
    unfolding exported
    exported_by s q z f g =
        let k : export_check c load (room_of out) ≡ 0 = sym e ∙ z in
        let t : s ≡ payload_size (agent_of c) (export_entries c load) = f ∙ sym (size_same (agent_of c) load (export_size c) c.attributes) in
        let w = g ∙ ap (λ (i : ℕ). over (payload_bytes (agent_of c) (entries_of load i c.attributes)) out) f in
        rw (a, k) (λ j. (Ok (t j), w j))

-- a payload that is made lies within the output
done_fits : (v : ℕ) (who : List ℕ) (es : List Entry) (out : List ℕ) (n : ℕ) → (or_written v who es out).0 ≡ Ok n → (v ≡ 0) × (payload_size who es ≡ n)
done_fits zero who es out n e = (refl, ap value_of e)
done_fits (suc v) who es out n e = absurd (let z : ◌≡◌ {A = ℕ} 0 1 = cc in omega arith)

within_by : (a : Answer) (v : ℕ) (who : List ℕ) (es : List Entry) (out : List ℕ) (n : ℕ) → (if_accepted (λ q. (q, out)) (or_written v who es out) a).0 ≡ Ok n → (v ≡ 0) × (payload_size who es ≡ n)
within_by (Ok m) v who es out n e = done_fits v who es out n e
within_by (Err r) v who es out n e = absurd (let z : ◌≡◌ {A = ℕ} 0 1 = cc in omega arith)

pub exported_within : (b : List ℕ) (load : ℕ) (out : List ℕ) (n : ℕ) → (exported b load out).0 ≡ Ok n → n ≤ length out
unfolding exported
exported_within b load out n e =
    let c = context_of b in
    let h = within_by (used_length 2 b) (export_check c load (room_of out)) (agent_of c) (export_entries c load) out n e in
    let k = none_given (length (entries_of 0 0 c.attributes)) (export_size c) load (platform_in c).rsdp (room_of out) h.0 in
    omega (arith, h.1, k.1, size_same (agent_of c) load (export_size c) c.attributes)

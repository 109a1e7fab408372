-- A payload written again from its reading has the same bytes: records that are placed stay where they are placed again.
use Rattle.std.specs.Prelude.{Ok}
use Prim.Native.Nat.{ℕ, ◌+◌, ◌≤◌}
use mathlib.Core.Path.{◌≡◌, refl, sym, ap, ap₂, ◌∙◌}
use mathlib.Core.Bool.{Bool, true, false}
use mathlib.Core.List.{List, [], ◌∷◌, ◌++◌}
use native.Mathlib.Omega.{arith}
use lib.ListN.{length, take, drop}
use lib.Seq.{take_at}
use Rattle.byte_layout.specs.Fields.{cells, filled}
use Rattle.byte_layout.specs.Stored.{Bytes, over, closed}
use Rattle.lent_buffers.specs.Room.{room_of}
use Rattle.handover_format.specs.declared.records.Record.{Record}
use Rattle.handover_format.specs.Payloads.{names_name, names_meta, Entry, record_start}
use Rattle.handover_format.specs.PayloadLayouts.{front_fields}
use Rattle.handover_format.specs.PayloadDecoding.{pick}
use Rattle.handover_format.specs.WrittenForm.{name_bytes, strings_of, strings, words_at, placed, placed_from, payload_size, payload, payload_bytes}
use Rattle.handover_format.proofs.WrittenLaws.{length_placed}
use Rattle.handover_demand_3.proofs.PayloadDemand3.{payload_demand_3}
use Rattle.handover_arguments.specs.PayloadGiven.{agent_given, entries_given}
use Rattle.handover_writing.specs.Writing.{payload_written}
use Rattle.handover_written.specs.WritesAgain.{records_read, parts_read, WritesReading, WritesAgain}
use Rattle.handover_written.proofs.Placing.{length_payload}
use Rattle.handover_written.proofs.WritingRefusals.{written_whole}
use Rattle.handover_written.proofs.WritesBack.{size_answered, left_over, written_holds}
use Rattle.handover_written.proofs.Reread.{agent_again, entries_again, none_again}

-- ---- placed again
picked_twice : (t : Bool) (o x : ℕ) → pick t o (pick t o x) ≡ pick t o x
picked_twice true o x = refl
picked_twice false o x = refl

words_twice : (r : Record) (o m : ℕ) → words_at (words_at r o m) o m ≡ words_at r o m
unfolding words_at
words_twice r o m =
    λ j. record {
      tag = r.tag;
      flags = r.flags;
      start = r.start;
      size = r.size;
      name = picked_twice (names_name r.tag) o r.name j;
      meta = picked_twice (names_meta r.tag) m r.meta j;
    }

strings_kept : (o : ℕ) (e : Entry) → strings_of (placed o e) ≡ strings_of e
unfolding words_at
strings_kept o e = refl

entry_twice : (o : ℕ) (e : Entry) → placed o (placed o e) ≡ placed o e
unfolding words_at
entry_twice o e = λ j. record { words = words_twice e.words o (o + length (name_bytes e)) j; name = e.name; meta = e.meta }

strings_placed : (o : ℕ) (es : List Entry) → strings (placed_from o es) ≡ strings es
unfolding strings placed_from
strings_placed o [] = refl
strings_placed o (e ∷ es) = ap₂ (λ (x y : List ℕ). x ++ y) (strings_kept o e) (strings_placed (o + length (strings_of e)) es)

placed_twice : (o : ℕ) (es : List Entry) → placed_from o (placed_from o es) ≡ placed_from o es
unfolding placed_from
placed_twice o [] = refl
placed_twice o (e ∷ es) =
    let q : placed_from (o + length (strings_of (placed o e))) (placed_from (o + length (strings_of e)) es) ≡ placed_from (o + length (strings_of e)) es =
    ap (λ (l : List ℕ). placed_from (o + length l) (placed_from (o + length (strings_of e)) es)) (strings_kept o e) ∙ placed_twice (o + length (strings_of e)) es in
    λ j. entry_twice o e j ∷ q j

module _ (who : List ℕ) (es : List Entry) where
  abbrev again : List Entry
  again = (payload who es).entries

  size_same : payload_size who again ≡ payload_size who es
  size_same = λ j. record_start (length_placed (length (closed who)) es j) + length (closed who ++ strings_placed (length (closed who)) es j)

  payload_same : payload who again ≡ payload who es
  payload_same = λ j. record { agent = 0; agent_name = who; entries = placed_twice (length (closed who)) es j; size = size_same j }

  bytes_same : payload_bytes who again ≡ payload_bytes who es
  bytes_same = λ j. filled (cells (front_fields (payload_same j))) ++ (closed who ++ strings_placed (length (closed who)) es j)

-- ---- any payload that is read, written again
pub writes_reading : WritesReading
writes_reading d p h e f =
    let r = payload_demand_3.reads d p h in
    let a = agent_again d p h r in
    let b = entries_again d p h r in
    written_whole e (records_read d) (parts_read d) d (none_again d p h r (room_of e) f) ∙ (λ j. (Ok (payload_size (a j) (b j)), over (payload_bytes (a j) (b j)) e))

-- ---- one that was written
module _ (b rs ps run : List ℕ) (n : ℕ) (y : Bytes rs) (w : Bytes run) (a : (payload_written b rs ps run).0 ≡ Ok n) where
  abbrev who : List ℕ
  who = agent_given ps run

  abbrev es : List Entry
  es = entries_given rs ps run

  abbrev d : List ℕ
  d = (payload_written b rs ps run).1

  first_bytes : take n d ≡ payload_bytes who es
  first_bytes =
      let x = payload_bytes who es in
      ap (take n) (left_over b rs ps run n y w a) ∙ take_at x (drop (length x) b) n (length_payload who es ∙ sym (size_answered b rs ps run n y w a))

  same_again : (e : List ℕ) → n ≤ room_of e → payload_written e (records_read d) (parts_read d) d ≡ (Ok n, over (take n d) e)
  same_again e f =
      let h = written_holds b rs ps run n y w a in
      let s : payload_size who (again who es) ≡ n = size_same who es ∙ sym (size_answered b rs ps run n y w a) in
      let x : payload_bytes who (again who es) ≡ take n d = bytes_same who es ∙ sym first_bytes in
      writes_reading d (payload who es) h e (omega arith) ∙ (λ j. (Ok (s j), over (x j) e))

pub writes_again : WritesAgain
writes_again b rs ps run n y w a e f = same_again b rs ps run n y w a e f

-- The words that are stored of one record, and the ranges that are left of a map.
use Prim.Native.Nat.{ℕ, suc, ◌+◌, ◌-◌, ◌*◌, ◌<◌}
use mathlib.Core.Path.{◌≡◌, refl}
use mathlib.Core.List.{List, [], ◌∷◌, ◌++◌}
use native.Mathlib.Omega.{arith}
use lib.ListN.{length}
use Rattle.byte_layout.specs.Stored.{closed}
use Rattle.handover_format.specs.declared.records.Record.{Record}
use Rattle.handover_format.specs.Payloads.{handover_file, handover_cmdline, Entry}
use Rattle.handover_format.specs.WrittenForm.{closed_if, words_at, placed}
use Rattle.handover_format.proofs.WrittenLaws.{length_closed}
use Rattle.ultra_format.specs.Contexts.{Module}
use Rattle.ultra_format.specs.Decoding.{entry_at, entries_at}
use Rattle.export_list.specs.ExportList.{range_entry, range_entries, file_entry, line_entry}

-- ---- a file
pub file_words : (m : Module) (o a s n : ℕ) → a ≡ m.address → s ≡ m.size → n ≡ length m.name
    → ◌≡◌ {A = Record} (record { tag = handover_file; flags = 0; start = a; size = s; name = o; meta = o + (n + 1) }) (placed o (file_entry m)).words
unfolding words_at closed_if
file_words m o a s n e f g =
    let q : o + (n + 1) ≡ o + length (closed m.name) = omega (arith, length_closed m.name) in
    λ j. record { tag = handover_file; flags = 0; start = e j; size = f j; name = o; meta = q j }

-- ---- a command line
pub line_words : (t : List ℕ) (o : ℕ) → ◌≡◌ {A = Record} (record { tag = handover_cmdline; flags = 0; start = 0; size = 0; name = 0; meta = o }) (placed o (line_entry t)).words
unfolding words_at closed_if
line_words t o = let q : o ≡ o + 0 = omega arith in λ j. record { tag = handover_cmdline; flags = 0; start = 0; size = 0; name = 0; meta = q j }

-- ---- ranges: those of the entries from entry i of n on
abbrev pub ranges_left : List ℕ → ℕ → ℕ → ℕ → List Entry
ranges_left b o n i = range_entries (entries_at b (o + 24 * i) (n - i))

pub ranges_split : (b : List ℕ) (o n i : ℕ) → i < n → ranges_left b o n i ≡ (range_entry (entry_at b (o + 24 * i)) ∷ []) ++ ranges_left b o n (i + 1)
unfolding entries_at range_entries
ranges_split b o n i h =
    let q : n - i ≡ suc (n - (i + 1)) = omega arith in
    let p : o + 24 * i + 24 ≡ o + 24 * (i + 1) = omega arith in
    rw (q, p) refl

pub ranges_whole : (b : List ℕ) (o n : ℕ) → ranges_left b o n 0 ≡ range_entries (entries_at b o n)
ranges_whole b o n =
    let p : o + 24 * 0 ≡ o = omega arith in
    let q : n - 0 ≡ n = omega arith in
    λ j. range_entries (entries_at b (p j) (q j))

pub ranges_none : (b : List ℕ) (o n i : ℕ) → n - i ≡ 0 → ranges_left b o n i ≡ []
unfolding entries_at range_entries
ranges_none b o n i e = rw e

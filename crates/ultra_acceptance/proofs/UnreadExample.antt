-- Proof of the statement in specs/UnreadExample.antt.
use Rattle.std.specs.Prelude.{Err}
use Prim.Native.Nat.{ℕ, zero, suc, ◌+◌, ◌≤◌, ◌<◌}
use mathlib.Core.Path.{◌≡◌, refl}
use mathlib.Core.Bool.{Bool, true, false, not, ◌&&◌, ◌||◌}
use mathlib.Core.List.{List, [], ◌∷◌}
use native.Mathlib.Omega.{arith}
use mathlib.Core.Logic.{⊎_elim}
use native.Mathlib.Nat.{not-suc-le-zero, le_of_suc-le-suc, eq-or-lt_of_le, zero-add}
use lib.ListN.{get_or}
use lib.Dec.{leb, eqb}
use borrow.Author.Tests.{leb-true, eqb-true}
use Rattle.words.specs.Words.{number_at}
use Rattle.byte_layout.specs.Fields.{Cell, cells, SilentAt}
use Rattle.byte_layout.specs.Fields.{Cell.byte, Cell.silent}
use Rattle.byte_layout.specs.Stored.{bytes_at, text_at}
use Rattle.refusals.specs.Answers.{refusal}
use Rattle.lent_buffers.specs.Room.{room_of}
use Rattle.ultra_format.specs.Layouts.{layout, attributes_fields, entries_fields}
use Rattle.ultra_format.specs.Members.{every, size_suits, values, kernel_values, module_values, bpp_suits, framebuffer_values, texts, ascii_text, path_text, ranges, ordered, entries_ordered, body_check}
use Rattle.ultra_format.specs.Places.{placed, occurs, place_check}
use Rattle.ultra_format.specs.Decoding.{context_of, attributes_from, start, stored_type, stored_size, stored_count, decoded, entries_at, types_before}
use Rattle.refusals.proofs.Chains.{both_hold}
use Rattle.ultra_stepping.specs.Checks.{head_check, bounds_check}
use Rattle.ultra_reading.specs.Reading.{attribute_check, attributes_answer, used_length, reading_of}
use Rattle.ultra_acceptance.specs.Unread.{SilentByte, SameButSilent, SameButSilentInList}
use Rattle.ultra_acceptance.specs.Unread.{SilentByte.platform_reserved, SilentByte.platform_tail, SilentByte.kernel_tail, SilentByte.module_reserved, SilentByte.module_tail, SilentByte.framebuffer_tail}
use Rattle.ultra_acceptance.specs.Unread.{SilentByte.platform_name, SilentByte.kernel_path, SilentByte.module_name, SilentByte.command_line_text, SilentByte.other_body}
use Rattle.ultra_acceptance.specs.UnreadExample.{refused_cells, filled_with, refused_bytes, RefusedExamples}

is_refused : (v : ℕ) → reading_of (refused_bytes v) ≡ Err (refusal 13 592)
unfolding refused_bytes reading_of used_length head_check attributes_answer attribute_check bounds_check place_check placed occurs body_check size_suits values kernel_values module_values bpp_suits framebuffer_values texts ascii_text path_text ranges ordered entries_ordered every decoded entries_at start types_before number_at bytes_at text_at
is_refused v = refl

is_laid : (v : ℕ) → cells (layout (context_of (refused_bytes v))) ≡ refused_cells
unfolding refused_bytes context_of attributes_from start decoded entries_at number_at bytes_at text_at cells attributes_fields entries_fields
is_laid v = refl

-- ---- what differs is silent
fill_same : (v w : ℕ) (cs : List Cell) (i : ℕ) → (SilentAt cs i → ⊥) → get_or (filled_with w cs) i 0 ≡ get_or (filled_with v cs) i 0
fill_same v w [] i h = refl
fill_same v w (byte n ∷ cs) zero h = refl
fill_same v w (byte n ∷ cs) (suc i) h = fill_same v w cs i h
fill_same v w (silent ∷ cs) zero h = absurd (h refl)
fill_same v w (silent ∷ cs) (suc i) h = fill_same v w cs i h

is_silent : Cell → Bool
is_silent (byte n) = false
is_silent silent = true

below : (ℕ → Bool) → ℕ → Bool
below p zero = true
below p (suc n) = p n && below p n

below_at : (p : ℕ → Bool) (n k : ℕ) → below p n ≡ true → k < n → p k ≡ true
unfolding below
below_at p zero k e h = absurd (not-suc-le-zero h)
below_at p (suc n) k e h =
    let t = both_hold (p n) (below p n) e in
    ⊎_elim (λ q. rw q t.0) (λ l. below_at p n k t.1 l) (eq-or-lt_of_le (le_of_suc-le-suc h))

cases : {P : Type 0} (x y : Bool) → (x ≡ true → P) → (y ≡ true → P) → (x || y) ≡ true → P
cases true y f g e = f refl
cases false y f g e = g e

abbrev within : ℕ → ℕ → ℕ → Bool
within a c k = leb a k && leb k c

between : (a c k : ℕ) → within a c k ≡ true → (a ≤ k) × (k ≤ c)
between a c k e = let t = both_hold (leb a k) (leb k c) e in (leb-true a k t.0, leb-true k c t.1)

-- of the n bytes from `o` on, only those that pass the test are silent
silent_only_in : (ℕ → Bool) → ℕ → ℕ → Bool
silent_only_in in_ranges o n = below (λ k. not (is_silent (get_or refused_cells (o + k) silent)) || in_ranges k) n

silent_in : (in_ranges : ℕ → Bool) (o n k : ℕ) → silent_only_in in_ranges o n ≡ true → k < n → SilentAt refused_cells (o + k) → in_ranges k ≡ true
unfolding silent_only_in is_silent
silent_in in_ranges o n k e h s = rw s at (below_at (λ k. not (is_silent (get_or refused_cells (o + k) silent)) || in_ranges k) n k e h)

-- an attribute of type t and of s bytes at `o`: its silent bytes lie in some ranges, and what lies there 01 calls silent
record Attribute (b : List ℕ) (o t s : ℕ) : Type 0 where
  in_ranges : ℕ → Bool
  only : silent_only_in (λ k. leb 8 k && in_ranges k) o s ≡ true
  least : 8 ≤ s
  ranges_silent : (k : ℕ) → 8 ≤ k → in_ranges k ≡ true → SilentByte b o t k

module _ (v : ℕ) where
  abbrev b : List ℕ
  b = refused_bytes v

  abbrev At : ℕ → Type 0
  At j = Attribute b (start b j) (stored_type b j) (stored_size b j)

  at_platform : At 0
  unfolding refused_bytes start number_at silent_only_in below is_silent
  at_platform =
      record {
        in_ranges = λ k. within 65 71 k || within 18 47 k || leb 88 k;
        only = refl;
        least = omega arith;
        ranges_silent = λ k l.
            cases (within 65 71 k || within 18 47 k) (leb 88 k)
            (cases (within 65 71 k) (within 18 47 k)
            (λ e. let h = between 65 71 k e in platform_reserved refl h.0 h.1)
            (λ e. let h = between 18 47 k e in platform_name refl (17, omega arith, h.0, refl) h.1))
            (λ e. platform_tail refl (leb-true 88 k e));
      }

  at_kernel : At 1
  unfolding refused_bytes start number_at silent_only_in below is_silent
  at_kernel =
      record {
        in_ranges = λ k. within 83 335 k || leb 336 k;
        only = refl;
        least = omega arith;
        ranges_silent = λ k l.
            cases (within 83 335 k) (leb 336 k)
            (λ e. let h = between 83 335 k e in kernel_path refl (82, omega arith, h.0, refl) h.1)
            (λ e. kernel_tail refl (leb-true 336 k e));
      }

  at_module : At 2
  unfolding refused_bytes start number_at silent_only_in below is_silent
  at_module =
      record {
        in_ranges = λ k. leb k 11 || within 18 79 k || leb 96 k;
        only = refl;
        least = omega arith;
        ranges_silent = λ k l.
            cases (leb k 11 || within 18 79 k) (leb 96 k)
            (cases (leb k 11) (within 18 79 k)
            (λ e. module_reserved refl l (leb-true k 11 e))
            (λ e. let h = between 18 79 k e in module_name refl (17, omega arith, h.0, refl) h.1))
            (λ e. module_tail refl (leb-true 96 k e));
      }

  at_line : At 3
  unfolding refused_bytes start number_at silent_only_in below is_silent
  at_line = record { in_ranges = λ k. leb 10 k; only = refl; least = omega arith; ranges_silent = λ k l q. command_line_text refl (9, omega arith, leb-true 10 k q, refl) }

  at_other : At 4
  unfolding refused_bytes start number_at silent_only_in below is_silent
  at_other = record { in_ranges = λ k. true; only = refl; least = omega arith; ranges_silent = λ k l q. other_body (omega arith) l }

  at_framebuffer : At 5
  unfolding refused_bytes start number_at silent_only_in below is_silent
  at_framebuffer = record { in_ranges = λ k. leb 32 k; only = refl; least = omega arith; ranges_silent = λ k l q. framebuffer_tail refl (leb-true 32 k q) }

  at_each : (j : ℕ) → j < 6 → At j
  at_each zero h = at_platform
  at_each (suc zero) h = at_kernel
  at_each (suc (suc zero)) h = at_module
  at_each (suc (suc (suc zero))) h = at_line
  at_each (suc (suc (suc (suc zero)))) h = at_other
  at_each (suc (suc (suc (suc (suc zero))))) h = at_framebuffer
  at_each (suc (suc (suc (suc (suc (suc j)))))) h = absurd (omega arith)

  module _ (w : ℕ) where
    same_at : (i : ℕ) → (SilentAt refused_cells i → ⊥) → get_or (refused_bytes w) i 0 ≡ get_or b i 0
    unfolding refused_bytes
    same_at i h = fill_same v w refused_cells i h

    counted : stored_count b ≡ 6
    unfolding refused_bytes number_at
    counted = refl

    same_head : (i : ℕ) → i < 8 → (i ≡ 2 → ⊥) → (i ≡ 3 → ⊥) → SilentAt refused_cells i → ⊥
    unfolding silent_only_in below is_silent
    same_head i h m n s =
        cases (eqb i 2) (eqb i 3) (λ e. m (eqb-true i 2 e)) (λ e. n (eqb-true i 3 e)) (silent_in (λ k. eqb k 2 || eqb k 3) 0 8 i refl h (rw zero-add s))

    -- what is silent of attribute j passes its test
    passes : (j : ℕ) (h : j < stored_count b) (k : ℕ) → k < stored_size b j → SilentAt refused_cells (start b j + k) → (8 ≤ k) × SilentByte b (start b j) (stored_type b j) k
    passes j h k l s =
        let a = at_each j (omega (arith, counted)) in
        let t = both_hold (leb 8 k) (a.in_ranges k) (silent_in (λ k. leb 8 k && a.in_ranges k) (start b j) (stored_size b j) k a.only l s) in
        let g = leb-true 8 k t.0 in
        (g, a.ranges_silent k g t.1)

    one_room : room_of (refused_bytes w) ≡ room_of b
    unfolding refused_bytes
    one_room = refl

    differs : SameButSilent b (refused_bytes w)
    differs =
        record {
          room = one_room;
          head = λ i h m n r. same_at i (same_head i h m n);
          header = λ j h c k g r. let a = at_each j (omega (arith, counted)) in same_at (start b j + k) (λ s. omega (arith, (passes j h k (omega (arith, a.least)) s).0));
          body = λ j h c k g l n r. same_at (start b j + k) (λ s. n (passes j h k l s).1);
        }

    differs_in_list : SameButSilentInList b (refused_bytes w)
    differs_in_list = (one_room, λ i n r. same_at i (λ s. n (rw (is_laid v) s)))

pub refused_examples : RefusedExamples
refused_examples v w = record { refused = is_refused v; same = differs v w; same_in_list = differs_in_list v w }

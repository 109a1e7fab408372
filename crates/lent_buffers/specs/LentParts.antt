-- Parts of a lent buffer that are handed back as slices of it. Document 01: "as its part of the buffer's entries or text, up to its zero".
-- A reader has to believe this file.
use Rattle.std.specs.Prelude.{ℕ, ◌+◌, ◌≤◌, ◌≡◌, List, length}
use Rattle.std.specs.Borrow.{Bor}
use Rattle.byte_layout.specs.Stored.{bytes_at}
use Rattle.lent_buffers.specs.declared.Part.{Part}

abbrev pub part : ℕ → ℕ → Part
part o n = record { start = o; length = n }

-- where there is nothing to hand back, or the buffer is refused: an empty part; that it lies at the buffer's start is a decision
abbrev pub no_part : Part
no_part = part 0 0

-- r is that part of s and no copy: it points into the same memory, `start` bytes further on, lies within s and has the bytes there
pub record PartOf (r s : Bor (List ℕ)) (p : Part) : Type 0 where
  pub block : r.ref_ptr.0 ≡ s.ref_ptr.0
  pub offset : r.ref_ptr.1 ≡ p.start + s.ref_ptr.1
  pub within : p.start + p.length ≤ length s.now
  pub has : r.now ≡ bytes_at s.now p.start p.length

-- the same said of the pointers alone, apart from `PartOf`: r is memory of s, `o` bytes further on
abbrev pub LiesAt : Bor (List ℕ) → Bor (List ℕ) → ℕ → Type 0
LiesAt r s o = (r.ref_ptr.0 ≡ s.ref_ptr.0) × (r.ref_ptr.1 ≡ o + s.ref_ptr.1)

-- r is all of s and no copy: the same memory, from the same byte on, with the same bytes
abbrev pub WholeOf : Bor (List ℕ) → Bor (List ℕ) → Type 0
WholeOf r s = (r.ref_ptr ≡ s.ref_ptr) × (r.now ≡ s.now)

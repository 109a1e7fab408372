-- Statement: what copying the map out into bytes does to each byte of the output. A refusal changes none; success copies the bytes of the
-- map's entries, as they stand in the buffer, to the front, and leaves what is after them. Proved in proofs/MapAsBytes.antt:
-- `map_as_bytes`. Of the buffer and the output only that their elements are bytes is assumed.
-- A reader has to believe this file.
use Rattle.std.specs.Prelude.{ℕ, ◌+◌, ◌*◌, ◌≡◌, List, Ok, Err}
use Rattle.byte_layout.specs.Stored.{Bytes, bytes_at, over}
use Rattle.ultra_format.specs.Contexts.{Attribute}
use Rattle.ultra_format.specs.Decoding.{context_of}
use Rattle.refusals.specs.declared.Refusal.{Refusal}
use Rattle.ultra_locating.specs.Searching.{Found.found, first_in, of_type}
use Rattle.ultra_map_question.specs.MapQuestion.{map_copied_bytes}

pub record MapAsBytes (b out : List ℕ) : Type 0 where
  pub refuses : (r : Refusal) → (map_copied_bytes b out).0 ≡ Err r → (map_copied_bytes b out).1 ≡ out
  -- the map attribute starts at `o`, and its n entries 8 bytes after
  pub copies : (n : ℕ) → (map_copied_bytes b out).0 ≡ Ok n
      → (o : ℕ) × (a : Attribute) × (first_in (of_type 3) (context_of b) ≡ found o a) × ((map_copied_bytes b out).1 ≡ over (bytes_at b (o + 8) (24 * n)) out)

abbrev pub CopiesBytes : Type 0
CopiesBytes = (b out : List ℕ) → Bytes b → Bytes out → MapAsBytes b out

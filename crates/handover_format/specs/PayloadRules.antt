-- The rules of a payload, as conditions on the list and a room. Nothing here reads a buffer.
-- A reader has to believe this file.
use Rattle.std.specs.Prelude.{ℕ, ◌+◌, ◌≤◌, ◌<◌, ◌≡◌, ◌↔◌, false, List, [], length, get_or}
use Rattle.byte_layout.specs.Fields.{Fits}
use Rattle.handover_format.specs.Payloads.{handover_end, names_name, names_meta, Payload, count, entry_in, words_in, table, table_length, Named}
use Rattle.handover_format.specs.PayloadLayouts.{front_fields}

-- a named string l at the offset o of a table of n bytes
pub record StringMeets (n o : ℕ) (l : List ℕ) : Type 0 where
  -- "must start inside the table and close there"
  pub closes : o + length l < n
  -- a zero closes a string, so it holds any byte but 0
  pub bytes : (i : ℕ) → i < length l → (0 < get_or l i 0) × (get_or l i 0 < 256)

pub record Meets (room : ℕ) (p : Payload) : Type 0 where
  -- every word is of its width
  pub fits : Fits (front_fields p)
  -- "3 for a count of 0 or above 1,024"
  pub some : 1 ≤ count p
  pub most : count p ≤ 1024
  -- "21 if size is below 16 + 32 × count or above the room"
  pub least : table p ≤ p.size
  pub within : p.size ≤ room
  -- "The last record, and no other, has the end tag 0xffffffff."
  pub last : (i : ℕ) → i < count p → ((words_in p i).tag ≡ handover_end) ↔ (i + 1 ≡ count p)
  -- "no record's range passes 2^64"
  pub ranges : (i : ℕ) → i < count p → (words_in p i).start + (words_in p i).size ≤ 18446744073709551616
  -- "Strings named by the agent, by a file's name and meta and by a command line's meta must start inside the table and close there."
  pub strings : (o : ℕ) (l : List ℕ) → Named p o l → StringMeets (table_length p) o l
  -- where no string is named, the list has none
  pub nameless : (i : ℕ) → i < count p → names_name (words_in p i).tag ≡ false → (entry_in p i).name ≡ []
  pub metaless : (i : ℕ) → i < count p → names_meta (words_in p i).tag ≡ false → (entry_in p i).meta ≡ []

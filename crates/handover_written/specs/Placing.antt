-- What the written form (crate handover_format, WrittenForm) promises, of records with their strings as lists, wherever they come from. Proved in
-- proofs/Placing.antt: `placed_holds`, `each_as_given`.
-- A reader has to believe this file.
use Rattle.std.specs.Prelude.{ℕ, ◌+◌, ◌≤◌, ◌<◌, ◌≡◌, ◌↔◌, false, List, [], length, get_or}
use Rattle.byte_layout.specs.Fields.{Fits}
use Rattle.byte_layout.specs.Stored.{over}
use Rattle.lent_buffers.specs.Room.{room_of}
use Rattle.handover_format.specs.Payloads.{handover_end, names_name, names_meta, Entry, count, no_entry, entry_in}
use Rattle.handover_format.specs.PayloadLayouts.{record_fields}
use Rattle.handover_format.specs.WrittenForm.{payload_size, payload, payload_bytes}
use Rattle.handover_acceptance.specs.PayloadAcceptance.{HoldsPayload}

-- ---- what is asked of records
-- a zero closes a string, so it holds any byte but 0
abbrev pub Text : List ℕ → Type 0
Text l = (i : ℕ) → i < length l → (0 < get_or l i 0) × (get_or l i 0 < 256)

-- one record with its strings
pub record Sound (e : Entry) : Type 0 where
  -- every word is of its width
  pub fits : Fits (record_fields e.words)
  -- "no record's range passes 2^64"
  pub range : e.words.start + e.words.size ≤ 18446744073709551616
  pub name_text : Text e.name
  pub meta_text : Text e.meta
  -- where no string is named, there is none
  pub nameless : names_name e.words.tag ≡ false → e.name ≡ []
  pub metaless : names_meta e.words.tag ≡ false → e.meta ≡ []

-- all of them
pub record SoundRecords (es : List Entry) : Type 0 where
  -- "3 for a count of 0 or above 1,024"
  pub some : 1 ≤ length es
  pub most : length es ≤ 1024
  pub each : (i : ℕ) → i < length es → Sound (get_or es i no_entry)
  -- "The last record, and no other, has the end tag 0xffffffff."
  pub last : (i : ℕ) → i < length es → ((get_or es i no_entry).words.tag ≡ handover_end) ↔ (i + 1 ≡ length es)

-- ---- a buffer with the bytes of sound records over its front holds their payload
abbrev pub PlacedHolds : Type 0
PlacedHolds =
    (agent : List ℕ) (es : List Entry) (b : List ℕ) → Text agent → SoundRecords es → payload_size agent es ≤ room_of b
    → HoldsPayload (over (payload_bytes agent es) b) (payload agent es)

-- ---- each record
-- f has all that e was given with, but for the offsets of its strings
pub record AsGiven (e f : Entry) : Type 0 where
  pub tag : f.words.tag ≡ e.words.tag
  pub flags : f.words.flags ≡ e.words.flags
  pub start : f.words.start ≡ e.words.start
  pub size : f.words.size ≡ e.words.size
  pub name_word : names_name e.words.tag ≡ false → f.words.name ≡ e.words.name
  pub meta_word : names_meta e.words.tag ≡ false → f.words.meta ≡ e.words.meta
  pub name : f.name ≡ e.name
  pub meta : f.meta ≡ e.meta

-- "each record as given, its strings' offsets set"
abbrev pub EachAsGiven : Type 0
EachAsGiven =
    (agent : List ℕ) (es : List Entry) → (count (payload agent es) ≡ length es) × ((i : ℕ) → i < length es → AsGiven (get_or es i no_entry) (entry_in (payload agent es) i))

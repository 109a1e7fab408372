-- Statements: adding gives each number exactly under the condition of its row in document 01's table, with its offset, and no other
-- number, and leaves the buffer as it was; where it gives none it answers the new used length. They speak of members given, formed or
-- not (`added_members`), and so of the calls toward C; an add of a record is one of its members (`added`). For 13 to 16 the conditions are
-- the tests of Members on the members, which the rules ask too. Proved in proofs/AddingRefusals.antt: `adding_refuses`,
-- `refused_add_keeps`, `adding_succeeds`, from these three `every_add` and `one_answer`, and `adding_in_digits`. Of a buffer only
-- that its elements are bytes is assumed.
-- A reader has to believe this file.
use Rattle.std.specs.Prelude.{ℕ, ◌+◌, ◌-◌, ◌≤◌, ◌<◌, ◌≡◌, Bool, true, false, ◌↔◌, ◌⊎◌, List, [], ◌∷◌, get_or, replicate, eqb, Ok, Err}
use Rattle.ultra_format.specs.Additions.{values_given}
use Rattle.byte_layout.specs.Stored.{Bytes}
use Rattle.refusals.specs.Refusals.{PLACE, REPEAT, SPLIT, FORM, VALUE, TEXT, RANGE, ORDER, FULL, ROOM}
use Rattle.refusals.specs.Answers.{number_of, value_of}
use Rattle.ultra_format.specs.Contexts.{Platform, Body, type_of, Context, count, type_at, used}
use Rattle.ultra_format.specs.Contexts.{Member.absent, Body.platform}
use Rattle.lent_buffers.specs.Room.{room_of}
use Rattle.ultra_format.specs.Members.{texts, ranges, ordered}
use Rattle.ultra_format.specs.Places.{single, repeatable}
use Rattle.ultra_format.specs.Decoding.{pick}
use Rattle.ultra_format.specs.Plain.{written_size}
use Rattle.refusals.specs.declared.Refusal.{Refusal}
use Rattle.ultra_acceptance.specs.Acceptance.{HoldsContext}
use Rattle.ultra_acceptance.specs.Refusing.{NoneBreaks, Refuses}
use Rattle.ultra_appending.specs.Appending.{append_check}
use Rattle.ultra_adding.specs.Adding.{added_members}

-- ---- the table
-- "occurred earlier": a type, among the attributes of a context
abbrev pub Occurs : Context → ℕ → Type 0
Occurs c t = (j : ℕ) × (j < count c) × (type_at c j ≡ t)

-- "a platform record with an absent member"
abbrev pub Incomplete : Platform → Type 0
Incomplete p = (p.higher_half_base ≡ absent) ⊎ (p.depth ≡ absent) ⊎ (p.dtb ≡ absent) ⊎ (p.smbios ≡ absent)

-- members given, formed or not, as one more attribute of the context c within `room` bytes, fall under the condition of a number
pub data AdditionBreaks (room : ℕ) (c : Context) (formed : Bool) (given : Body) : ℕ → Type 0 where
  -- "adding to 1,024 attributes"
  full : 1024 ≤ count c → AdditionBreaks room c formed given FULL
  -- "first is not 1, second not 2, or a later one is 1 or 2"
  first : count c ≡ 0 → (type_of given ≡ 1 → ⊥) → AdditionBreaks room c formed given PLACE
  second : count c ≡ 1 → (type_of given ≡ 2 → ⊥) → AdditionBreaks room c formed given PLACE
  later : 2 ≤ count c → (type_of given ≡ 1) ⊎ (type_of given ≡ 2) → AdditionBreaks room c formed given PLACE
  -- "type 3, 5 or 6 occurred earlier"
  repeat : single (type_of given) ≡ true → Occurs c (type_of given) → AdditionBreaks room c formed given REPEAT
  -- "type 4 or from 7 up, occurred earlier, and the attribute just before has another type"
  split : repeatable (type_of given) ≡ true → Occurs c (type_of given) → (type_at c (count c - 1) ≡ type_of given → ⊥)
      → AdditionBreaks room c formed given SPLIT
  -- "12 is given if their count is no multiple of three", and toward C "12 for a map not of 24n bytes or a GUID not of 16" (`formed`,
  -- `map_formed`, `guids_formed`). "A platform record with an absent member is refused as 12."
  unformed : formed ≡ false → AdditionBreaks room c formed given FORM
  incomplete : (p : Platform) → given ≡ platform p → Incomplete p → AdditionBreaks room c formed given FORM
  -- "the member rules above": values, texts, ranges, map order. "A text given is refused as 14 if it holds a zero byte or leaves no place
  -- for its closing zero in a fixed field": no byte of a text is zero, and it is shorter than its field (Members, `texts`).
  value : values_given given ≡ false → AdditionBreaks room c formed given VALUE
  text : texts (written_size given) given ≡ false → AdditionBreaks room c formed given TEXT
  range : ranges given ≡ false → AdditionBreaks room c formed given RANGE
  order : ordered given ≡ false → AdditionBreaks room c formed given ORDER
  -- "new attribute would end past the room"
  past : room < used c + written_size given → AdditionBreaks room c formed given ROOM

-- ---- which number is given
-- "17, 9, 10, 11, 12, 13, 14, 15, 16, 18": 17 goes before the others, which come by their numbers
abbrev pub rank : ℕ → ℕ
rank n = pick (eqb n FULL) 0 n

-- n is the first number in that order whose condition is met
abbrev pub FirstBroken : (ℕ → Type 0) → ℕ → Type 0
FirstBroken breaks n = breaks n × ((m : ℕ) → rank m < rank n → breaks m → ⊥)

-- an add to b is to be refused with the number n and, last, an offset
pub data AddRefused (b : List ℕ) (formed : Bool) (given : Body) (n : ℕ) : ℕ → Type 0 where
  -- "first reads the buffer by all rules but the lower limit of the count, and gives that refusal"
  reading : (o : ℕ) → Refuses 0 b n o → AddRefused b formed given n o
  -- "Then, with the used length as offset"
  adding : (c : Context) → HoldsContext 0 b c → FirstBroken (AdditionBreaks (room_of b) c formed given) n
      → AddRefused b formed given n (used c)

-- ---- the statements
-- over whole refusals, as RefusesExactly is (crate ultra_acceptance)
abbrev pub AddingRefuses : Type 0
AddingRefuses =
    (b : List ℕ) (formed : Bool) (given : Body) (r : Refusal) → Bytes b
    → ((added_members b formed given).0 ≡ Err r) ↔ AddRefused b formed given (number_of (Err r)) (value_of (Err r))

-- "the buffer and all lent memory are unchanged"
abbrev pub RefusedAddKeeps : Type 0
RefusedAddKeeps = (b : List ℕ) (formed : Bool) (given : Body) (r : Refusal) → (added_members b formed given).0 ≡ Err r
    → (added_members b formed given).1 ≡ b

-- "0 is success, with the used length after it"
abbrev pub AddingSucceeds : Type 0
AddingSucceeds =
    (b : List ℕ) (formed : Bool) (given : Body) (m : ℕ) → Bytes b
    → ((number_of (added_members b formed given).0 ≡ 0) × (value_of (added_members b formed given).0 ≡ m))
    ↔ ((c : Context) × HoldsContext 0 b c × NoneBreaks (AdditionBreaks (room_of b) c formed given) × (m ≡ used c + written_size given))

-- from the three: every add to a buffer of bytes is refused by the table and changes nothing, or breaks no row and answers the new used
-- length. One of them that asked for more would not give it.
abbrev pub EveryAdd : Type 0
EveryAdd =
    (b : List ℕ) (formed : Bool) (given : Body) → ((i : ℕ) → get_or b i 0 < 256)
    → ((r : Refusal) × AddRefused b formed given (number_of (Err r)) (value_of (Err r)) × (added_members b formed given ≡ (Err r, b)))
    ⊎ ((c : Context) × HoldsContext 0 b c × NoneBreaks (AdditionBreaks (room_of b) c formed given) × ((added_members b formed given).0 ≡ Ok (used c + written_size given)))

-- and only one of these: the table gives an add one answer
abbrev pub OneAnswer : Type 0
OneAnswer =
    (b : List ℕ) (formed : Bool) (given : Body) (r : Refusal) → ((i : ℕ) → get_or b i 0 < 256)
    → AddRefused b formed given (number_of (Err r)) (value_of (Err r))
    → ((s : Refusal) → AddRefused b formed given (number_of (Err s)) (value_of (Err s)) → s ≡ r)
    × ((c : Context) → HoldsContext 0 b c → NoneBreaks (AdditionBreaks (room_of b) c formed given) → ⊥)

-- "17, 9, 10, 11, 12, 13, 14, 15, 16, 18", in digits: after attributes of these types (the nearest first), with a room, a used length, a
-- type, the first of 12 to 16 that it breaks, or 0, and a size
pub record AddingInDigits : Type 0 where
  -- to 1,024 attributes a platform (9), malformed (12), past the room (18); to one fewer one more may come
  pub seventeen : append_check (replicate 1024 7) 65536 65536 1 12 88 ≡ 17
  pub one_fewer : append_check (replicate 1023 7) 65536 8192 7 0 96 ≡ 0
  -- each malformed and past the room too
  pub nine : append_check [] 65536 65536 3 12 8 ≡ 9
  pub ten : append_check (4 ∷ 3 ∷ 2 ∷ 1 ∷ []) 527 432 3 12 96 ≡ 10
  pub eleven : append_check (3 ∷ 4 ∷ 2 ∷ 1 ∷ []) 527 432 4 12 96 ≡ 11
  -- 96 bytes from 432 on end past 527, and not past 528
  pub thirteen : append_check (2 ∷ 1 ∷ []) 527 432 4 13 96 ≡ 13
  pub eighteen : append_check (2 ∷ 1 ∷ []) 527 432 4 0 96 ≡ 18
  pub fits : append_check (2 ∷ 1 ∷ []) 528 432 4 0 96 ≡ 0

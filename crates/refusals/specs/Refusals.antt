-- Document 01, "Numbers a call can give back", and what a chain of tests gives back.
-- A reader has to believe this file.
use Rattle.std.specs.Prelude.{ℕ, zero, suc, Bool, true, false}

-- "room below 8"; R-2: "room below 16"
abbrev pub SHORT : ℕ
SHORT = 1

-- "major 0"
abbrev pub VERSION : ℕ
VERSION = 2

-- "count above 1,024; an index asked for at or past the count"; R-2: "a count of 0 or above 1,024"
abbrev pub COUNT : ℕ
COUNT = 3

-- "count below 2 (not when adding)"
abbrev pub MISSING : ℕ
MISSING = 4

-- "fewer than 8 bytes of room at the attribute's start"
abbrev pub HEADER : ℕ
HEADER = 5

-- "below 8 or no multiple of 8"
abbrev pub SIZE : ℕ
SIZE = 6

-- "attribute ends past the room"
abbrev pub OVERRUN : ℕ
OVERRUN = 7

-- "type 0"
abbrev pub TYPE : ℕ
TYPE = 8

-- "first is not 1, second not 2, or a later one is 1 or 2"
abbrev pub PLACE : ℕ
PLACE = 9

-- "type 3, 5 or 6 occurred earlier"
abbrev pub REPEAT : ℕ
REPEAT = 10

-- "type 4 or from 7 up, occurred earlier, and the attribute just before has another type"
abbrev pub SPLIT : ℕ
SPLIT = 11

-- "size outside the table"
abbrev pub FORM : ℕ
FORM = 12

-- "values: ..", 01's member rules (ultra_format, Members, values)
abbrev pub VALUE : ℕ
VALUE = 13

-- "texts: .." (ultra_format, Members, texts)
abbrev pub TEXT : ℕ
TEXT = 14

-- "ranges: .." (ultra_format, Members, ranges); R-2: "no record's range passes 2^64"
abbrev pub RANGE : ℕ
RANGE = 15

-- "map order: .." (ultra_format, Members, ordered)
abbrev pub ORDER : ℕ
ORDER = 16

-- "adding to 1,024 attributes"
abbrev pub FULL : ℕ
FULL = 17

-- "new attribute would end past the room, or a lent output is too short"; of R-2, a payload that would
abbrev pub ROOM : ℕ
ROOM = 18

-- "no map attribute"
abbrev pub ABSENT : ℕ
ABSENT = 19

-- ---- document 02, R-2: "New numbers, here and later, join document 01's table."
-- "the magic"
abbrev pub MAGIC : ℕ
MAGIC = 20

-- "size is below 16 + 32 × count or above the room"
abbrev pub PAYLOAD : ℕ
PAYLOAD = 21

-- "a string"
abbrev pub STRING : ℕ
STRING = 22

-- "a misplaced or missing end"
abbrev pub END : ℕ
END = 23

-- ---- chains
-- A chain of tests answers the number of the first that fails, and 0 where none does.

-- `n` unless the test holds; then what the rest answers
abbrev pub unless : Bool → ℕ → ℕ → ℕ
unless true n rest = rest
unless false n rest = n

-- the first number that is not 0
abbrev pub first_of : ℕ → ℕ → ℕ
first_of zero rest = rest
first_of (suc n) rest = suc n

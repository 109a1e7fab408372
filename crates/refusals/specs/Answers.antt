-- What most calls answer, `Result<u32, Refusal>`: document 01's number and value for each case of it, and the two definitions that make every
-- refusal.
-- A reader has to believe this file.
use Rattle.std.specs.Prelude.{ℕ, zero, suc, ⊤, Result, Ok, Err}
use Rattle.refusals.specs.declared.Refusal.{Refusal}

-- done, with the value that the call names, or refused
abbrev pub Answer : Type 0
Answer = Result ℕ Refusal

-- "Otherwise a number and an offset"
abbrev pub refusal : ℕ → ℕ → Refusal
refusal n o = record { number = n; offset = o }

-- of the attribute, or the record of a payload, at the index `i`: the index is not carried (document 02, R-10, asks for it)
abbrev pub refusal_at : ℕ → ℕ → ℕ → Refusal
refusal_at n i o = refusal n o

abbrev pub refused : ℕ → ℕ → Answer
refused n o = Err (refusal n o)

-- "0 is success, with the used length after it unless another value is named."
abbrev pub number_of : Answer → ℕ
number_of (Ok v) = 0
number_of (Err r) = r.number

abbrev pub value_of : Answer → ℕ
value_of (Ok v) = v
value_of (Err r) = r.offset

-- what a check answers whose number is 0 where nothing is broken: `Result<(), u16>`
abbrev pub checked : ℕ → Result ⊤ ℕ
checked zero = Ok tt
checked (suc n) = Err (suc n)

-- and back: the number of such an answer
abbrev pub number_in : Result ⊤ ℕ → ℕ
number_in (Ok u) = 0
number_in (Err n) = n

-- the refusal, where its number is not 0; else what the rest answers
abbrev pub refused_unless : ℕ → Refusal → Answer → Answer
refused_unless zero r rest = rest
refused_unless (suc n) r rest = Err r

-- that belongs to no attribute and no record, with the number `n` at `o`
abbrev pub or_refused : ℕ → ℕ → Answer → Answer
or_refused n o rest = refused_unless n (refusal n o) rest

-- of the attribute or record at the index `i`
abbrev pub or_refused_at : ℕ → ℕ → ℕ → Answer → Answer
or_refused_at n i o rest = refused_unless n (refusal_at n i o) rest

-- a refusal, or what the rest answers
abbrev pub and_then : Answer → Answer → Answer
and_then (Ok v) rest = rest
and_then (Err r) rest = Err r

-- How answers cross toward C ("cross" is document 01's word): "Toward C an answer is the single number (refusal number × 2^32) + value,
-- where the value is the offset, used length, entry count or attribute start".
-- A reader has to believe this file.
use Rattle.std.specs.Prelude.{ℕ, ◌+◌, ◌*◌, List}
use Rattle.refusals.specs.Answers.{Answer, number_of, value_of}
use Rattle.ultra_reading.specs.Reading.{reading_number, reading_value, Reading}
use Rattle.ultra_stepping.specs.Stepping.{step_number, step_value, Step}
use Rattle.lent_buffers.specs.declared.Part.{Part}

abbrev pub number_and_value : ℕ → ℕ → ℕ
number_and_value number value = number * 4294967296 + value

abbrev pub answer_crossed : Answer → ℕ
answer_crossed a = number_and_value (number_of a) (value_of a)

-- "A step's value is the next cursor's offset, or 0 at the end."
abbrev pub step_crossed : Step → ℕ
step_crossed s = number_and_value (step_number s) (step_value s)

abbrev pub reading_crossed : Reading → ℕ
reading_crossed r = number_and_value (reading_number r) (reading_value r)

-- "The command line crosses as its text's start × 2^32 + length, or 0 if there is none": where there is none, start and length are 0
abbrev pub part_crossed : Part → ℕ
part_crossed p = p.start * 4294967296 + p.length

-- the answer of a call that writes, beside what the lent bytes are afterwards
abbrev pub crossed : Answer × List ℕ → ℕ × List ℕ
crossed r = (answer_crossed r.0, r.1)

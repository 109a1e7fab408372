-- The cases that document 01 marks * hold, and the context of its listing and one with every type are accepted, by computing the
-- definitions.
use mathlib.Core.Path.{◌≡◌, refl}
use Rattle.words.specs.Words.{number_at}
use Rattle.byte_layout.specs.Stored.{bytes_at, text_at}
use Rattle.ultra_format.specs.Members.{every, size_suits, values, kernel_values, module_values, bpp_suits, framebuffer_values, texts, ascii_text, path_text, ranges, ordered, entries_ordered, body_check}
use Rattle.ultra_format.specs.Places.{placed, occurs, place_check}
use Rattle.ultra_format.specs.Plain.{written_size}
use Rattle.ultra_format.specs.Decoding.{entries_at, decoded, start, types_before}
use Rattle.ultra_format.specs.Examples.{listed_bytes, every_type_bytes}
use Rattle.ultra_stepping.specs.Checks.{head_check, bounds_check}
use Rattle.ultra_reading.specs.Reading.{attribute_check, attributes_answer, used_length, reading_of, read_as}
use Rattle.ultra_reading.specs.Cases.{AllHold, cases, other_sides}

pub starred : AllHold cases
unfolding number_at text_at size_suits body_check placed occurs place_check written_size decoded start types_before head_check bounds_check attribute_check attributes_answer used_length reading_of
starred = (
  λ p q r s t u v. (refl, refl),
  ((refl, refl), ((refl, refl), ((refl, refl), ((refl, refl), ((refl, refl), ((refl, refl), ((refl, refl), ((refl, refl), ((refl, refl), (λ t e. rw e, (λ t e. rw e, (λ t e. rw e, tt)))))))))))),
)

pub other_sides_law : AllHold other_sides
unfolding number_at placed occurs place_check start types_before head_check bounds_check attribute_check attributes_answer used_length reading_of
other_sides_law = ((refl, refl), ((refl, refl), ((refl, refl), ((refl, refl), ((refl, refl), ((refl, refl), ((refl, refl), ((refl, refl), tt))))))))

-- the context of document 01's listing is accepted, with version 1.0 and used length 480
pub listed_accepted : reading_of listed_bytes ≡ read_as (record { major = 1; minor = 0 }) 480
unfolding number_at text_at bytes_at entries_at every size_suits values kernel_values texts ascii_text path_text ranges ordered entries_ordered body_check placed occurs place_check decoded start types_before head_check bounds_check attribute_check attributes_answer used_length reading_of
listed_accepted = refl

-- a context with every type is accepted, with no silent byte zero, and its used length is not the buffer's
pub every_type_accepted : reading_of every_type_bytes ≡ read_as (record { major = 2; minor = 7 }) 688
unfolding number_at text_at bytes_at entries_at every size_suits values kernel_values module_values bpp_suits framebuffer_values texts ascii_text path_text ranges ordered entries_ordered body_check placed occurs place_check decoded start types_before head_check bounds_check attribute_check attributes_answer used_length reading_of
every_type_accepted = refl

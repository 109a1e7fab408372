-- The examples hold, by computing the definitions.
use mathlib.Core.Path.{refl}
use Rattle.words.specs.Words.{number_at}
use Rattle.byte_layout.specs.Stored.{bytes_at, text_at}
use Rattle.key_value_text.specs.Lines.{value_bytes, line_bytes}
use Rattle.text_output.specs.Spelling.{each, digits, hex_digit, is_escaped, spelled}
use Rattle.ultra_format.specs.Contexts.{total}
use Rattle.ultra_format.specs.Members.{every, size_suits, values, kernel_values, module_values, bpp_suits, framebuffer_values, texts, ascii_text, path_text, ranges, ordered, entries_ordered, body_check}
use Rattle.ultra_format.specs.Places.{placed, occurs, place_check}
use Rattle.ultra_format.specs.Decoding.{entries_at, decoded, start, attributes_from, context_of, types_before}
use Rattle.ultra_stepping.specs.Checks.{head_check, bounds_check}
use Rattle.ultra_reading.specs.Reading.{attribute_check, attributes_answer, used_length}
use Rattle.listing_format.specs.Listing.{range_lines, body_lines, attributes_lines, context_lines, lines_of, listed}
use Rattle.listing_format.specs.Examples.{Examples}

pub examples : Examples
unfolding number_at bytes_at text_at value_bytes line_bytes each digits hex_digit is_escaped spelled total every size_suits values kernel_values module_values bpp_suits framebuffer_values texts ascii_text path_text ranges ordered entries_ordered body_check placed occurs place_check entries_at decoded start attributes_from context_of types_before head_check bounds_check attribute_check attributes_answer used_length range_lines body_lines attributes_lines context_lines lines_of listed
examples = record { listed = refl; every_type = refl; short = refl; refused = refl; fits = refl; roomy = refl; too_short = refl; escapes = refl; zero = refl; nine = refl; ten = refl; largest = refl }

-- The examples hold: by computation.
use mathlib.Core.Path.{refl}
use Rattle.words.specs.Words.{number_at, numbers_at, numbers_bytes}
use Rattle.byte_layout.specs.Stored.{text_at, bytes_at}
use Rattle.ultra_format.specs.Members.{every, size_suits, values, kernel_values, module_values, bpp_suits, framebuffer_values, texts, ascii_text, path_text, ranges, ordered, entries_ordered, body_check}
use Rattle.ultra_format.specs.Contexts.{total}
use Rattle.ultra_format.specs.Places.{placed, occurs, place_check}
use Rattle.ultra_format.specs.Decoding.{entries_at, decoded, start, types_before, attributes_from, context_of}
use Rattle.ultra_stepping.specs.Checks.{head_check, bounds_check}
use Rattle.ultra_reading.specs.Reading.{attribute_check, attributes_answer, used_length, reading_of}
use Rattle.ultra_stepping.specs.Stepping.{cursor_check, step_of}
use Rattle.ultra_questions.specs.Parts.{body_part}
use Rattle.ultra_locating.specs.Searching.{first}
use Rattle.ultra_questions.specs.AttributeQuestion.{attribute_start}
use Rattle.ultra_questions.specs.CommandLineQuestion.{line_found, command_line_part}
use Rattle.ultra_map_question.specs.MapQuestion.{numbers, map_copied, map_copied_bytes}
use Rattle.address_ranges.specs.Ranges.{pages_cover}
use Rattle.ultra_questions.specs.ModuleQuestion.{module_holding}
use Rattle.ultra.specs.Examples.{Examples}

pub examples : Examples
unfolding number_at numbers_at numbers_bytes text_at bytes_at entries_at every size_suits values kernel_values module_values bpp_suits framebuffer_values texts ascii_text path_text ranges ordered entries_ordered body_check placed occurs place_check decoded start types_before attributes_from context_of total first body_part head_check bounds_check attribute_check attributes_answer used_length reading_of cursor_check step_of attribute_start line_found command_line_part numbers map_copied map_copied_bytes pages_cover module_holding
examples =
    record {
      used = refl;
      header = refl;
      next = refl;
      end = refl;
      kernel = refl;
      past = refl;
      line = refl;
      copied = refl;
      short = refl;
      before = refl;
      held = refl;
      last_byte = refl;
      after = refl;
      low = refl;
      no_line = refl;
      map = refl;
      map_left_over = refl;
      guids = refl;
      disk_guid = refl;
      partition_guid = refl;
    }

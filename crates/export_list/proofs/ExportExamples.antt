-- The two payloads, by computing.
use mathlib.Core.Path.{refl}
use Rattle.byte_layout.specs.Fields.{cells, filled}
use Rattle.handover_format.specs.PayloadLayouts.{entries_fields}
use Rattle.handover_format.specs.WrittenForm.{closed_if, strings, words_at, placed_from}
use Rattle.export_list.specs.ExportList.{tag_of, range_entries, pointer_entries, records_of, records_if, gathered, platform_or}
use Rattle.export_list.specs.ExportExamples.{ExportedBytes}

pub exported_bytes : ExportedBytes
unfolding cells filled entries_fields closed_if strings words_at placed_from tag_of range_entries pointer_entries records_of records_if gathered platform_or
exported_bytes = record { listed_exported = refl; mixed_exported = refl }

-- The examples: listed and every type by computing, from the contexts that their buffers hold; and what the statements say of them.
use Rattle.std.specs.Prelude.{Ok}
use Prim.Native.Nat.{ℕ}
use mathlib.Core.Path.{◌≡◌, refl, ap, ◌∙◌, subst}
use mathlib.Core.List.{List}
use native.Mathlib.Omega.{arith}
use lib.ListN.{take}
use Rattle.words.specs.Words.{number_at}
use Rattle.byte_layout.specs.Fields.{cells, filled}
use Rattle.byte_layout.specs.Stored.{bytes_at, text_at}
use Rattle.refusals.specs.Answers.{refused}
use Rattle.ultra_format.specs.Members.{every, size_suits, values, kernel_values, module_values, bpp_suits, framebuffer_values, texts, ascii_text, path_text, ranges, ordered, entries_ordered, body_check}
use Rattle.ultra_format.specs.Places.{placed, occurs, place_check}
use Rattle.ultra_format.specs.Decoding.{entries_at, decoded, start, attributes_from, context_of, types_before}
use Rattle.ultra_stepping.specs.Checks.{head_check, bounds_check}
use Rattle.ultra_reading.specs.Reading.{attribute_check, attributes_answer, used_length}
use Rattle.ultra_format.specs.Examples.{zeros, listed, listed_bytes, every_map, every_type, every_type_bytes}
use Rattle.ultra_format.proofs.Witness.{listed_meets, listed_opens, every_type_meets, every_type_opens}
use Rattle.ultra_acceptance.specs.Acceptance.{HoldsContext}
use Rattle.handover_format.specs.PayloadLayouts.{entries_fields}
use Rattle.handover_format.specs.WrittenForm.{closed_if, strings, words_at, placed_from}
use Rattle.handover_demand_3.specs.PayloadDemand3.{ReadingIs}
use Rattle.export_list.specs.ExportList.{tag_of, range_entries, pointer_entries, records_of, records_if, gathered, platform_or, export_list}
use Rattle.handover_export.specs.Exporting.{tests_of, context_exported, exported}
use Rattle.handover_exported.specs.ExportSays.{Asked.range, Asked.file, Asked.line, Asked.pointer, ExportSays}
use Rattle.handover_exported.specs.Witness.{out, every_type_payload, pointed, high, pages, Witnessed}
use Rattle.handover_exported.proofs.ExportRefusals.{of_context, reading_first}
use Rattle.handover_exported.proofs.Exports.{exports}
use Rattle.handover_exported.proofs.ExportSays.{export_says}

listed_held : HoldsContext 2 listed_bytes listed
listed_held = (listed_meets, listed_opens)

every_held : HoldsContext 2 every_type_bytes every_type
every_held = (every_type_meets, every_type_opens)

every_exported : exported every_type_bytes 1048576 (out 254) ≡ (Ok 254, every_type_payload)
unfolding cells filled entries_fields closed_if strings words_at placed_from tag_of range_entries pointer_entries records_of records_if gathered platform_or tests_of
every_exported = of_context every_type_bytes every_type 1048576 (out 254) every_held ∙ refl

-- ---- read back
reading : ReadingIs every_type_payload (export_list every_type 1048576)
reading =
    subst (λ (d : List ℕ). ReadingIs d (export_list every_type 1048576)) (ap (λ x. x.1) every_exported)
    (exports every_type_bytes every_type 1048576 (out 254) 254 every_held (ap (λ x. x.0) every_exported)).reads

says : ExportSays every_type 1048576
says = export_says every_type_bytes every_type 1048576 every_held

-- ---- the last byte is not lent
cut_short : used_length 2 (take 479 listed_bytes) ≡ refused 7 464
unfolding number_at text_at bytes_at entries_at every size_suits values kernel_values module_values bpp_suits framebuffer_values texts ascii_text path_text ranges ordered entries_ordered body_check placed occurs place_check decoded start types_before head_check bounds_check attribute_check attributes_answer used_length
cut_short = refl

-- ---- an RSDP address
pointer_top_law : (exported (pointed (high 236)) 0 (out 114)).0 ≡ Ok 114
unfolding number_at text_at bytes_at entries_at every size_suits values kernel_values texts ascii_text path_text ranges ordered entries_ordered body_check placed occurs place_check decoded start attributes_from context_of types_before head_check bounds_check attribute_check attributes_answer used_length closed_if strings tag_of pointer_entries records_of records_if gathered platform_or tests_of exported
pointer_top_law = refl

pointer_past_law : exported (pointed (high 237)) 0 (out 114) ≡ (refused 15 0, out 114)
unfolding number_at text_at bytes_at entries_at every size_suits values kernel_values texts ascii_text path_text ranges ordered entries_ordered body_check placed occurs place_check decoded start attributes_from context_of types_before head_check bounds_check attribute_check attributes_answer used_length closed_if strings tag_of pointer_entries records_of records_if gathered platform_or tests_of exported
pointer_past_law = refl

pointer_none_law : (exported (pointed (zeros 8)) 0 (out 82)).0 ≡ Ok 82
unfolding number_at text_at bytes_at entries_at every size_suits values kernel_values texts ascii_text path_text ranges ordered entries_ordered body_check placed occurs place_check decoded start attributes_from context_of types_before head_check bounds_check attribute_check attributes_answer used_length closed_if strings tag_of pointer_entries records_of records_if gathered platform_or tests_of exported
pointer_none_law = refl

pub witnessed : Witnessed
unfolding cells filled entries_fields closed_if strings words_at placed_from tag_of range_entries pointer_entries records_of records_if gathered platform_or tests_of pages
witnessed =
    let l : (load n : ℕ) → exported listed_bytes load (out n) ≡ context_exported listed load (out n) = λ load n. of_context listed_bytes listed load (out n) listed_held in
    record {
      whole = l 2097152 190 ∙ refl;
      exact = l 2097152 188 ∙ refl;
      short = l 2097152 187 ∙ refl;
      top = ap (λ x. x.0) (l 18446744073709551428 188) ∙ refl;
      past = l 18446744073709551429 187 ∙ refl;
      cut = reading_first (take 479 listed_bytes) 18446744073709551429 (out 187) _ cut_short;
      every_type_exported = every_exported;
      reads = reading.whole;
      agent = reading.agent;
      own = reading.each 0 (omega arith);
      file = reading.each 3 (omega arith);
      line = reading.each 4 (omega arith);
      second_range = says.ranges 2 every_map 1 (omega arith) refl (omega arith);
      range_then_pointer = says.order 0 3 _ _ (omega arith) (range 2 every_map 0 (omega arith) refl (omega arith)) (pointer 0 _ (omega arith) refl (λ z. omega arith));
      file_then_line = says.order 1 2 _ _ (omega arith) (file 3 _ (omega arith) refl) (line 4 _ (omega arith) refl);
      pointer_top = pointer_top_law;
      pointer_past = pointer_past_law;
      pointer_none = pointer_none_law;
      most = refl;
      many = refl;
    }

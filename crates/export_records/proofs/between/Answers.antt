-- `between` meets its contract: ranges, files, the command line and the pointer, each after those before it.
use Prim.Native.Nat.{ℕ}
use mathlib.Core.Path.{refl, ◌∙◌}
use mathlib.Core.List.{List, ◌++◌}
use Rattle.ultra_format.specs.Decoding.{context_of}
use Rattle.handover_format.specs.Payloads.{Entry}
use Rattle.export_list.specs.ExportList.{gathered}
use Rattle.export_records.specs.Rows.{RowsFit}
use Rattle.export_records.proofs.RowLaws.{rows_front, rows_rest, rows_step}
use Rattle.export_records.proofs.between.Goals as goal
use Rattle.export_records.proofs.between.Goals.{After-of_type-files, After-of_type-ranges}

-- those of a type, and what comes after the first one, two and three types
abbrev these : List ℕ → ℕ → List Entry
these b k = gathered k (context_of b).attributes

abbrev after_ranges : List ℕ → List Entry
after_ranges b = these b 4 ++ (these b 5 ++ these b 1)

abbrev after_files : List ℕ → List Entry
after_files b = these b 5 ++ these b 1

-- what is left fits
rest : (c : After-of_type-ranges) → RowsFit c.of_type-ranges.new.out c.of_type-ranges.result (after_ranges c.args.buf.now)
rest c =
    let b = c.args.buf.now in
    rows_rest c.args.out.now c.args.m (these b 3) (after_ranges b) (these b 3 ++ after_ranges b) refl c.requires.rows_fit _ _ c.of_type-ranges.ensures c.of_type-ranges.auto.out

rest2 : (c : After-of_type-files) → RowsFit c.of_type-files.new.out c.of_type-files.result (after_files c.args.buf.now)
rest2 c =
    let b = c.args.buf.now in
    let r = rows_rest c.args.out.now c.args.m (these b 3) (after_ranges b) (these b 3 ++ after_ranges b) refl c.requires.rows_fit _ _ c.of_type-ranges.ensures c.of_type-ranges.auto.out in
    rows_rest c.of_type-ranges.new.out c.of_type-ranges.result (these b 4) (after_files b) (after_ranges b) refl r _ _ c.of_type-files.ensures c.of_type-files.auto.out

pub of_type-ranges-requires : goal.of_type-ranges-requires
of_type-ranges-requires c =
    let b = c.args.buf.now in
    record { accepts = c.requires.accepts; rows_fit = rows_front c.args.out.now c.args.m (these b 3) (after_ranges b) (these b 3 ++ after_ranges b) refl c.requires.rows_fit }

pub of_type-files-requires : goal.of_type-files-requires
of_type-files-requires c =
    let b = c.args.buf.now in
    let r = rest (goal.at.of_type-files-requires c).After-of_type-ranges in
    record { accepts = c.requires.accepts; rows_fit = rows_front c.of_type-ranges.new.out c.of_type-ranges.result (these b 4) (after_files b) (after_ranges b) refl r }

pub of_type-line-requires : goal.of_type-line-requires
of_type-line-requires c =
    let b = c.args.buf.now in
    let f = rest2 (goal.at.of_type-line-requires c).After-of_type-files in
    record { accepts = c.requires.accepts; rows_fit = rows_front c.of_type-files.new.out c.of_type-files.result (these b 5) (these b 1) (after_files b) refl f }

pub of_type-requires : goal.of_type-requires
of_type-requires c =
    let b = c.args.buf.now in
    let f = rest2 (goal.at.of_type-requires c).After-of_type-files in
    record { accepts = c.requires.accepts; rows_fit = rows_rest c.of_type-files.new.out c.of_type-files.result (these b 5) (these b 1) (after_files b) refl f _ _ c.of_type-line.ensures c.of_type-line.auto.out }

pub returns : goal.returns
returns c =
    let b = c.args.buf.now in
    let r = rest (goal.at.returns c).After-of_type-ranges in
    let f = rest2 (goal.at.returns c).After-of_type-files in
    c.of_type.ensures
    ∙ rows_step c.of_type-files.new.out c.of_type-files.result (these b 5) (these b 1) (after_files b) refl f _ _ c.of_type-line.ensures c.of_type-line.auto.out
    ∙ rows_step c.of_type-ranges.new.out c.of_type-ranges.result (these b 4) (after_files b) (after_ranges b) refl r _ _ c.of_type-files.ensures c.of_type-files.auto.out
    ∙ rows_step c.args.out.now c.args.m (these b 3) (after_ranges b) (these b 3 ++ after_ranges b) refl c.requires.rows_fit _ _ c.of_type-ranges.ensures c.of_type-ranges.auto.out

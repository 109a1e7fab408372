-- `table` meets its contract: the agent's string, then those of the files, then the command line's.
use Prim.Native.Nat.{ℕ, ◌+◌, ◌≤◌}
use mathlib.Core.Path.{◌≡◌, refl, sym, ap₂, ◌∙◌}
use mathlib.Core.List.{List, ◌++◌}
use native.Mathlib.Omega.{arith}
use lib.ListN.{length}
use Rattle.byte_layout.specs.Stored.{text_at, closed}
use Rattle.ultra_format.specs.Decoding.{context_of}
use Rattle.ultra_locating.specs.Passing.{Accepts}
use Rattle.handover_format.specs.WrittenForm.{strings}
use Rattle.export_list.specs.ExportList.{gathered, between, agent_of}
use Rattle.export_list.proofs.FirstPlatform.{first_room, agent_is}
use Rattle.export_list.proofs.SelfLaws.{between_strings}
use Rattle.export_strings.proofs.PutLaws.{bytes_front, bytes_rest, bytes_step}
use Rattle.export_strings.proofs.table.Goals as goal
use Rattle.export_strings.proofs.table.Goals.{After-text-files}

-- the parts of the table
abbrev who : List ℕ → List ℕ
who b = closed (text_at b 24 32)

abbrev these : List ℕ → ℕ → List ℕ
these b k = strings (gathered k (context_of b).attributes)

abbrev all : List ℕ → List ℕ
all b = let x = context_of b in closed (agent_of x) ++ strings (between x.attributes)

parts : (b : List ℕ) → Accepts b → all b ≡ who b ++ (these b 4 ++ these b 5)
parts b a = ap₂ (λ (x y : List ℕ). closed x ++ y) (sym (agent_is b a)) (between_strings (context_of b).attributes)

-- there is room for what is left
rest : (c : After-text-files) → let b = c.args.buf.now in c.text-files.result + length (these b 4 ++ these b 5) ≤ length c.text-files.new.out
rest c =
    let b = c.args.buf.now in
    bytes_rest c.args.out.now c.args.to (who b) (these b 4 ++ these b 5) (all b) (parts b c.requires.accepts) c.requires.buf_in_bounds _ _ c.text-files.ensures c.text-files.auto.out

pub text-files-requires : goal.text-files-requires
text-files-requires c =
    let b = c.args.buf.now in
    (omega (arith, first_room b c.requires.accepts), bytes_front c.args.out.now c.args.to (who b) (these b 4 ++ these b 5) (all b) (parts b c.requires.accepts) c.requires.buf_in_bounds)

pub of_type-line-requires : goal.of_type-line-requires
of_type-line-requires c =
    let b = c.args.buf.now in
    let r = rest (goal.at.of_type-line-requires c).After-text-files in
    record { accepts = c.requires.accepts; buf_in_bounds = bytes_front c.text-files.new.out c.text-files.result (these b 4) (these b 5) (these b 4 ++ these b 5) refl r }

pub of_type-requires : goal.of_type-requires
of_type-requires c =
    let b = c.args.buf.now in
    let r = rest (goal.at.of_type-requires c).After-text-files in
    record { accepts = c.requires.accepts; buf_in_bounds = bytes_rest c.text-files.new.out c.text-files.result (these b 4) (these b 5) (these b 4 ++ these b 5) refl r _ _ c.of_type-line.ensures c.of_type-line.auto.out }

pub returns : goal.returns
returns c =
    let b = c.args.buf.now in
    let r = rest (goal.at.returns c).After-text-files in
    c.of_type.ensures
    ∙ bytes_step c.text-files.new.out c.text-files.result (these b 4) (these b 5) (these b 4 ++ these b 5) refl r _ _ c.of_type-line.ensures c.of_type-line.auto.out
    ∙ bytes_step c.args.out.now c.args.to (who b) (these b 4 ++ these b 5) (all b) (parts b c.requires.accepts) c.requires.buf_in_bounds _ _ c.text-files.ensures c.text-files.auto.out

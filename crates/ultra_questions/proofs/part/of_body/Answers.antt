-- `ultra_questions::part::of_body` meets its contract.
use Prim.Native.Nat.{◌+◌, ◌≤◌}
use mathlib.Core.Path.{ap, ◌∙◌}
use native.Mathlib.Omega.{arith}
use Rattle.ultra_format.proofs.Sizes.{line_least, map_size_law}
use Rattle.lent_buffers.specs.LentParts.{part}
use Rattle.ultra_questions.proofs.BodyLaws.{map_part, line_part, no_part_law}
use Rattle.ultra_questions.proofs.part.of_body.Goals as goal
use Rattle.ultra_questions.proofs.part.of_body.Goals.{Then-kind-eq-COMMAND_LINE, Then-kind-eq-MEMORY_MAP}

-- a map has 8 bytes
map_least : (c : Then-kind-eq-MEMORY_MAP) → 8 ≤ c.args.size
map_least c =
    omega (arith, map_size_law c.args.buf.now c.args.start c.args.size c.args.kind c.if-kind-eq-MEMORY_MAP.true c.requires.kind_value)

-- a command line has 16 bytes
least : (c : Then-kind-eq-COMMAND_LINE) → 16 ≤ c.args.size
least c =
    line_least c.args.buf.now c.args.start c.args.size c.args.kind c.if-kind-eq-COMMAND_LINE.true c.requires.kind_value

pub overflow_sub-result : goal.overflow_sub-result
overflow_sub-result c = omega (arith, map_least (goal.at.overflow_sub-result c).Then-kind-eq-MEMORY_MAP)

pub returns-then-kind-eq-MEMORY_MAP : goal.returns-then-kind-eq-MEMORY_MAP
returns-then-kind-eq-MEMORY_MAP c =
    map_part c.args.buf.now c.args.start c.args.size c.args.kind c.if-kind-eq-MEMORY_MAP.true c.requires.kind_value

pub overflow_sub-size : goal.overflow_sub-size
overflow_sub-size c = omega (arith, least (goal.at.overflow_sub-size c).Then-kind-eq-COMMAND_LINE)

pub text_length-length-requires : goal.text_length-length-requires
text_length-length-requires c = omega (arith, least (goal.at.text_length-length-requires c).Then-kind-eq-COMMAND_LINE)

pub returns-then-kind-eq-COMMAND_LINE : goal.returns-then-kind-eq-COMMAND_LINE
returns-then-kind-eq-COMMAND_LINE c =
    let s = c.args in
    ap (part (s.start + 8)) c.text_length-length.ensures.0 ∙ line_part s.buf.now s.start s.size s.kind c.if-kind-eq-COMMAND_LINE.true

pub returns : goal.returns
returns c =
    let s = c.args in
    c.no_part.ensures ∙ no_part_law s.buf.now s.start s.size s.kind c.if-kind-eq-MEMORY_MAP.false c.if-kind-eq-COMMAND_LINE.false

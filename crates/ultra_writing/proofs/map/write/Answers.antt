-- `map::write` meets its contract: after i turns the first i numbers are fields after the header.
use mathlib.Core.Path.{◌≡◌}
use mathlib.Core.List.{[], ◌∷◌}
use native.Mathlib.Omega.{arith}
use borrow.Author.Rules.{rules}
use lib.ListN.{length}
use lib.Seq.{take-length}
use Rattle.byte_layout.specs.Fields.{width, Field.number}
use Rattle.byte_layout.proofs.Written.{begun}
use Rattle.ultra_format.specs.Plain.{written_size}
use Rattle.ultra_format.specs.Additions.{body_given}
use Rattle.ultra_writing.specs.Leading.{header_fields}
use Rattle.ultra_writing.proofs.Entries.{entries_numbers, number_more}
use Rattle.ultra_writing.proofs.map.write.Goals as goal

pub loop-i-preserved : goal.loop-i-preserved
loop-i-preserved c =
    let ns = c.args.numbers.now in
    let hs = number 4 3 ∷ number 4 c.size-whole.result ∷ [] in
    (search rules, λ e h. number_more hs ns c.loop-i.i c.loop-i-test.true (c.loop-i.invariant.1 e h) c.store_u64.ensures)

pub returns : goal.returns
unfolding body_given written_size width
returns c =
    let e = c.args.part.now in
    let ns = c.args.numbers.now in
    let n : c.loop-i.i ≡ length ns = omega arith in
    let t = c.loop-i.invariant.1 e (begun e (header_fields 3 c.size-whole.result) c.header.ensures) in
    rw (← c.size-whole.ensures, entries_numbers ns c.requires.numbers_len.0) (rw (n, take-length) at t.front)

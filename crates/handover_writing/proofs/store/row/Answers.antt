-- `handover_writing::store::row` meets its contract.
use Prim.Native.Nat.{ℕ}
use mathlib.Core.Path.{sym, ap, ◌∙◌}
use native.Mathlib.Omega.{arith}
use native.Mathlib.Nat.{add-zero}
use Rattle.words.specs.Words.{little_endian, replaced}
use Rattle.byte_layout.specs.Fields.{Field.number}
use Rattle.byte_layout.proofs.Runs.{laid_none, laid_next}
use Rattle.handover_writing.proofs.store.row.Goals as goal

pub returns : goal.returns
returns c =
    let h = c.requires in
    let g = c.args.given in
    let s1 = laid_next (number 4 g.tag) (omega arith) (laid_none c.args.out.now c.args.at) (c.store_u32.ensures ∙ ap (λ (k : ℕ). replaced c.args.out.now k 4 (little_endian 4 g.tag)) (sym (add-zero c.args.at))) in
    let s2 = laid_next (number 4 g.flags) (omega arith) s1 c.store_u32-2.ensures in
    let s3 = laid_next (number 8 g.start) (omega arith) s2 c.store_u64.ensures in
    let s4 = laid_next (number 8 g.size) (omega arith) s3 c.store_u64-2.ensures in
    let s5 = laid_next (number 4 g.name) (omega arith) s4 c.store_u32-3.ensures in
    (laid_next (number 4 g.meta) (omega arith) s5 c.store_u32-4.ensures).laid

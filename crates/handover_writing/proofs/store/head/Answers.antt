-- `handover_writing::store::head` meets its contract.
use native.Mathlib.Omega.{arith}
use Rattle.byte_layout.specs.Fields.{Field.number}
use Rattle.byte_layout.proofs.Runs.{laid_none, laid_next}
use Rattle.handover_writing.proofs.store.head.Goals as goal

pub returns : goal.returns
returns c =
    let h = c.requires in
    let s1 = laid_next (number 4 3221336065) (omega arith) (laid_none c.args.out.now 0) c.store_u32.ensures in
    let s2 = laid_next (number 4 0) (omega arith) s1 c.store_u32-2.ensures in
    let s3 = laid_next (number 4 c.args.size) (omega arith) s2 c.store_u32-3.ensures in
    (laid_next (number 4 c.args.count) (omega arith) s3 c.store_u32-4.ensures).laid

-- `list` meets its contract.
use native.Mathlib.Omega.{arith}
use Rattle.ultra_listing.proofs.Written.{list_short, list_whole}
use Rattle.ultra_listing.proofs.list.Goals as goal

pub returns-then-out-listing_length : goal.returns-then-out-listing_length
returns-then-out-listing_length c =
    let a = c.args in
    list_short a.buf.now a.out.now c.new.result (omega (arith, c.listing_length.ensures, c.if-out-listing_length.true)) c.new.ensures

pub returns : goal.returns
returns c =
    let a = c.args in
    list_whole a.buf.now a.out.now _ _ (omega (arith, c.listing_length.ensures, c.if-out-listing_length.false)) c.write.ensures

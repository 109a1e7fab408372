-- `listing_length` meets its contract: no listing passes the last place that is counted.
use native.Mathlib.Omega.{arith}
use Rattle.key_value_text.proofs.Lengths.{text_place}
use Rattle.listing_format.proofs.Bounds.{listing_fits}
use Rattle.listing_format.specs.Listing.{listing}
use Rattle.ultra_listing.proofs.listing_length.Goals as goal

pub returns : goal.returns
returns c =
    let b = c.args.buf.now in
    text_place (listing b) _ (omega (arith, listing_fits b)) _ _ c.write.ensures

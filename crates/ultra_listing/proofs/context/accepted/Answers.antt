-- `context::accepted` meets its contract.
use Rattle.key_value_text.proofs.LinePuts.{lines_append}
use Rattle.listing_format.proofs.LineLaws.{context_lines_law}
use Rattle.ultra_listing.proofs.context.accepted.Goals as goal

pub returns : goal.returns
returns c =
    rw (
      context_lines_law c.args.buf.now,
      lines_append,
      ← c.two-after_version.ensures,
      ← (rw c.count.ensures at c.one-after_count.ensures),
      ← c.all-after_attributes.ensures,
    )
    (rw c.requires.used_value at c.one.ensures)

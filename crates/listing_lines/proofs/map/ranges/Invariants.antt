-- `map::ranges` meets its contract. The invariant: the ranges that are left, put from here on, lead to what all of them lead to.
use Prim.Native.Nat.{◌+◌, ◌-◌, ◌*◌}
use mathlib.Core.Path.{◌≡◌}
use Rattle.key_value_text.specs.LineOutput.{put_lines}
use Rattle.ultra_format.specs.Decoding.{entries_at}
use Rattle.listing_format.specs.Listing.{range_lines}
use Rattle.listing_lines.proofs.map.ranges.Given as goal

abbrev pub invariant-loop-i : goal.invariant-loop-i
invariant-loop-i l =
    put_lines (l.out, l.end) (range_lines (entries_at l.buf (l.at + 24 * l.i) (l.n - l.i))) ≡ put_lines (l.initial.out, l.to) (range_lines (entries_at l.buf l.at l.n))

-- `attributes::all` meets its contract. The invariant: `at` is where the attribute to come starts, and the attributes that are left, put from
-- here on, lead to what all of them lead to.
use Prim.Native.Nat.{◌-◌}
use mathlib.Core.Path.{◌≡◌}
use Rattle.key_value_text.specs.LineOutput.{put_lines}
use Rattle.ultra_format.specs.Decoding.{start, attributes_from}
use Rattle.listing_format.specs.Listing.{attributes_lines}
use Rattle.ultra_listing.proofs.attributes.all.Given as goal

abbrev pub invariant-loop : goal.invariant-loop
invariant-loop l = record {
  here : l.at ≡ start l.buf l.counter;
  leads : put_lines (l.out, l.end) (attributes_lines (attributes_from l.buf l.counter (l.count - l.counter))) ≡ put_lines (l.initial.out, l.to) (attributes_lines (attributes_from l.buf 0 l.count));
}

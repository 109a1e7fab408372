-- `ultra_rules::texts::ascii` meets its contract. The invariant: the whole text is as the rule says if and only if the rest is.
use Prim.Native.Nat.{◌+◌, ◌-◌}
use mathlib.Core.Path.{◌≡◌}
use Rattle.byte_layout.specs.Stored.{text_at}
use Rattle.ultra_format.specs.Members.{ascii_text}
use Rattle.ultra_rules.proofs.texts.ascii.Given as goal

abbrev pub invariant-loop-byte : goal.invariant-loop-byte
invariant-loop-byte l =
    ascii_text l.width (text_at l.bytes l.at l.width) ≡ ascii_text (l.width - l.byte-index) (text_at l.bytes (l.at + l.byte-index) (l.width - l.byte-index))

-- `handover_reading::strings::each` meets its contract. The invariant: the answer from record `i` on is the answer from the first on.
use Prim.Native.Nat.{◌-◌}
use mathlib.Core.Path.{◌≡◌}
use Rattle.handover_format.specs.Payloads.{record_start}
use Rattle.handover_reading.specs.PayloadReading.{named_check, each_of}
use Rattle.handover_reading.proofs.strings.each.Given as goal

abbrev pub invariant-loop-i : goal.invariant-loop-i
invariant-loop-i l =
    each_of (named_check l.buf (record_start l.count) (l.size - record_start l.count)) l.size l.i (l.count - l.i)
    ≡ each_of (named_check l.buf (record_start l.count) (l.size - record_start l.count)) l.size 0 l.count

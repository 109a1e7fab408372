-- `handover_reading::records::each` meets its contract. The invariant: the answer from record `i` on is the answer from the first on.
use Prim.Native.Nat.{◌-◌}
use mathlib.Core.Path.{◌≡◌}
use Rattle.handover_reading.specs.PayloadReading.{record_check, each_of}
use Rattle.handover_reading.proofs.records.each.Given as goal

abbrev pub invariant-loop-i : goal.invariant-loop-i
invariant-loop-i l = each_of (record_check l.buf l.count) l.size l.i (l.count - l.i) ≡ each_of (record_check l.buf l.count) l.size 0 l.count

-- `Row::put_numbers` counts no more numbers than there is place for.
use Rattle.std.proofs.Common.{length, ◌≡◌, ◌≤◌}
use Rattle.cases_text.proofs.table.Row.put_numbers.Given as goal

abbrev pub invariant-loop-digits : goal.invariant-loop-digits
invariant-loop-digits l = (length l.numbers ≡ length l.initial.numbers) × (l.count ≤ length l.numbers)

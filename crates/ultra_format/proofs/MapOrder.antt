-- The test on neighbours is the order by index.
use Prim.Native.Nat.{ℕ, zero, suc, ◌+◌, ◌≤◌, ◌<◌}
use mathlib.Core.Path.{◌≡◌, refl, subst}
use mathlib.Core.Bool.{Bool, true, false}
use mathlib.Core.List.{List, [], ◌∷◌}
use native.Mathlib.Omega.{arith}
use native.Mathlib.Nat.{not-suc-le-zero, le_of_suc-le-suc}
use lib.Dec.{ltb}
use borrow.Author.Tests.{leb-true, le-leb, ltb-true, ltb-false}
use Rattle.ultra_format.specs.Contexts.{Entry}
use Rattle.ultra_format.specs.Members.{starts_from, entries_ordered, ordered}
use Rattle.ultra_format.specs.MapOrder.{entry_in, InOrder, Apart, MapsOrdered}
use Rattle.refusals.proofs.Chains.{both_hold}

in_order_law : (es : List Entry) → entries_ordered es ≡ true → InOrder es
unfolding entries_ordered
in_order_law [] e i h = absurd (not-suc-le-zero h)
in_order_law (x ∷ []) e i h = absurd (omega arith)
in_order_law (x ∷ y ∷ es) e zero h = leb-true (x.address + x.size) y.address (both_hold (starts_from (x.address + x.size) (y ∷ es)) (entries_ordered (y ∷ es)) e).0
in_order_law (x ∷ y ∷ es) e (suc i) h =
    in_order_law (y ∷ es) (both_hold (starts_from (x.address + x.size) (y ∷ es)) (entries_ordered (y ∷ es)) e).1 i (le_of_suc-le-suc h)

tested : (es : List Entry) → InOrder es → entries_ordered es ≡ true
unfolding entries_ordered
tested [] h = refl
tested (x ∷ []) h = refl
tested (x ∷ y ∷ es) h = rw (le-leb (x.address + x.size) y.address (h 0 (omega arith)), tested (y ∷ es) (λ i k. h (suc i) (omega arith)))

-- an entry's address is at most its end, so the order carries over those between
apart : (es : List Entry) → InOrder es → Apart es
apart es h i zero g k = absurd (not-suc-le-zero g)
apart es h i (suc j) g k = go (ltb i j) refl (λ l. apart es h i j l (omega arith))
  where
    next : (entry_in es j).address + (entry_in es j).size ≤ (entry_in es (suc j)).address
    next = h j k

    go : (t : Bool) → ltb i j ≡ t → (i < j → (entry_in es i).address + (entry_in es i).size ≤ (entry_in es j).address)
        → (entry_in es i).address + (entry_in es i).size ≤ (entry_in es (suc j)).address
    go true e r = omega (arith, next, r (ltb-true i j e))
    go false e r =
        let l = ltb-false i j e in
        let q : j ≡ i = omega arith in
        subst (λ (n : ℕ). (entry_in es n).address + (entry_in es n).size ≤ (entry_in es (suc j)).address) q next

pub map_order : MapsOrdered
unfolding ordered
map_order es = record { test = (in_order_law es, tested es); rule = (in_order_law es, tested es); apart = apart es }

-- The consequences, from the statement of demand 3 alone.
use Prim.Native.Nat.{ℕ, ◌≤◌}
use mathlib.Core.Path.{sym, ap, subst}
use mathlib.Core.List.{List, ◌++◌}
use native.Mathlib.Omega.{arith}
use lib.ListN.{length, take, set, length-set, length-append, get_or-append}
use lib.Seq.{length-take-le, get_or-take, get_or-set_other}
use Rattle.ultra_format.specs.Contexts.{Context, used}
use Rattle.ultra_format.specs.Layouts.{Silent}
use Rattle.ultra_reading.specs.Reading.{reading_number}
use Rattle.ultra_acceptance.specs.Acceptance.{DiffersInSilence}
use Rattle.demand_3.specs.Demand3.{Demand3}
use Rattle.demand_3.specs.Consequences.{HeldIn, StaysRead, Consequences}
use Rattle.demand_3.proofs.Demand3.{demand_3}

module _ (t : Demand3) where
  module _ (b : List ℕ) (c : Context) (h : HeldIn b c) where
    inside : used c ≤ length b
    inside = omega (arith, h.0.within)

    stays : (d : List ℕ) → DiffersInSilence c b d → StaysRead b d c
    stays d s = t.silent b d c h s

    overwrites : (i x : ℕ) → Silent c i → StaysRead b (set b i x) c
    overwrites i x z = stays (set b i x) (omega (arith, length-set b i x, inside), λ j k n. get_or-set_other b i j x 0 (λ e. n (subst (Silent c) (sym e) z)))

    cuts : StaysRead b (take (used c) b) c
    cuts = stays (take (used c) b) (omega (arith, length-take-le (used c) b inside), λ i k n. get_or-take (used c) b i 0 k)

    lengthens : (rest : List ℕ) → StaysRead b (b ++ rest) c
    lengthens rest = stays (b ++ rest) (omega (arith, length-append b rest, inside), λ i k n. get_or-append b rest 0 i (omega (arith, inside)))

  follows : Consequences
  follows =
      record {
        accepted =
            λ b v n y e.
            let s = (t.accepts b y).0 (ap reading_number e) in
            (s.0, s.1, t.one_length b s.0 v n s.1 e, t.reads b s.0 s.1, λ d h. t.one_list b d s.0 h s.1);
        refused = λ b c y n h. n ((t.accepts b y).1 (c, h));
        overwritten = λ b c i x h z. overwrites b c h i x z;
        cut = cuts;
        longer = λ b rest c h. lengthens b c h rest;
        alike = t.faithful;
      }

pub consequences : Consequences
consequences = follows demand_3

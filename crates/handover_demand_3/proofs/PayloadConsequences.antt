-- The consequences, from the statement of demand 3 alone, and from what is silent in the request's words.
use Prim.Native.Nat.{ℕ, ◌≤◌, min}
use mathlib.Core.Path.{sym, ap, subst}
use mathlib.Core.Logic.{⊎_elim}
use mathlib.Core.List.{List, ◌++◌}
use native.Mathlib.Omega.{arith}
use lib.ListN.{length, take, set, length-set, length-append, get_or-append}
use lib.Seq.{length-take-le, get_or-take, get_or-set_other}
use Rattle.refusals.specs.Answers.{number_of}
use Rattle.handover_format.specs.Payloads.{Payload}
use Rattle.handover_format.specs.PayloadLayouts.{Silent}
use Rattle.handover_format.proofs.Silence.{silent_plainly}
use Rattle.handover_demand_3.specs.PayloadDemand3.{DiffersInSilence, PayloadDemand3}
use Rattle.handover_demand_3.specs.PayloadConsequences.{HeldIn, StaysRead, SaysNothing, PayloadConsequences}
use Rattle.handover_demand_3.proofs.PayloadDemand3.{payload_demand_3}

module _ (t : PayloadDemand3) where
  module _ (b : List ℕ) (p : Payload) (h : HeldIn b p) where
    inside : p.size ≤ length b
    inside = omega (arith, h.0.within)

    stays : (d : List ℕ) → DiffersInSilence p b d → StaysRead b d p
    stays d s = t.silent b d p h s

    says_nothing : (i : ℕ) → SaysNothing p i → Silent p i
    says_nothing i z = let s = silent_plainly (min (length b) 65536) p h.0 i in ⊎_elim s.1 s.0.1 z

    overwrites : (i x : ℕ) → SaysNothing p i → StaysRead b (set b i x) p
    overwrites i x z =
        stays (set b i x) (omega (arith, length-set b i x, inside), λ j k n. get_or-set_other b i j x 0 (λ e. n (subst (Silent p) (sym e) (says_nothing i z))))

    cuts : StaysRead b (take p.size b) p
    cuts = stays (take p.size b) (omega (arith, length-take-le p.size b inside), λ i k n. get_or-take p.size b i 0 k)

    lengthens : (rest : List ℕ) → StaysRead b (b ++ rest) p
    lengthens rest = stays (b ++ rest) (omega (arith, length-append b rest, inside), λ i k n. get_or-append b rest 0 i (omega (arith, inside)))

  follows : PayloadConsequences
  follows =
      record {
        accepted =
            λ b n y e.
            let s = (t.accepts b y).0 (ap number_of e) in
            (s.0, s.1, t.one_length b s.0 n s.1 e, t.reads b s.0 s.1, λ q h. t.one_list b q s.0 h s.1);
        refused = λ b p y n h. n ((t.accepts b y).1 (p, h));
        overwritten = λ b p i x h z. overwrites b p h i x z;
        cut = cuts;
        longer = λ b rest p h. lengthens b p h rest;
        alike = t.faithful;
      }

pub payload_consequences : PayloadConsequences
payload_consequences = follows payload_demand_3

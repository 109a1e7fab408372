-- A buffer that holds the context of additions reads back as those additions.
use Prim.Native.Nat.{ℕ, zero, suc, ◌<◌}
use mathlib.Core.Path.{◌≡◌, refl, sym, ap, ap₂, ◌∙◌, subst}
use mathlib.Core.List.{List, [], ◌∷◌}
use native.Mathlib.Nat.{not-suc-le-zero, le_of_suc-le-suc}
use lib.ListN.{length, get_or}
use Rattle.ultra_format.specs.Contexts.{type_of, Attribute, Context, count, attribute_at, start_in, size_at, body_at}
use Rattle.ultra_format.specs.Additions.{Addition, attribute_given}
use Rattle.ultra_format.specs.Additions.{Addition.add_command_line}
use Rattle.ultra_format.proofs.Attributes.{body_fits}
use Rattle.ultra_acceptance.specs.Acceptance.{HoldsContext}
use Rattle.demand_3.proofs.Demand3.{demand_3}
use Rattle.demand_2.specs.Model.{attributes_given, context_given, giving}
use Rattle.demand_2.specs.Demand2.{record_back, record_at, ReadsBack}
use Rattle.demand_2.proofs.Additions.{given_type}
use Rattle.demand_2.proofs.Following.{Added, length_given_law}
use Rattle.demand_2.proofs.Records.{record_answered_law, giving_given}

-- ---- any context without a type from 7 up: the record answered is the one that gives the body
pub record_at_law : (b : List ℕ) (c : Context) → HoldsContext 2 b c → (i : ℕ) → i < count c → type_of (body_at c i) < 7 → record_at b i ≡ giving (body_at c i) ∷ []
record_at_law b c h i k t =
    let r = demand_3.reads b c h in
    ap₂ record_back (r.each i k) (r.parts i k)
    ∙ record_answered_law (start_in c.attributes i) (size_at c i) (body_at c i) (h.0.each i k).type_suits t (body_fits h.0 i k)

-- ---- that of additions
pub at_given : (gs : List Addition) (i : ℕ) → i < length gs → attribute_at (context_given gs) i ≡ attribute_given (get_or gs i (add_command_line []))
unfolding attributes_given
at_given [] i h = absurd (not-suc-le-zero h)
at_given (g ∷ gs) zero h = refl
at_given (g ∷ gs) (suc i) h = at_given gs i (le_of_suc-le-suc h)

pub reads_back_law : (b : List ℕ) (gs : List Addition) → HoldsContext 2 b (context_given gs) → Added gs → ReadsBack b gs
reads_back_law b gs h a =
    let c = context_given gs in
    let r = demand_3.reads b c h in
    record {
      whole = r.whole;
      each = λ i k.
          let g = get_or gs i (add_command_line []) in
          let q = at_given gs i k in
          record_at_law b c h i (rw length_given_law k) (subst (λ (t : Attribute). type_of t.body < 7) (sym q) (given_type g).2)
          ∙ ap (λ (x : Addition). x ∷ []) (ap (λ (t : Attribute). giving t.body) q ∙ giving_given g (a i k).0 (a i k).1);
      past = λ i k. r.past i (rw length_given_law k);
    }

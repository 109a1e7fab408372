-- What is answered after calls, from the demand and from the list and the answer of the model, which witnesses find by computation.
use Rattle.std.specs.Prelude.{Ok}
use Prim.Native.Nat.{ℕ, ◌≤◌}
use mathlib.Core.Path.{◌≡◌, ap, ◌∙◌, subst}
use mathlib.Core.List.{List, []}
use lib.ListN.{length}
use Rattle.lent_buffers.specs.Room.{room_of}
use Rattle.ultra_format.specs.Additions.{Addition}
use Rattle.ultra_format.specs.declared.records.ModuleRecord.{ModuleRecord}
use Rattle.ultra_building.specs.Building.{begun}
use Rattle.demand_2.specs.Calls.{Write.add_modules, Call.write, Reply}
use Rattle.demand_2.specs.CallsFromC.{AnyCall, in_rattle, run_any}
use Rattle.demand_2.specs.Arguments.{ModulesTyped, AllTyped}
use Rattle.demand_2.specs.Model.{context_given, list_after_all, any_reply}
use Rattle.demand_2.specs.Demand2.{Undetermined, adds, buffer_now, list_now}
use Rattle.demand_2.specs.Witness.{six_additions, one, two}
use Rattle.demand_2.proofs.Demand2.{demand_2}

-- what is asked of several modules, and of no other call
abbrev pub ModulesOf : AnyCall → Type 0
ModulesOf k = (ms : List ModuleRecord) → in_rattle k ≡ write (add_modules ms) → ModulesTyped ms

-- the calls ks, which leave the list gs in the room
module _ (b : List ℕ) (room : ℕ) (e : room_of b ≡ room) (long : 8 ≤ length b) (ks : List AnyCall) (gs : List Addition) (l : list_after_all room ks [] ≡ gs) where
  pub begins : (begun b).0 ≡ Ok 8
  begins = (demand_2.begins b long).0

  pub list_now_law : list_now b ks ≡ gs
  list_now_law = ap (λ (n : ℕ). list_after_all n ks []) e ∙ l

  pub answered : AllTyped ks → (k : AnyCall) → ModulesOf k → (Undetermined room (context_given gs) (in_rattle k) → ⊥) → (r : Reply) → any_reply room k gs ≡ r → (run_any k (buffer_now b ks)).0 ≡ r
  answered y k m n r a =
      let q : Undetermined (room_of b) (context_given (list_now b ks)) (in_rattle k) ≡ Undetermined room (context_given gs) (in_rattle k) = λ i. Undetermined (e i) (context_given (list_now_law i)) (in_rattle k) in
      demand_2.answers b ks k begins y m (λ u. n (subst (λ (t : Type 0). t) q u)) ∙ (λ i. any_reply (e i) k (list_now_law i)) ∙ a

-- ---- one and two attributes
module _ (w : AllTyped (adds six_additions)) where
  pub typed_one : AllTyped (adds one)
  unfolding AllTyped adds
  typed_one = (w.0, tt)

  pub typed_two : AllTyped (adds two)
  unfolding AllTyped adds
  typed_two = (w.0, (w.1.0, tt))

-- Several modules in one call are single adds in a row: of a buffer that follows a list, of any buffer, and of any that holds a context.
use Rattle.std.specs.Prelude.{Ok, Err}
use Prim.Native.Nat.{ℕ, zero, suc, ◌+◌, ◌≤◌, ◌<◌}
use mathlib.Core.Path.{◌≡◌, refl, sym, ◌∙◌, subst}
use mathlib.Core.List.{List, [], ◌∷◌, append_assoc, append-nil}
use native.Mathlib.Nat.{not-suc-le-zero, le_of_suc-le-suc}
use native.Mathlib.Omega.{arith}
use lib.ListN.{length, take}
use Rattle.refusals.specs.Answers.{Answer}
use Rattle.ultra_format.specs.Contexts.{Attribute, Context}
use Rattle.ultra_format.specs.Additions.{Addition, Addition.add_module, attribute_given}
use Rattle.ultra_format.specs.declared.records.ModuleRecord.{ModuleRecord}
use Rattle.ultra_acceptance.specs.Acceptance.{HoldsContext}
use Rattle.ultra_modules.specs.declared.ModulesAdded.{ModulesAdded}
use Rattle.ultra_modules.specs.Modules.{answer_and_count, if_done, in_turn, module_added, modules_added}
use Rattle.ultra_modules.specs.OneByOne.{after_adds, single_add, Accepted}
use Rattle.ultra_modules.proofs.OneByOne.{module_number, one_by_one_law}
use Rattle.demand_2.specs.Calls.{run_write}
use Rattle.demand_2.specs.CallsFromC.{after, replies}
use Rattle.demand_2.specs.Arguments.{ModuleTyped, ModulesTyped}
use Rattle.demand_2.specs.Model.{attributes_given, module_listed}
use Rattle.demand_2.specs.Demand2.{adds, AllSucceeded, modules_given, with_modules}
use Rattle.demand_2.proofs.Appending.{appends}

-- ---- by a list
-- a relation of buffer and list that each single add keeps, with the same answer, is kept by several, with the same answer
module _ (room : ℕ) (Alike : List ℕ → List Addition → Type 0)
    (one : (d : List ℕ) (gs : List Addition) (m : ModuleRecord) → Alike d gs → ModuleTyped m
    → ((module_added d m).0 ≡ (module_listed room gs m).0) × Alike (module_added d m).1 (module_listed room gs m).1) where
  abbrev Both : ModulesAdded × List ℕ → ModulesAdded × List Addition → Type 0
  Both r s = (r.0 ≡ s.0) × Alike r.1 s.1

  pub alike : (a : Answer) (n : ℕ) (d : List ℕ) (gs : List Addition) (ms : List ModuleRecord) → Alike d gs → ModulesTyped ms
      → Both (in_turn module_added a n d ms) (in_turn (module_listed room) a n gs ms)
  unfolding in_turn
  alike a n d gs [] h y = (refl, h)
  alike a n d gs (m ∷ ms) h y =
      let s = one d gs m h y.0 in
      let rest : (x : Answer) → Both (in_turn module_added x (n + 1) (module_added d m).1 ms) (in_turn (module_listed room) x (n + 1) (module_listed room gs m).1 ms) =
      λ x. alike x (n + 1) (module_added d m).1 (module_listed room gs m).1 ms s.1 y.1 in
      subst (Next (module_added d m).0) s.0 (go (module_added d m).0 s.1 rest)
    where
      Next : Answer → Answer → Type 0
      Next x z =
          Both (if_done x (in_turn module_added x (n + 1) (module_added d m).1 ms) (answer_and_count x n, (module_added d m).1))
          (if_done z (in_turn (module_listed room) z (n + 1) (module_listed room gs m).1 ms) (answer_and_count z n, (module_listed room gs m).1))

      go : (x : Answer) → Alike (module_added d m).1 (module_listed room gs m).1
          → ((z : Answer) → Both (in_turn module_added z (n + 1) (module_added d m).1 ms) (in_turn (module_listed room) z (n + 1) (module_listed room gs m).1 ms))
          → Next x x
      go (Ok v) k rest = rest (Ok v)
      go (Err r) k rest = (refl, k)

-- ---- of any buffer
after_adds_law : (b : List ℕ) (ms : List ModuleRecord) → after_adds b ms ≡ after (adds (modules_given ms)) b
unfolding after_adds after adds modules_given run_write
after_adds_law b [] = refl
after_adds_law b (m ∷ ms) = after_adds_law (module_added b m).1 ms

-- the first n, where each is accepted
all_succeeded : (b : List ℕ) (ms : List ModuleRecord) (n : ℕ) → n ≤ length ms → ((i : ℕ) → i < n → Accepted (single_add b ms i))
    → AllSucceeded (replies (adds (modules_given (take n ms))) b)
unfolding after_adds AllSucceeded replies adds modules_given run_write
all_succeeded b ms zero l f = tt
all_succeeded b [] (suc n) l f = absurd (not-suc-le-zero l)
all_succeeded b (m ∷ ms) (suc n) l f =
    (((module_added b m).0, refl, f 0 (omega arith)), all_succeeded (module_added b m).1 ms n (le_of_suc-le-suc l) (λ i k. f (suc i) (omega arith)))

pub stays : (b : List ℕ) (ms : List ModuleRecord)
    → ((modules_added b ms).1 ≡ after (adds (modules_given (take (modules_added b ms).0.added ms))) b)
    × AllSucceeded (replies (adds (modules_given (take (modules_added b ms).0.added ms))) b)
stays b ms =
    let n = (modules_added b ms).0.added in
    let h = one_by_one_law b ms in
    (h.bytes ∙ after_adds_law b (take n ms), all_succeeded b ms n h.within h.accepted)

-- ---- of a buffer that holds a context
-- a single add that is accepted answers a used length
accepted : (b : List ℕ) (m : ModuleRecord) → Accepted (module_added b m) → (n : ℕ) × ((module_added b m).0 ≡ Ok n)
accepted b m z = go (module_added b m).0 refl
  where
    go : (a : Answer) → (module_added b m).0 ≡ a → (n : ℕ) × ((module_added b m).0 ≡ Ok n)
    go (Ok n) e = (n, e)
    go (Err r) e = absurd (module_number b m r e z)

first_held : (b : List ℕ) (c : Context) (ms : List ModuleRecord) (n : ℕ) → HoldsContext 0 b c → ModulesTyped ms → n ≤ length ms
    → ((i : ℕ) → i < n → Accepted (single_add b ms i)) → HoldsContext 0 (after_adds b (take n ms)) (with_modules c (take n ms))
unfolding after_adds modules_given attributes_given
first_held b c ms zero h y l f = rw append-nil h
first_held b c [] (suc n) h y l f = absurd (not-suc-le-zero l)
first_held b c (m ∷ ms) (suc n) h y l f =
    let k = accepted b m (f 0 (omega arith)) in
    let next = (appends b c (add_module m) k.0 h y.0 k.1).held in
    let more : List Attribute = attributes_given (modules_given (take n ms)) in
    subst (λ (l : List Attribute). HoldsContext 0 (after_adds (module_added b m).1 (take n ms)) (record { major = c.major; minor = c.minor; attributes = l }))
    (append_assoc c.attributes (attribute_given (add_module m) ∷ []) more)
    (first_held (module_added b m).1 _ ms n next y.1 (le_of_suc-le-suc l) (λ i w. f (suc i) (omega arith)))

pub appends_modules_law : (b : List ℕ) (c : Context) (ms : List ModuleRecord) → HoldsContext 0 b c → ModulesTyped ms
    → HoldsContext 0 (modules_added b ms).1 (with_modules c (take (modules_added b ms).0.added ms))
appends_modules_law b c ms h y =
    let o = one_by_one_law b ms in
    let n = (modules_added b ms).0.added in
    subst (λ (d : List ℕ). HoldsContext 0 d (with_modules c (take n ms))) (sym o.bytes) (first_held b c ms n h y o.within o.accepted)

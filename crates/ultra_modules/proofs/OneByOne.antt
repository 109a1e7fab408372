-- Proofs of the statements in specs/OneByOne.antt: the fold over the modules is the single adds, one after the other, up to the first that
-- is refused; and there is one such answer and buffer.
use Rattle.std.specs.Prelude.{Ok, Err}
use Prim.Native.Nat.{ℕ, zero, suc, ◌+◌, ◌≤◌, ◌<◌}
use mathlib.Core.Path.{◌≡◌, refl, sym, ap, ◌∙◌, subst}
use mathlib.Core.Bool.{Bool, true, false}
use mathlib.Core.Logic.{◌⊎◌, ◌⊎◌.inl, ◌⊎◌.inr}
use mathlib.Core.List.{List, [], ◌∷◌}
use native.Mathlib.Nat.{not-suc-le-zero, le_of_suc-le-suc}
use native.Mathlib.Omega.{arith}
use lib.ListN.{length, take}
use lib.Dec.{ltb}
use borrow.Author.Tests.{ltb-true, ltb-false}
use Rattle.refusals.specs.Answers.{Answer, number_of, or_refused}
use Rattle.refusals.specs.declared.Refusal.{Refusal}
use Rattle.ultra_format.specs.Contexts.{Body, type_of}
use Rattle.lent_buffers.specs.Room.{room_of}
use Rattle.ultra_format.specs.Decoding.{stored_count, types_before}
use Rattle.ultra_format.specs.Plain.{written_size}
use Rattle.ultra_format.specs.Additions.{Addition.add_module, body_given, given_check}
use Rattle.ultra_format.specs.declared.records.ModuleRecord.{ModuleRecord}
use Rattle.ultra_reading.specs.Reading.{used_length}
use Rattle.ultra_acceptance.proofs.Acceptance.{used_number}
use Rattle.ultra_appending.specs.Appending.{append_check, append_offset_in, append_offset}
use Rattle.ultra_adding.specs.Adding.{added_at, added_members}
use Rattle.ultra_building.proofs.AddingRefusals.{adding_refuses, refused_add_keeps}
use Rattle.ultra_modules.specs.declared.ModulesAdded.{ModulesAdded}
use Rattle.ultra_modules.specs.Modules.{answer_and_count, module_at, if_done, in_turn, module_added, modules_added}
use Rattle.ultra_modules.specs.OneByOne.{after_adds, single_add, Accepted, OneByOne, OneByOneExactly, NextRefused, ModulesRefuse, EveryList}
use Rattle.ultra_modules.proofs.StoredBytes.{after_bytes}

-- ---- an add that is refused
clash : {P : Type 0} {v : ℕ} {r : Refusal} → Ok v ≡ Err r → P
clash e = absurd (let z : ◌≡◌ {A = ℕ} 0 1 = cc in omega arith)

same_number : (q r : Refusal) → ◌≡◌ {A = Answer} (Err q) (Err r) → q.number ≡ r.number
same_number q r e = let s : q ≡ r = cc in ap (λ (w : Refusal). w.number) s

-- its number is not 0
add_number : (b : List ℕ) (f : Bool) (x : Body) (r : Refusal) → (added_members b f x).0 ≡ Err r → r.number ≡ 0 → ⊥
unfolding added_members append_offset
add_number b f x r e z = go (used_length 0 b) refl e
  where
    tried : (n v : ℕ) → (added_at b x (or_refused n v (Ok v))).0 ≡ Err r → ⊥
    tried zero v w = clash w
    tried (suc n) v w = omega (arith, same_number _ r w, z)

    go : (a : Answer) → used_length 0 b ≡ a → (added_at b x (append_offset_in b (type_of x) (given_check f x) (written_size x) a)).0 ≡ Err r → ⊥
    go (Err q) u w = used_number 0 b q u (same_number q r w ∙ z)
    go (Ok v) u w = tried (append_check (types_before b (stored_count b)) (room_of b) v (type_of x) (given_check f x) (written_size x)) v w

pub module_number : (b : List ℕ) (m : ModuleRecord) (r : Refusal) → (module_added b m).0 ≡ Err r → Accepted (module_added b m) → ⊥
module_number b m r e z = add_number b true (body_given (add_module m)) r e (sym (ap number_of e) ∙ z)

module_kept : (b : List ℕ) (m : ModuleRecord) (r : Refusal) → (module_added b m).0 ≡ Err r → (module_added b m).1 ≡ b
module_kept b m r e = refused_add_keeps b true (body_given (add_module m)) r e

-- ---- the fold
-- of the modules ms, n more were added to b, where the one before answered a; then x was answered, and d left
record Adds (a : Answer) (b : List ℕ) (ms : List ModuleRecord) (n : ℕ) (x : Answer) (d : List ℕ) : Type 0 where
  within : n ≤ length ms
  accepted : (i : ℕ) → i < n → Accepted (single_add b ms i)
  bytes : d ≡ after_adds b (take n ms)
  refused : n < length ms → (Accepted (single_add b ms n) → ⊥) × (single_add b ms n ≡ (x, d))
  last : (k : ℕ) → length ms ≡ suc k → n ≡ suc k → x ≡ (single_add b ms k).0
  none : length ms ≡ zero → x ≡ a

adds_none : (a : Answer) (b : List ℕ) → Adds a b [] zero a b
unfolding after_adds
adds_none a b =
    record {
      within = omega arith;
      accepted = λ i l. absurd (not-suc-le-zero l);
      bytes = refl;
      refused = λ l. absurd (not-suc-le-zero l);
      last = λ k e f. absurd (omega arith);
      none = λ e. refl;
    }

module _ (a : Answer) (b : List ℕ) (m : ModuleRecord) (ms : List ModuleRecord) where
  -- the next is accepted, and the others are added after it
  adds_done : (n v : ℕ) (x : Answer) (d : List ℕ) → (module_added b m).0 ≡ Ok v → Adds (Ok v) (module_added b m).1 ms n x d → Adds a b (m ∷ ms) (suc n) x d
  unfolding after_adds
  adds_done n v x d e h =
      record {
        within = omega (arith, h.within);
        accepted = each;
        bytes = h.bytes;
        refused = λ l. h.refused (le_of_suc-le-suc l);
        last = ends;
        none = λ z. absurd (omega arith);
      }
    where
      each : (i : ℕ) → i < suc n → Accepted (single_add b (m ∷ ms) i)
      each zero l = ap number_of e
      each (suc i) l = h.accepted i (le_of_suc-le-suc l)

      ends : (k : ℕ) → length (m ∷ ms) ≡ suc k → suc n ≡ suc k → x ≡ (single_add b (m ∷ ms) k).0
      ends zero p q = h.none (omega arith) ∙ sym e
      ends (suc k) p q = h.last k (omega arith) (omega arith)

  -- the next is refused
  adds_refused : (r : Refusal) → (module_added b m).0 ≡ Err r → Adds a b (m ∷ ms) zero (Err r) (module_added b m).1
  unfolding after_adds
  adds_refused r e =
      record {
        within = omega arith;
        accepted = λ i l. absurd (not-suc-le-zero l);
        bytes = module_kept b m r e;
        refused = λ l. (module_number b m r e, λ i. (e i, (module_added b m).1));
        last = λ k p q. absurd (omega arith);
        none = λ z. absurd (omega arith);
      }

-- what was answered before k were added to what is left
abbrev Turned : Answer → ℕ → List ℕ → List ModuleRecord → ModulesAdded × List ℕ → Type 0
Turned a k b ms r = (n : ℕ) × (r.0.added ≡ k + n) × Adds a b ms n r.0.answer r.1

turned : (a : Answer) (k : ℕ) (b : List ℕ) (ms : List ModuleRecord) → Turned a k b ms (in_turn module_added a k b ms)
unfolding in_turn
turned a k b [] = (0, omega arith, adds_none a b)
turned a k b (m ∷ ms) = go (module_added b m).0 refl (λ (x : Answer). turned x (k + 1) (module_added b m).1 ms)
  where
    go : (x : Answer) → (module_added b m).0 ≡ x
        → ((y : Answer) → Turned y (k + 1) (module_added b m).1 ms (in_turn module_added y (k + 1) (module_added b m).1 ms))
        → Turned a k b (m ∷ ms) (if_done x (in_turn module_added x (k + 1) (module_added b m).1 ms) (answer_and_count x k, (module_added b m).1))
    go (Ok v) e rest = let h = rest (Ok v) in (suc h.0, omega (arith, h.1), adds_done a b m ms h.0 v _ _ e h.2)
    go (Err r) e rest = (0, omega arith, adds_refused a b m ms r e)

pub one_by_one_law : (b : List ℕ) (ms : List ModuleRecord) → OneByOne b ms (modules_added b ms).0 (modules_added b ms).1
unfolding modules_added
one_by_one_law b ms =
    let t = turned (Ok 0) 0 b ms in
    let e : t.0 ≡ (modules_added b ms).0.added = omega (arith, t.1) in
    let h = subst (λ (n : ℕ). Adds (Ok 0) b ms n (modules_added b ms).0.answer (modules_added b ms).1) e t.2 in
    record { within = h.within; accepted = h.accepted; bytes = h.bytes; refused = h.refused; last = h.last; none = h.none }

-- ---- there is no other
module _ (b : List ℕ) (ms : List ModuleRecord) (r s : ModulesAdded) (d e : List ℕ) (h : OneByOne b ms r d) (k : OneByOne b ms s e) where
  no_fewer : r.added < s.added → ⊥
  no_fewer l = (h.refused (omega (arith, k.within))).0 (k.accepted r.added l)

module _ (b : List ℕ) (ms : List ModuleRecord) (r s : ModulesAdded) (d e : List ℕ) (h : OneByOne b ms r d) (k : OneByOne b ms s e) where
  same_count : r.added ≡ s.added
  same_count =
      let p : r.added < s.added → ⊥ = no_fewer b ms r s d e h k in
      let q : s.added < r.added → ⊥ = no_fewer b ms s r e d k h in
      omega arith

  same_answer : r.answer ≡ s.answer
  same_answer = go (length ms) refl (ltb r.added (length ms)) refl
    where
      go : (n : ℕ) → length ms ≡ n → (t : Bool) → ltb r.added (length ms) ≡ t → r.answer ≡ s.answer
      go n l true u =
          let p = ltb-true r.added (length ms) u in
          ap (λ (x : Answer × List ℕ). x.0) (sym (h.refused p).1 ∙ ap (single_add b ms) same_count ∙ (k.refused (omega (arith, same_count))).1)
      go zero l false u = h.none l ∙ sym (k.none l)
      go (suc n) l false u =
          let p : r.added ≡ suc n = omega (arith, ltb-false r.added (length ms) u, h.within) in
          h.last n l p ∙ sym (k.last n l (sym same_count ∙ p))

  same : ◌≡◌ {A = ModulesAdded × List ℕ} (r, d) (s, e)
  same =
      let p = same_answer in
      let q = same_count in
      let z : d ≡ e = h.bytes ∙ ap (λ (n : ℕ). after_adds b (take n ms)) q ∙ sym k.bytes in
      λ i. (answer_and_count (p i) (q i), z i)

pub one_by_one_exactly : OneByOneExactly
one_by_one_exactly b ms r d = (
  λ e. subst (λ (p : ModulesAdded × List ℕ). OneByOne b ms p.0 p.1) (sym e) (one_by_one_law b ms),
  λ h. same b ms r (modules_added b ms).0 d (modules_added b ms).1 h (one_by_one_law b ms),
)

-- ---- when it refuses
module _ (b : List ℕ) (ms : List ModuleRecord) (n : ℕ) (r : Refusal) where
  abbrev met : List ℕ
  met = after_adds b (take n ms)

  -- not all were added
  more_left : (d : List ℕ) → OneByOne b ms (answer_and_count (Err r) n) d → n < length ms
  more_left d h = go (length ms) refl (ltb n (length ms)) refl
    where
      go : (k : ℕ) → length ms ≡ k → (t : Bool) → ltb n (length ms) ≡ t → n < length ms
      go k l true u = ltb-true n (length ms) u
      go zero l false u = clash (sym (h.none l))
      go (suc k) l false u =
          let p : n ≡ suc k = omega (arith, ltb-false n (length ms) u, h.within) in
          absurd (module_number (after_adds b (take k ms)) (module_at ms k) r (sym (h.last k l p)) (h.accepted k (omega arith)))

  told : (d : List ℕ) → OneByOne b ms (answer_and_count (Err r) n) d → (added_members met true (body_given (add_module (module_at ms n)))).0 ≡ Err r
  told d h = ap (λ (x : Answer × List ℕ). x.0) (h.refused (more_left d h)).1

  from_single : n < length ms → ((i : ℕ) → i < n → Accepted (single_add b ms i)) → (single_add b ms n).0 ≡ Err r → OneByOne b ms (answer_and_count (Err r) n) met
  from_single l each e =
      record {
        within = omega arith;
        accepted = each;
        bytes = refl;
        refused = λ w. (module_number met (module_at ms n) r e, λ i. (e i, module_kept met (module_at ms n) r e i));
        last = λ k p q. absurd (omega arith);
        none = λ z. absurd (omega arith);
      }

pub modules_refuse : ModulesRefuse
modules_refuse b ms n r y =
    let given = body_given (add_module (module_at ms n)) in
    let z = after_bytes b (take n ms) y in (
      λ e.
          let h = subst (λ (s : ModulesAdded). OneByOne b ms s (modules_added b ms).1) e (one_by_one_law b ms) in
          (more_left b ms n r _ h, h.accepted, (adding_refuses (met b ms n r) true given r z).0 (told b ms n r _ h)),
      λ h.
          let o = from_single b ms n r h.0 h.1 ((adding_refuses (met b ms n r) true given r z).1 h.2) in
          sym (ap (λ (p : ModulesAdded × List ℕ). p.0) ((one_by_one_exactly b ms (answer_and_count (Err r) n) (met b ms n r)).1 o)),
    )

-- ---- one or the other
-- where the answer is a success, all were added
all_added : (b : List ℕ) (ms : List ModuleRecord) (r : ModulesAdded) (d : List ℕ) (v : ℕ) → OneByOne b ms r d → r.answer ≡ Ok v → r.added ≡ length ms
all_added b ms r d v h e = go (ltb r.added (length ms)) refl
  where
    go : (t : Bool) → ltb r.added (length ms) ≡ t → r.added ≡ length ms
    go true u =
        let p = h.refused (ltb-true r.added (length ms) u) in
        absurd (p.0 (ap (λ (x : Answer × List ℕ). number_of x.0) p.1 ∙ ap number_of e))
    go false u = omega (arith, ltb-false r.added (length ms) u, h.within)

pub every_list : EveryList
every_list b ms y = go (modules_added b ms).0.answer refl
  where
    r : ModulesAdded
    r = (modules_added b ms).0

    go : (a : Answer) → r.answer ≡ a
        → ((used : ℕ) × (r ≡ answer_and_count (Ok used) (length ms)))
        ⊎ ((n : ℕ) × (w : Refusal) × (r ≡ answer_and_count (Err w) n) × (n < length ms) × NextRefused b ms n w)
    go (Ok v) e = inl (v, λ i. answer_and_count (e i) (all_added b ms r (modules_added b ms).1 v (one_by_one_law b ms) e i))
    go (Err w) e =
        let q : r ≡ answer_and_count (Err w) r.added = λ i. answer_and_count (e i) r.added in
        let k = (modules_refuse b ms r.added w y).0 q in
        inr (r.added, w, q, k.0, k.2)

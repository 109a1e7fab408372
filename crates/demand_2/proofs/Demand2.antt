-- Demand 2 holds. The calls keep buffer and list alike (Following) and answer by the list (Replies), and what is read back of a buffer
-- are the records of its attributes (ReadingBack, Rebuilding).
use Rattle.std.specs.Prelude.{Ok, Err}
use Prim.Native.Nat.{ℕ, ◌+◌, ◌-◌, ◌≤◌, ◌<◌}
use mathlib.Core.Path.{◌≡◌, refl, ap, ◌∙◌, subst, sym}
use mathlib.Core.Bool.{Bool, true, false}
use mathlib.Core.List.{List, []}
use native.Mathlib.Omega.{arith}
use lib.ListN.{length, drop, get_or}
use lib.Dec.{leb}
use borrow.Author.Tests.{leb-true, lt-leb}
use lib.Seq.{get_or-drop, get_or-append-add}
use Rattle.byte_layout.specs.Stored.{over}
use Rattle.refusals.specs.Refusals.{SHORT}
use Rattle.refusals.specs.Answers.{Answer, refused, number_of}
use Rattle.lent_buffers.specs.Room.{room_of}
use Rattle.ultra_format.specs.Decoding.{pick}
use Rattle.ultra_format.specs.Contexts.{Body, type_of}
use Rattle.ultra_format.specs.Plain.{written_size}
use Rattle.ultra_format.specs.Additions.{body_given, formed, given_check}
use Rattle.ultra_format.specs.declared.records.ModuleRecord.{ModuleRecord}
use Rattle.ultra_appending.specs.Appending.{append_offset}
use Rattle.ultra_adding.specs.Adding.{added_at, added_members}
use Rattle.ultra_building.specs.Building.{empty_head, begun}
use Rattle.ultra_acceptance.specs.Acceptance.{HoldsContext}
use Rattle.ultra_acceptance.specs.Steps.{StepsThrough}
use Rattle.ultra_acceptance.proofs.Steps.{stepping_through}
use Rattle.demand_2.specs.Calls.{members_formed, members_body, Write.begin, Write.add, Write.add_members, Write.add_modules}
use Rattle.demand_2.specs.Calls.{Call, Call.write, Call.ask, Reply.answer, run_write, run}
use Rattle.demand_2.specs.CallsFromC.{AnyCall, in_rattle, run_any}
use Rattle.demand_2.specs.Arguments.{ModulesTyped, AllTyped}
use Rattle.demand_2.specs.Model.{context_given, list_after_all, any_reply}
use Rattle.demand_2.specs.Demand2.{Follows, Undetermined, ReadsBack, buffer_now, list_now, Demand2}
use Rattle.demand_2.proofs.Appending.{appends}
use Rattle.demand_2.proofs.ModulesInTurn.{stays, appends_modules_law}
use Rattle.demand_2.proofs.Following.{Keeps, length_given_law, begun_is, begin_follows, crosses, same_room, follows_all}
use Rattle.demand_2.proofs.GivenMembers.{as_record_law}
use Rattle.demand_2.proofs.Replies.{held_two, any_reply_law}
use Rattle.demand_2.proofs.ReadingBack.{reads_back_law}
use Rattle.demand_2.proofs.Rebuilding.{rebuilds}

begins : (b : List ℕ) → 8 ≤ length b → ((begun b).0 ≡ Ok 8) × ((i : ℕ) → 8 ≤ i → get_or (begun b).1 i 0 ≡ get_or b i 0)
begins b h =
    rw (begun_is b h) (
      refl,
      λ i k.
          let q : i ≡ 8 + (i - 8) = omega arith in
          ap (λ (j : ℕ). get_or (over empty_head b) j 0) q ∙ get_or-append-add empty_head (drop 8 b) (i - 8) 0 ∙ get_or-drop 8 b (i - 8) 0 ∙ ap (λ (j : ℕ). get_or b j 0) (sym q),
    )

begins_not_law : (b : List ℕ) → length b < 8 → begun b ≡ (refused SHORT 0, b)
unfolding begun
begins_not_law b h = rw (lt-leb 8 (room_of b) (omega arith))

-- an accepted beginning had the room
begun_long : (b : List ℕ) → (begun b).0 ≡ Ok 8 → 8 ≤ length b
unfolding begun
begun_long b e = go (leb 8 (room_of b)) refl e
  where
    go : (t : Bool) → leb 8 (room_of b) ≡ t → (pick {X = Answer × List ℕ} t (Ok 8, over empty_head b) (refused SHORT 0, b)).0 ≡ Ok 8 → 8 ≤ length b
    go true q w = omega (arith, leb-true 8 (room_of b) q)
    go false q w = absurd (let z : ◌≡◌ {A = ℕ} 0 1 = cc in omega arith)

-- ---- after any further calls
module _ (b : List ℕ) (ks : List AnyCall) (e : (begun b).0 ≡ Ok 8) (y : AllTyped ks) where
  -- the buffer is as long as it was, and keeps to the list
  kept : Keeps (buffer_now b ks) (list_now b ks) × (length (buffer_now b ks) ≡ length b)
  kept =
      let s = begin_follows b (begun_long b e) in
      let r = follows_all ks (begun b).1 [] s.0 y in
      (subst (λ (n : ℕ). Keeps (buffer_now b ks) (list_after_all n ks [])) (same_room (begun b).1 b s.1) r.0, r.1 ∙ s.1)

  follows : Follows (buffer_now b ks) (list_now b ks)
  follows = kept.0.follows

  two : 2 ≤ length (list_now b ks) → HoldsContext 2 (buffer_now b ks) (context_given (list_now b ks))
  two h = held_two (buffer_now b ks) (list_now b ks) follows (omega (arith, length_given_law (list_now b ks)))

  steps : 2 ≤ length (list_now b ks) → StepsThrough (buffer_now b ks) (context_given (list_now b ks))
  steps h = stepping_through (buffer_now b ks) (context_given (list_now b ks)) (two h)

  reads : 2 ≤ length (list_now b ks) → ReadsBack (buffer_now b ks) (list_now b ks)
  reads h = reads_back_law (buffer_now b ks) (list_now b ks) (two h) kept.0.added

answers : (b : List ℕ) (ks : List AnyCall) (k : AnyCall) → (begun b).0 ≡ Ok 8 → AllTyped ks
    → ((ms : List ModuleRecord) → in_rattle k ≡ write (add_modules ms) → ModulesTyped ms)
    → (Undetermined (room_of b) (context_given (list_now b ks)) (in_rattle k) → ⊥)
    → (run_any k (buffer_now b ks)).0 ≡ any_reply (room_of b) k (list_now b ks)
answers b ks k e y t n =
    let q = same_room (buffer_now b ks) b (kept b ks e y).1 in
    any_reply_law (buffer_now b ks) (list_now b ks) (follows b ks e y) k (kept b ks e y).0 t (λ u. n (subst (λ (r : ℕ). Undetermined r (context_given (list_now b ks)) (in_rattle k)) q u))
    ∙ ap (λ (r : ℕ). any_reply r k (list_now b ks)) q

-- ---- a refusal changes nothing
same : (a b : Answer) → answer a ≡ answer b → a ≡ b
same a b e = cc

kept_members : (b : List ℕ) (f : Bool) (x : Body) (a : Answer) → answer (added_members b f x).0 ≡ answer a → (number_of a ≡ 0 → ⊥) → (added_members b f x).1 ≡ b
unfolding added_members
kept_members b f x a e n = go (append_offset b (type_of x) (given_check f x) (written_size x)) e
  where
    go : (p : Answer) → answer (added_at b x p).0 ≡ answer a → (added_at b x p).1 ≡ b
    go (Ok v) w = absurd (n (ap number_of (same a (Ok (v + written_size x)) (sym w))))
    go (Err r) w = refl

refusals : (b : List ℕ) (k : Call) (a : Answer) → (run k b).0 ≡ answer a → (number_of a ≡ 0 → ⊥) → (run k b).1 ≡ b
unfolding run_write begun
refusals b (ask q) a e n = refl
refusals b (write begin) a e n = go (leb 8 (room_of b)) e
  where
    go : (t : Bool) → answer (pick {X = Answer × List ℕ} t (Ok 8, over empty_head b) (refused SHORT 0, b)).0 ≡ answer a
        → (pick {X = Answer × List ℕ} t (Ok 8, over empty_head b) (refused SHORT 0, b)).1 ≡ b
    go true w = absurd (n (ap number_of (same a (Ok 8) (sym w))))
    go false w = refl
refusals b (write (add g)) a e n = kept_members b (formed g) (body_given g) a e n
refusals b (write (add_members m)) a e n = kept_members b (members_formed m) (members_body m) a e n
refusals b (write (add_modules ms)) a e n = absurd (let z : ◌≡◌ {A = ℕ} 0 1 = cc in omega arith)

pub demand_2 : Demand2
demand_2 =
    record {
      begins = begins;
      begins_not = begins_not_law;
      follows = follows;
      same_length = λ b ks e y. (kept b ks e y).1;
      answers = answers;
      steps = steps;
      crosses = crosses;
      members = as_record_law;
      refusals = refusals;
      stays = stays;
      appends = appends;
      appends_modules = appends_modules_law;
      reads_back = reads;
      rebuilds = λ b d c h p w. rebuilds b c h p d w;
    }

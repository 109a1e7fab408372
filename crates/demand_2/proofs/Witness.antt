-- A plain context, built from its records, is its bytes: they are built again from what is read back of them, and that is the records.
use Prim.Native.Nat.{ℕ, ◌≤◌, ◌<◌}
use mathlib.Core.Path.{◌≡◌, refl, sym, ◌∙◌, subst}
use mathlib.Core.List.{List, [], ◌∷◌, ◌++◌}
use native.Mathlib.Omega.{arith}
use lib.ListN.{length}
use lib.Seq.{take_all}
use Rattle.ultra_format.specs.Contexts.{Context, count, body_at, total, used}
use Rattle.lent_buffers.specs.Room.{room_of}
use Rattle.ultra_format.specs.Plain.{Plain}
use Rattle.ultra_format.specs.Examples.{listed, listed_bytes, six_types, six_types_bytes}
use Rattle.ultra_format.specs.Additions.{Addition}
use Rattle.ultra_format.proofs.Witness.{listed_meets, listed_opens, listed_plain, six_types_meets, six_types_opens, six_types_plain}
use Rattle.ultra_map_question.specs.MapQuestion.{numbers}
use Rattle.ultra_acceptance.specs.Acceptance.{HoldsContext}
use Rattle.demand_2.specs.Calls.{run_write}
use Rattle.demand_2.specs.CallsFromC.{after}
use Rattle.demand_2.specs.Model.{giving}
use Rattle.demand_2.specs.Demand2.{record_at, records_back, adds, rebuilding}
use Rattle.demand_2.specs.Witness.{listed_additions, six_additions, Built, Witnessed}
use Rattle.demand_2.proofs.ReadingBack.{record_at_law}
use Rattle.demand_2.proofs.Rebuilding.{context_back, typed_back, rebuilt_list}
use Rattle.demand_2.proofs.Demand2.{demand_2}
use Rattle.demand_2.proofs.SeveralModules.{several_modules}
use Rattle.demand_2.proofs.BoardTexts.{board_texts}
use Rattle.demand_2.proofs.Writes.{writes_answered}
use Rattle.demand_2.proofs.EveryCall.{every_kind, widest, from_c_and_members, any_arguments, built_plain, two_are_enough, head, other, other_kept_law}

-- the records that are read back of plain bytes build them, in as many bytes as are used
module _ (bytes : List ℕ) (c : Context) (n : ℕ) (h : HoldsContext 2 bytes c) (p : Plain bytes c) (l : length bytes ≡ n) (u : used c ≡ n) where
  room : (b : List ℕ) → length b ≡ n → used c ≤ room_of b
  room b e = omega (arith, h.0.within)

  again : (b : List ℕ) → length b ≡ n → after (rebuilding bytes (count c)) b ≡ bytes
  unfolding after run_write
  again b e =
      let r = after (rebuilding bytes (count c)) b in
      let t = demand_2.same_length b (adds (records_back bytes (count c))) (demand_2.begins b (omega (arith, room b e))).0 (typed_back bytes c h p) in
      sym (take_all (used c) r (omega (arith, t))) ∙ (demand_2.rebuilds bytes b c h p (room b e)).same ∙ take_all (used c) bytes (omega arith)

  back : Built (records_back bytes (count c)) c bytes n
  back =
      record {
        typed = typed_back bytes c h p;
        list = context_back bytes c h p;
        kept = rebuilt_list bytes c h p n (omega arith);
        built = again;
        accepted = λ b e. (demand_2.rebuilds bytes b c h p (room b e)).unrefused;
        plain = p;
        holds = h;
      }

-- what is read back at an index
one : (bytes : List ℕ) (c : Context) (h : HoldsContext 2 bytes c) (p : Plain bytes c) (i : ℕ) → i < count c → record_at bytes i ≡ giving (body_at c i) ∷ []
one bytes c h p i k = record_at_law bytes c h i k (p.types i k)

listed_back : records_back listed_bytes (count listed) ≡ listed_additions
unfolding records_back giving numbers
listed_back = λ j. [] ++ at 0 (omega arith) j ++ at 1 (omega arith) j ++ at 2 (omega arith) j ++ at 3 (omega arith) j
  where
    at : (i : ℕ) → i < count listed → record_at listed_bytes i ≡ giving (body_at listed i) ∷ []
    at = one listed_bytes listed (listed_meets, listed_opens) listed_plain

six_back : records_back six_types_bytes (count six_types) ≡ six_additions
unfolding records_back giving numbers
six_back = λ j. [] ++ at 0 (omega arith) j ++ at 1 (omega arith) j ++ at 2 (omega arith) j ++ at 3 (omega arith) j ++ at 4 (omega arith) j ++ at 5 (omega arith) j
  where
    at : (i : ℕ) → i < count six_types → record_at six_types_bytes i ≡ giving (body_at six_types i) ∷ []
    at = one six_types_bytes six_types (six_types_meets, six_types_opens) six_types_plain

listing : Built listed_additions listed listed_bytes 480
unfolding total
listing = subst (λ (gs : List Addition). Built gs listed listed_bytes 480) listed_back (back listed_bytes listed 480 (listed_meets, listed_opens) listed_plain refl refl)

six : Built six_additions six_types six_types_bytes 640
unfolding total
six = subst (λ (gs : List Addition). Built gs six_types six_types_bytes 640) six_back (back six_types_bytes six_types 640 (six_types_meets, six_types_opens) six_types_plain refl refl)

pub witnessed : Witnessed
witnessed =
    record {
      listing = listing;
      six = six;
      every = every_kind six;
      widest = widest;
      others = from_c_and_members;
      arguments = any_arguments;
      plain = built_plain;
      other_kept = other_kept_law six.typed;
      enough = two_are_enough six.typed;
      writes = writes_answered six.typed;
      modules = several_modules six.typed;
      boards = board_texts six.typed;
      head = head;
      headless = λ b e. demand_2.begins_not b (omega arith);
      other = other six.typed;
    }

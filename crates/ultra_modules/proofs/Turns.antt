-- What is left to add, one turn of the loop at a time, from a place of the list.
--     starts_is    before the first module, all is left
--     next_is      where the loop goes on, what is left is what is left after one more module
--     done_is      where it does not, nothing is left
--     left, less   the loop's measure, and that a turn makes it less
use Rattle.std.specs.Prelude.{Ok, Err}
use mathlib.Core.Path.{◌≡◌, refl, sym, ◌∙◌, ap}
use Prim.Native.Nat.{ℕ, zero, suc, ◌+◌, ◌-◌, ◌<◌}
use native.Mathlib.Nat.{not-suc-le-zero, le_of_suc-le-suc}
use native.Mathlib.Numerals.{add-one}
use native.Mathlib.Omega.{arith}
use mathlib.Core.Bool.{not, false}
use mathlib.Core.List.{List, [], ◌∷◌}
use lib.Dec.{T, ltb, ltb→lt, nltb→le}
use lib.ListN.{length, get_or, drop, drop_of_length-le}
use Rattle.refusals.specs.Answers.{Answer}
use Rattle.ultra_format.specs.declared.records.ModuleRecord.{ModuleRecord}
use Rattle.ultra_modules.specs.declared.ModulesAdded.{ModulesAdded}
use Rattle.ultra_modules.specs.Modules.{answer_and_count, module_at, if_done, in_turn, module_added, modules_added}
use Rattle.ultra_modules.specs.Turns.{none_yet, goes_on, counting, next_added}

pub drop_at : {X : Type 0} (xs : List X) (i : ℕ) (d : X) → i < length xs → drop i xs ≡ get_or xs i d ∷ drop (suc i) xs
drop_at [] i d l = absurd (not-suc-le-zero l)
drop_at (x ∷ xs) zero d l = refl
drop_at (x ∷ xs) (suc i) d l = drop_at xs i d (le_of_suc-le-suc l)

-- ---- one turn
pub goes_on_done : (s : ModulesAdded) (n used : ℕ) → s.answer ≡ Ok used → ltb s.added n ≡ goes_on s n
goes_on_done s n used e = sym (ap (λ (a : Answer). if_done a (ltb s.added n) false) e)

-- the single add answered x, which is a
pub next_added_law : (b : List ℕ) (m : ModuleRecord) (s : ModulesAdded) (x a : Answer) (d : List ℕ) → x ≡ a → (x, d) ≡ module_added b m
    → (counting a s.added, d) ≡ next_added b m s
next_added_law b m s x a d e f =
    (λ i. (counting (sym e i) s.added, d)) ∙ ap (λ (p : Answer × List ℕ). (counting p.0 s.added, p.1)) f

-- ---- what is left
abbrev pub left_from : List ModuleRecord → List ℕ → ModulesAdded → ModulesAdded × List ℕ
left_from ms b s = if_done s.answer (in_turn module_added s.answer s.added b (drop s.added ms)) (s, b)

pub starts_is : (ms : List ModuleRecord) (b : List ℕ) → left_from ms b none_yet ≡ modules_added b ms
unfolding modules_added
starts_is ms b = refl

counted : (ms : List ModuleRecord) (b : List ℕ) (a : Answer) (i : ℕ)
    → left_from ms b (counting a i) ≡ if_done a (in_turn module_added a (i + 1) b (drop (suc i) ms)) (answer_and_count a i, b)
counted ms b (Ok used) i = ap (λ (k : ℕ). in_turn module_added (Ok used) (i + 1) b (drop k ms)) (add-one i)
counted ms b (Err r) i = refl

next_at : (ms : List ModuleRecord) (b : List ℕ) (a : Answer) (i : ℕ) → T (goes_on (answer_and_count a i) (length ms))
    → left_from ms (module_added b (module_at ms i)).1 (counting (module_added b (module_at ms i)).0 i) ≡ left_from ms b (answer_and_count a i)
unfolding in_turn
next_at ms b (Ok used) i h =
    let r = module_added b (module_at ms i) in
    counted ms r.1 r.0 i ∙ ap (in_turn module_added (Ok used) i b) (sym (drop_at ms i _ (ltb→lt i (length ms) h)))
next_at ms b (Err r) i h = absurd h

done_at : (ms : List ModuleRecord) (b : List ℕ) (a : Answer) (i : ℕ) → T (not (goes_on (answer_and_count a i) (length ms))) → left_from ms b (answer_and_count a i) ≡ (answer_and_count a i, b)
unfolding in_turn
done_at ms b (Ok used) i h = ap (in_turn module_added (Ok used) i b) (drop_of_length-le ms {i = i} (nltb→le i (length ms) h))
done_at ms b (Err r) i h = refl

pub done_is : (ms : List ModuleRecord) (b : List ℕ) (s : ModulesAdded) → T (not (goes_on s (length ms))) → left_from ms b s ≡ (s, b)
done_is ms b s h = done_at ms b s.answer s.added h

pub next_is : (ms : List ModuleRecord) (b : List ℕ) (s : ModulesAdded) (m : ModuleRecord) (r : ModulesAdded) (d : List ℕ)
    → T (goes_on s (length ms)) → m ≡ module_at ms s.added → (r, d) ≡ next_added b m s → left_from ms d r ≡ left_from ms b s
next_is ms b s m r d h e f =
    ap (λ (p : ModulesAdded × List ℕ). left_from ms p.1 p.0) f
    ∙ ap (λ (k : ModuleRecord). left_from ms (next_added b k s).1 (next_added b k s).0) e
    ∙ next_at ms b s.answer s.added h

-- ---- where the loop goes on, there is a module at the place
in_at : (a : Answer) (i n : ℕ) → T (goes_on (answer_and_count a i) n) → i < n
in_at (Ok used) i n h = ltb→lt i n h
in_at (Err r) i n h = absurd h

pub in_range : (s : ModulesAdded) (n : ℕ) → T (goes_on s n) → s.added < n
in_range s n h = in_at s.answer s.added n h

-- ---- the measure
abbrev pub left : ℕ → ModulesAdded → ℕ
left n s = if_done s.answer (suc (n - s.added)) 0

less_at : (a c : Answer) (i n : ℕ) → T (goes_on (answer_and_count a i) n) → left n (counting c i) < left n (answer_and_count a i)
less_at (Ok used) (Ok more) i n h = let l : i < n = ltb→lt i n h in omega arith
less_at (Ok used) (Err r) i n h = omega arith
less_at (Err r) c i n h = absurd h

pub less : (s : ModulesAdded) (b : List ℕ) (m : ModuleRecord) (n : ℕ) → T (goes_on s n) → left n (next_added b m s).0 < left n s
less s b m n h = less_at s.answer (module_added b m).0 s.added n h

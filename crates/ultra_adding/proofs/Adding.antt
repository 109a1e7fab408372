-- Laws of adding, for whatever is given: all that an add has to show of itself is that it raised the count for what it is given.
use Rattle.std.specs.Prelude.{⊤, Result, Ok, Err}
use Prim.Native.Nat.{ℕ, ◌+◌, ◌-◌, ◌≤◌}
use mathlib.Core.Path.{◌≡◌, refl, sym, ap, ◌∙◌}
use mathlib.Core.Bool.{Bool, true}
use mathlib.Core.List.{List, [], ◌++◌, append_assoc, append-nil}
use native.Mathlib.Omega.{arith}
use lib.ListN.{length, take, drop, length-drop, drop_of_length-le}
use lib.Seq.{take_all, drop-drop}
use Rattle.words.specs.Words.{replaced}
use Rattle.byte_layout.specs.Stored.{over}
use Rattle.refusals.specs.Answers.{Answer, checked, number_in, or_refused}
use Rattle.ultra_format.specs.Contexts.{Body, type_of, Context, used}
use Rattle.lent_buffers.specs.Room.{room_of}
use Rattle.ultra_format.specs.Decoding.{stored_count, types_before}
use Rattle.ultra_format.specs.Plain.{written_size}
use Rattle.ultra_format.specs.Members.{body_check}
use Rattle.ultra_format.specs.Additions.{Addition, body_given, formed, new_bytes, given_check}
use Rattle.refusals.specs.declared.Refusal.{Refusal}
use Rattle.refusals.proofs.Chains.{passed, number_checked}
use Rattle.ultra_acceptance.specs.Acceptance.{HoldsContext}
use Rattle.ultra_acceptance.proofs.Acceptance.{complete}
use Rattle.ultra_acceptance.proofs.Walked.{BodyHolds, body_holds}
use Rattle.ultra_appending.specs.Appending.{append_check, append_offset, counted, count_raised}
use Rattle.ultra_appending.proofs.Appending.{was_read, appended_at, raised, kept, length_counted}
use Rattle.ultra_adding.specs.Adding.{added_at, added_members, added}

-- what breaks no rule is formed, and its members meet the rules
pub given_holds : (f : Bool) (x : Body) → given_check f x ≡ 0 → (f ≡ true) × BodyHolds (written_size x) x
unfolding given_check body_check
given_holds f x e = let p = passed f _ _ e in (p.0, body_holds (written_size x) x p.1)

-- ---- an add
-- from n on in q, within the buffer and within the largest room
pub record Space (q : List ℕ) (n size : ℕ) : Type 0 where
  pub within : n + size ≤ length q
  pub small : n + size ≤ 65536

-- an add of x to b, where raising the count answered `a` and left q
pub record Adds (b q : List ℕ) (f : Bool) (x : Body) (a : Answer) (size : ℕ) : Type 0 where
  -- at an offset there is space, and x breaks no rule
  pub space : {n : ℕ} → a ≡ Ok n → Space q n size
  pub holds : {n : ℕ} → a ≡ Ok n → (f ≡ true) × BodyHolds (written_size x) x
  -- a refusal is passed on, and changes nothing
  pub refused : {r : Refusal} → a ≡ Err r → (a, q) ≡ added_members b f x
  -- the part from the offset on was lent, and came back with the attribute over its front
  pub written : {p : List ℕ} {n : ℕ} → a ≡ Ok n → p ≡ over (new_bytes x) (take (length q - n) (drop n q))
      → (Ok (n + size), take n q ++ (p ++ drop (length q - n) (drop n q))) ≡ added_members b f x

spliced : (q p y : List ℕ) (n : ℕ) → p ≡ over y (take (length q - n) (drop n q))
    → take n q ++ (p ++ drop (length q - n) (drop n q)) ≡ replaced q n (length y) y
spliced q p y n w =
    let m : length (drop n q) ≤ length q - n = simp length-drop (omega arith) in
    let u : take (length q - n) (drop n q) ≡ drop n q = take_all (length q - n) (drop n q) m in
    let v : drop (length q - n) (drop n q) ≡ [] = drop_of_length-le (drop n q) m in
    rw (w, u, v, append-nil, drop-drop (length y) n q) (sym (append_assoc (take n q) y (drop (n + length y) q)))

-- the count was raised for its type, what its check answered, and its size
pub adds : {b q : List ℕ} {f : Bool} {x : Body} {t size : ℕ} {r : Result ⊤ ℕ} {a : Answer} → (a, q) ≡ count_raised b t (number_in r) size
    → t ≡ type_of x → r ≡ checked (given_check f x) → size ≡ written_size x → Adds b q f x a size
unfolding added_members
adds {b} {q} {f} {x} {t} {size} {r} {a} e kind said wide =
    record {
      space = λ {n} i. let o = at n i in
          let p = appended_at b (type_of x) (given_check f x) (written_size x) n o.0 in
          let r = (was_read b n p.0).room in
          let l : length q ≡ length b = rw o.1 (length_counted b (omega arith)) in
          let s = p.1.within in
          record { within = omega arith; small = omega arith };
      holds = λ {n} i. given_holds f x (appended_at b (type_of x) (given_check f x) (written_size x) n (at n i).0).1.sound;
      refused = λ {r} i. let k = kept b (type_of x) (given_check f x) (written_size x) q a for r i in rw (i, k.0, k.1);
      written = λ {p} {n} i w. let o = at n i in
          rw o.0 (λ j. (Ok (n + wide j), (spliced q p (new_bytes x) n w ∙ (λ m. replaced (o.1 m) n (length (new_bytes x)) (new_bytes x))) j));
    }
  where
    number : number_in r ≡ given_check f x
    number = ap number_in said ∙ number_checked _

    for : (a, q) ≡ count_raised b (type_of x) (given_check f x) (written_size x)
    for = e ∙ (λ i. count_raised b (kind i) (number i) (wide i))

    at : (n : ℕ) → a ≡ Ok n → (append_offset b (type_of x) (given_check f x) (written_size x) ≡ Ok n) × (q ≡ counted b)
    at n i = raised b (type_of x) (given_check f x) (written_size x) q a for n i

-- members that break a rule are refused, whatever else they are: only their type, its number and their size are asked
pub add_broken : (b : List ℕ) (f g : Bool) (x y : Body) → type_of x ≡ type_of y → written_size x ≡ written_size y → given_check f x ≡ given_check g y
    → (given_check f x ≡ 0 → ⊥) → added_members b f x ≡ added_members b g y
unfolding added_members
add_broken b f g x y t s e n =
    ap (added_at b x) (λ i. append_offset b (t i) (e i) (s i)) ∙ go (append_offset b (type_of y) (given_check g y) (written_size y)) refl
  where
    go : (p : Answer) → append_offset b (type_of y) (given_check g y) (written_size y) ≡ p → added_at b x p ≡ added_at b y p
    go (Ok m) q = absurd (n (e ∙ (appended_at b _ _ _ m q).1.sound))
    go (Err r) q = refl

-- ---- an add to a buffer that holds a context
-- the number that it gives
abbrev pub members_check_on : List ℕ → Context → Bool → Body → ℕ
members_check_on b c f x = append_check (types_before b (stored_count b)) (room_of b) (used c) (type_of x) (given_check f x) (written_size x)

pub members_held : (b : List ℕ) (c : Context) (f : Bool) (x : Body) → HoldsContext 0 b c
    → added_members b f x ≡ added_at b x (or_refused (members_check_on b c f x) (used c) (Ok (used c)))
unfolding added_members append_offset
members_held b c f x h = rw (complete 0 b c h.0 h.1)

-- the same of what an add is given
abbrev pub check_on : List ℕ → Context → Addition → ℕ
check_on b c g = members_check_on b c (formed g) (body_given g)

pub added_held : (b : List ℕ) (c : Context) (g : Addition) → HoldsContext 0 b c → added b g ≡ added_at b (body_given g) (or_refused (check_on b c g) (used c) (Ok (used c)))
added_held b c g h = members_held b c (formed g) (body_given g) h

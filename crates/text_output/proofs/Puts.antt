-- Laws of putting bytes one after the other.
use Prim.Native.Nat.{ℕ, ◌+◌, ◌-◌, ◌≤◌, ◌<◌}
use mathlib.Core.Path.{◌≡◌, refl, sym, ◌∙◌}
use mathlib.Core.List.{List, [], ◌∷◌, ◌++◌, append_assoc, append-nil}
use native.Mathlib.Omega.{arith}
use lib.ListN.{length, take, drop, get_or, set}
use lib.Seq.{set_out}
use Rattle.std.proofs.lemmas.List.{take_more, take_all}
use Rattle.byte_layout.specs.Stored.{bytes_at}
use Rattle.byte_layout.proofs.Copies.{bytes_taken}
use Rattle.text_output.specs.Output.{State, next, put, puts}
use Rattle.text_output.specs.Spelling.{each, decimal, after, joined}

-- a byte past the end is counted, any other is put
module _ (out : List ℕ) (to x r : ℕ) (e : r ≡ next to) where
  pub put_past : length out ≤ to → (out, r) ≡ put (out, to) x
  unfolding put
  put_past h = rw (set_out out to x h, e)

  pub put_within : (set out to x, r) ≡ put (out, to) x
  unfolding put
  put_within = rw e

pub puts_none : (s : State) → puts s [] ≡ s
unfolding puts
puts_none s = refl

pub puts_one : (s : State) (x : ℕ) → puts s (x ∷ []) ≡ put s x
unfolding puts
puts_one s x = refl

pub puts_append : (s : State) (l m : List ℕ) → puts s (l ++ m) ≡ puts (puts s l) m
unfolding puts
puts_append s [] m = refl
puts_append s (x ∷ l) m = puts_append (put s x) l m

-- one text after another
pub after_it : (s t u : State) (l m : List ℕ) → t ≡ puts s l → u ≡ puts t m → u ≡ puts s (l ++ m)
after_it s t u l m e f = rw (puts_append s l m, ← e) f

-- one byte after a text, and one in front of it
pub byte_after : (s t u : State) (l : List ℕ) (x : ℕ) → t ≡ puts s l → u ≡ put t x → u ≡ puts s (l ++ (x ∷ []))
byte_after s t u l x e f = after_it s t u l (x ∷ []) e (f ∙ sym (puts_one t x))

pub byte_before : (s t u : State) (x : ℕ) (l : List ℕ) → t ≡ put s x → u ≡ puts t l → u ≡ puts s (x ∷ l)
byte_before s t u x l e f = after_it s t u (x ∷ []) l (e ∙ sym (puts_one s x)) f

-- ---- what two lists are spelled as
pub each_append : {X : Type 0} (f : X → List ℕ) (l m : List X) → each f (l ++ m) ≡ each f l ++ each f m
unfolding each
each_append f [] m = refl
each_append f (x ∷ l) m = rw (each_append f l m) (sym (append_assoc (f x) (each f l) (each f m)))

-- ---- loops: one element more, after the i that have been put
pub put_more : (s t u : State) (l : List ℕ) (i : ℕ) → i < length l → t ≡ puts s (take i l) → u ≡ put t (get_or l i 0) → u ≡ puts s (take (i + 1) l)
put_more s t u l i h e f = rw (take_more l i 0 h) (byte_after s t u (take i l) (get_or l i 0) e f)

pub each_none : (f : ℕ → List ℕ) (s : State) → s ≡ puts s (each f [])
unfolding each puts
each_none f s = refl

pub each_more : (f : ℕ → List ℕ) (s t u : State) (l : List ℕ) (i : ℕ) → i < length l → t ≡ puts s (each f (take i l)) → u ≡ puts t (f (get_or l i 0)) → u ≡ puts s (each f (take (i + 1) l))
unfolding each
each_more f s t u l i h e g =
    let x = get_or l i 0 in
    rw (take_more l i 0 h, each_append f (take i l) (x ∷ []), append-nil (f x)) (after_it s t u (each f (take i l)) (f x) e g)

-- after the last, all are put
pub bytes_all : (f : ℕ → List ℕ) (s t : State) (b : List ℕ) (o n i : ℕ) → o + n ≤ length b → length (take (o + n - o) (drop o b)) ≤ i
    → t ≡ puts s (each f (take i (take (o + n - o) (drop o b)))) → t ≡ puts s (each f (bytes_at b o n))
bytes_all f s t b o n i h l e =
    let k : o + n - o ≡ n = omega arith in
    rw (take_all i (take (o + n - o) (drop o b)) l, k, bytes_taken b o n h) at e

-- ---- numbers with a separator between them
module _ (s : State) (c : ℕ) where
  pub joined_none : (ns : List ℕ) → length ns ≡ 0 → s ≡ puts s (joined c ns)
  unfolding puts
  joined_none [] h = refl
  joined_none (n ∷ ns) h = absurd (omega arith)

  pub joined_all : (t u : State) (l : List ℕ) (n : ℕ) (ns : List ℕ) (i : ℕ) → l ≡ n ∷ ns → length ns ≤ i → t ≡ puts s (decimal n) → u ≡ puts t (each (after c) (take i ns)) → u ≡ puts s (joined c l)
  joined_all t u l n ns i q h e f = rw q (after_it s t u (decimal n) (each (after c) ns) e (rw (take_all i ns h) at f))

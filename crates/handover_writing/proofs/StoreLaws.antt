-- Stores side by side, and a string with its closing zero.
use Prim.Native.Nat.{ℕ, ◌+◌, ◌-◌, ◌≤◌, ◌<◌}
use mathlib.Core.Path.{◌≡◌, sym, ap, ap₂, ◌∙◌}
use mathlib.Core.List.{List, [], ◌∷◌, ◌++◌}
use native.Mathlib.Omega.{arith}
use lib.ListN.{length, take, drop, set, length-append}
use Rattle.words.specs.Words.{replaced}
use Rattle.words.proofs.Widths.{byte_stored}
use Rattle.words.proofs.Stores.{length_replaced, replaced_none}
use Rattle.byte_layout.specs.Stored.{bytes_at, closed}
use Rattle.byte_layout.proofs.Copies.{length_stored, bytes_taken}
use Rattle.byte_layout.proofs.Runs.{grown}
use Rattle.handover_writing.specs.Stores.{put}

-- ---- stores
pub put_none : (e : List ℕ) (a : ℕ) → e ≡ put e a []
unfolding put
put_none e a = sym (replaced_none e a)

-- what a store of a known width puts
pub stored : (e q x : List ℕ) (a n : ℕ) → length x ≡ n → q ≡ replaced e a n x → q ≡ put e a x
unfolding put
stored e q x a n l h = h ∙ ap (λ (k : ℕ). replaced e a k x) (sym l)

-- one after the other
pub put_then : (e q r x y : List ℕ) (a b : ℕ) → b ≡ a + length x → b ≤ length e → q ≡ put e a x → r ≡ put q b y → r ≡ put e a (x ++ y)
unfolding put
put_then e q r x y a b p h s t =
    grown e q r x y a (length x) (length y) (omega arith) (omega arith) s (t ∙ ap (λ (k : ℕ). replaced q k (length y) y) p)
    ∙ ap (λ (k : ℕ). replaced e a k (x ++ y)) (sym (length-append x y))

-- ---- a string
pub string_stored : (b run l q : List ℕ) (o s n : ℕ) → s + n ≤ length run → o + n < length b → l ≡ take (s + n - s) (drop s run) → q ≡ replaced b o (length l) l
    → set q (o + n) 0 ≡ replaced b o (n + 1) (closed (bytes_at run s n))
string_stored b run l q o s n h g e f =
    let k : s + n - s ≡ n = omega arith in
    let t : l ≡ bytes_at run s n = e ∙ ap (λ (m : ℕ). take m (drop s run)) k ∙ bytes_taken run s n h in
    let z : length l ≡ n = ap length t ∙ length_stored run s n in
    let w : q ≡ replaced b o n (bytes_at run s n) = f ∙ ap₂ (replaced b o) z t in
    let y : length q ≡ length b = ap length w ∙ length_replaced b (bytes_at run s n) o n (length_stored run s n) (omega arith) in
    grown b q (set q (o + n) 0) (bytes_at run s n) (0 ∷ []) o n 1 (length_stored run s n) (omega arith) w (byte_stored q (o + n) 0 (omega arith) (omega arith))

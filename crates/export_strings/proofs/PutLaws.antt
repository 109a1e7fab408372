-- Laws of strings stored one after the other.
use Prim.Native.Nat.{ℕ, ◌+◌, ◌≤◌}
use mathlib.Core.Path.{◌≡◌, refl, sym, ap, ◌∙◌}
use mathlib.Core.List.{List, [], ◌++◌}
use native.Mathlib.Omega.{arith}
use native.Mathlib.Nat.{add-zero}
use lib.ListN.{length, length-append}
use Rattle.handover_writing.specs.Stores.{put}
use Rattle.handover_writing.proofs.StoreLaws.{put_none, stored, put_then}
use Rattle.words.specs.Words.{replaced}
use Rattle.export_strings.specs.StringPuts.{State, bytes_put}

pub bytes_put_none : (e : List ℕ) (a : ℕ) → (e, a) ≡ bytes_put (e, a) []
unfolding bytes_put
bytes_put_none e a = λ j. (put_none e a j, sym (add-zero a) j)

-- a store of a known width
pub bytes_stored : (e q x : List ℕ) (a n r : ℕ) → length x ≡ n → r ≡ a + n → q ≡ replaced e a n x → (q, r) ≡ bytes_put (e, a) x
unfolding bytes_put
bytes_stored e q x a n r l f s = let g : r ≡ a + length x = omega arith in λ j. (stored e q x a n l s j, g j)

-- what is said of the output
pub bytes_out : (e q x : List ℕ) (a r : ℕ) → (q, r) ≡ bytes_put (e, a) x → q ≡ put e a x
unfolding bytes_put
bytes_out e q x a r s = ap (λ (t : State). t.0) s

-- one, then the other
module _ (e : List ℕ) (a : ℕ) (x y z : List ℕ) (p : z ≡ x ++ y) (h : a + length z ≤ length e) where
  parts : length z ≡ length x + length y
  parts = ap length p ∙ length-append x y

  pub bytes_front : a + length x ≤ length e
  bytes_front = omega (arith, parts)

  module _ (q : List ℕ) (r : ℕ) (s : (q, r) ≡ bytes_put (e, a) x) (k : length q ≡ length e) where
    at_is : r ≡ a + length x
    unfolding bytes_put
    at_is = ap (λ (t : State). t.1) s

    pub bytes_rest : r + length y ≤ length q
    bytes_rest = omega (arith, parts, at_is, k)

    pub bytes_step : bytes_put (q, r) y ≡ bytes_put (e, a) z
    unfolding bytes_put
    bytes_step =
        let o = put_then e q (put q r y) x y a r at_is (omega (arith, parts, at_is)) (bytes_out e q x a r s) refl in
        let n : r + length y ≡ a + length z = omega (arith, parts, at_is) in
        λ j. ((o ∙ ap (put e a) (sym p)) j, n j)

-- The elements and the length of a list after a run of them has been replaced.
use Prim.Native.Nat.{ℕ, ◌+◌, ◌-◌, ◌≤◌, ◌<◌}
use mathlib.Core.Path.{◌≡◌, refl, sym, ap, ap₂, ◌∙◌}
use mathlib.Core.Bool.{Bool, true, false}
use mathlib.Core.List.{List, [], ◌++◌, append_assoc, append-nil}
use native.Mathlib.Omega.{arith}
use native.Mathlib.Nat.{add-zero}
use lib.Dec.{ltb}
use lib.ListN.{length, take, drop, get_or, length-append, length-drop, take-append-drop, get_or-append}
use lib.Seq.{length-take-le, get_or-take, get_or-drop, get_or-append-add, ext_get_or, take-append-le, take-take, drop_at}
use borrow.Author.Tests.{ltb-true, ltb-false}
use Rattle.words.specs.Words.{replaced}

module _ (b x : List ℕ) (o k : ℕ) (l : length x ≡ k) where
  module _ (h : o ≤ length b) where
    front_length : length (take o b ++ x) ≡ o + k
    front_length = length-append (take o b) x ∙ ap₂ (λ (p q : ℕ). p + q) (length-take-le o b h) l

    pub before_it : (i : ℕ) → i < o → get_or (replaced b o k x) i 0 ≡ get_or b i 0
    before_it i s =
        get_or-append (take o b ++ x) (drop (o + k) b) 0 i (omega (arith, front_length))
        ∙ get_or-append (take o b) x 0 i (omega (arith, length-take-le o b h)) ∙ get_or-take o b i 0 s

    pub within_it : (i : ℕ) → i < k → get_or (replaced b o k x) (o + i) 0 ≡ get_or x i 0
    within_it i s =
        get_or-append (take o b ++ x) (drop (o + k) b) 0 (o + i) (omega (arith, front_length))
        ∙ ap (λ (j : ℕ). get_or (take o b ++ x) (j + i) 0) (sym (length-take-le o b h)) ∙ get_or-append-add (take o b) x i 0

    pub after_it : (i : ℕ) → o + k ≤ i → get_or (replaced b o k x) i 0 ≡ get_or b i 0
    after_it i s =
        let q : i ≡ length (take o b ++ x) + (i - (o + k)) = omega (arith, front_length) in
        let r : o + k + (i - (o + k)) ≡ i = omega arith in
        ap (λ (j : ℕ). get_or (replaced b o k x) j 0) q ∙ get_or-append-add (take o b ++ x) (drop (o + k) b) (i - (o + k)) 0
        ∙ get_or-drop (o + k) b (i - (o + k)) 0 ∙ ap (λ (j : ℕ). get_or b j 0) r

  pub length_replaced : o + k ≤ length b → length (replaced b o k x) ≡ length b
  length_replaced h = omega (arith, length-append (take o b ++ x) (drop (o + k) b), front_length (omega arith), length-drop (o + k) b)

-- nothing is replaced
pub replaced_none : (b : List ℕ) (o : ℕ) → replaced b o 0 [] ≡ b
replaced_none b o = rw (append-nil, add-zero) (take-append-drop o b)

-- a run is replaced by what stands there
pub replaced_same : (b x : List ℕ) (o k : ℕ) → length x ≡ k → o + k ≤ length b
    → ((i : ℕ) → i < k → get_or b (o + i) 0 ≡ get_or x i 0) → replaced b o k x ≡ b
replaced_same b x o k l h f = ext_get_or 0 (replaced b o k x) b (length_replaced b x o k l h) (λ i m. at i (ltb i o) refl (ltb i (o + k)) refl)
  where
    at : (i : ℕ) (s : Bool) → ltb i o ≡ s → (t : Bool) → ltb i (o + k) ≡ t → get_or (replaced b o k x) i 0 ≡ get_or b i 0
    at i true e t g = before_it b x o k l (omega arith) i (ltb-true i o e)
    at i false e true g =
        let m = ltb-false i o e in
        let n = ltb-true i (o + k) g in
        let r : i ≡ o + (i - o) = omega arith in
        rw r (within_it b x o k l (omega arith) (i - o) (omega arith) ∙ sym (f (i - o) (omega arith)))
    at i false e false g = after_it b x o k l (omega arith) i (ltb-false i (o + k) g)

-- a run is replaced just before one that was (`replaced_twice`, in Widths: just after)
pub replaced_before : (b x y : List ℕ) (o j k : ℕ) → length x ≡ j → o + j ≤ length b
    → replaced (replaced b (o + j) k y) o j x ≡ replaced b o (j + k) (x ++ y)
replaced_before b x y o j k e h =
    let d = drop (o + j + k) b in
    let n = length-take-le (o + j) b h in
    let t : take o (replaced b (o + j) k y) ≡ take o b =
    take-append-le o (take (o + j) b ++ y) d (omega (arith, length-append (take (o + j) b) y)) ∙ take-append-le o (take (o + j) b) y (omega arith) ∙ take-take o (o + j) b (omega arith) in
    let f : drop (o + j) (replaced b (o + j) k y) ≡ y ++ d = rw append_assoc (drop_at (take (o + j) b) (y ++ d) (o + j) n) in
    let q : o + j + k ≡ o + (j + k) = omega arith in
    rw (t, f, q) (simp append_assoc)

-- Proofs of the statements in specs/Refusing.antt: a buffer that is to be refused is refused so, and one that is not is accepted.
use Rattle.std.specs.Prelude.{Ok, Err}
use Prim.Native.Nat.{ℕ, zero, suc, ◌-◌, ◌≤◌}
use mathlib.Core.Path.{◌≡◌, refl, sym, ap, ◌∙◌}
use mathlib.Core.List.{List}
use mathlib.Core.Logic.{◌⊎◌, ◌⊎◌.inl, ◌⊎◌.inr, ⊎_elim}
use native.Mathlib.Omega.{arith}
use native.Mathlib.Numerals.{add-one}
use borrow.Author.Count.{below_none, below_more}
use Rattle.refusals.specs.Answers.{Answer, refused, number_of, value_of}
use Rattle.lent_buffers.specs.Room.{room_of}
use Rattle.ultra_format.specs.Decoding.{start, stored_count}
use Rattle.refusals.specs.declared.Refusal.{Refusal}
use Rattle.ultra_reading.specs.Reading.{attributes_answer, used_length, version_of, with_version, reading_of}
use Rattle.ultra_reading.specs.declared.Version.{Version}
use Rattle.ultra_reading.proofs.ReadingLaws.{head_refuses, head_goes_on, walk_refuse, walk_next, walk_end}
use Rattle.ultra_acceptance.specs.Refusing.{HeadBreaks, NoneBreaks, ClearBefore, Refuses, RefusesExactly, ReadingRefuses}
use Rattle.ultra_acceptance.specs.Refusing.{Refuses.head, Refuses.attribute}
use Rattle.ultra_acceptance.proofs.Least.{settled_none, settled_least}
use Rattle.ultra_acceptance.proofs.Rows.{head_settled, attribute_settled}

-- ---- what is to be refused is
walks_to : (b : List ℕ) (n k : ℕ) → k ≤ n → ClearBefore b k → attributes_answer b (room_of b) 0 n ≡ attributes_answer b (room_of b) k (n - k)
walks_to b n zero l c = let q : n - 0 ≡ n = omega arith in rw q
walks_to b n (suc k) l c =
    walks_to b n k (omega arith) (λ j h. c j (omega arith))
    ∙ (rw add-one at (walk_next b (room_of b) k n l (settled_none (attribute_settled b k) (c k (omega arith)))))

module _ (fewest : ℕ) (b : List ℕ) where
  reaches : (k : ℕ) → k ≤ stored_count b → NoneBreaks (HeadBreaks fewest b) → ClearBefore b k → used_length fewest b ≡ attributes_answer b (room_of b) k (stored_count b - k)
  reaches k l h c = sym (head_goes_on fewest b (settled_none (head_settled fewest b) h)) ∙ walks_to b (stored_count b) k l c

  is_refused : (n o : ℕ) → Refuses fewest b n o → used_length fewest b ≡ refused n o
  is_refused n o (head l) =
      let s = settled_least (head_settled fewest b) l in
      sym (head_refuses fewest b s.0) ∙ ap (λ (k : ℕ). refused k 0) s.1
  is_refused n o (attribute h i l c e) =
      let s = settled_least (attribute_settled b i) e in
      reaches i (omega arith) h c ∙ walk_refuse b (room_of b) i (stored_count b) l s.0 ∙ ap (λ (k : ℕ). refused k (start b i)) s.1

  -- ---- every buffer is accepted or to be refused
  abbrev ToRefuse : Type 0
  ToRefuse = (n : ℕ) × (o : ℕ) × Refuses fewest b n o

  first_broken : NoneBreaks (HeadBreaks fewest b) → (k : ℕ) → k ≤ stored_count b → ClearBefore b k ⊎ ToRefuse
  first_broken h zero l = inl (below_none _)
  first_broken h (suc k) l = ⊎_elim next inr (first_broken h k (omega arith))
    where
      next : ClearBefore b k → ClearBefore b (suc k) ⊎ ToRefuse
      next c = ⊎_elim (λ s. inl (λ j g. below_more _ _ c s.1 j (omega arith))) (λ s. inr (_, _, attribute h k l c s.1)) (attribute_settled b k)

  accepted_or : (used_length fewest b ≡ Ok (start b (stored_count b))) ⊎ ToRefuse
  accepted_or = ⊎_elim (λ s. attributes s.1) (λ s. inr (_, _, head s.1)) (head_settled fewest b)
    where
      attributes : NoneBreaks (HeadBreaks fewest b) → (used_length fewest b ≡ Ok (start b (stored_count b))) ⊎ ToRefuse
      attributes h =
          let n = stored_count b in
          ⊎_elim (λ c. inl (reaches n (omega arith) h c ∙ walk_end b (room_of b) n n refl)) inr (first_broken h n (omega arith))

  to_refuse : (n o : ℕ) → used_length fewest b ≡ refused n o → Refuses fewest b n o
  to_refuse n o e = ⊎_elim (λ d. absurd (let z : ◌≡◌ {A = ℕ} 0 1 = cc in omega arith)) (λ r. same r.0 r.1 r.2) accepted_or
    where
      same : (m p : ℕ) → Refuses fewest b m p → Refuses fewest b n o
      same m p r =
          let q = sym (is_refused m p r) ∙ e in
          let x : m ≡ n = ap number_of q in
          let y : p ≡ o = ap value_of q in
          rw (x, y) at r

-- ---- the statements
pub refuses_exactly : RefusesExactly
refuses_exactly fewest b r = (to_refuse fewest b r.number r.offset, is_refused fewest b r.number r.offset)

refused_alike : (v : Version) (a : Answer) (r : Refusal) → with_version v a ≡ Err r → a ≡ Err r
refused_alike v (Ok n) r e = absurd (let z : ◌≡◌ {A = ℕ} 0 1 = cc in omega arith)
refused_alike v (Err q) r e = cc

pub reading_refuses : ReadingRefuses
unfolding reading_of
reading_refuses b r =
    let x = refuses_exactly 2 b r in
    (λ e. x.0 (refused_alike (version_of b) (used_length 2 b) r e), λ t. ap (with_version (version_of b)) (x.1 t))

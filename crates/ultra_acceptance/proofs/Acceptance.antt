-- Proofs of the statements in specs/Acceptance.antt: the one context that a buffer can hold is the one that is decoded from it; it
-- meets the rules just where every test passes.
use Rattle.std.specs.Prelude.{Ok, Err}
use Prim.Native.Nat.{ℕ, zero, suc, ◌≤◌, ◌<◌}
use mathlib.Core.Path.{◌≡◌, refl, sym, ap, ◌∙◌, subst}
use mathlib.Core.List.{List}
use native.Mathlib.Omega.{arith}
use lib.ListN.{get_or}
use Rattle.byte_layout.specs.Fields.{cells}
use Rattle.byte_layout.specs.Stored.{Bytes}
use Rattle.byte_layout.proofs.Cells.{opens_over}
use Rattle.byte_layout.proofs.FieldLaws.{length_cells}
use Rattle.ultra_format.specs.Contexts.{Attribute, Context, count, size_at, body_at, used}
use Rattle.lent_buffers.specs.Room.{room_of}
use Rattle.ultra_format.specs.Layouts.{layout, Opens}
use Rattle.ultra_format.specs.Rules.{TypeSuits, AttributeMeets, Meets}
use Rattle.ultra_format.specs.Decoding.{decoded, start, stored_type, stored_size, stored_count, stored_attribute, context_of}
use Rattle.refusals.specs.Answers.{Answer, refused, or_refused}
use Rattle.refusals.specs.declared.Refusal.{Refusal}
use Rattle.ultra_format.proofs.Bodies.{by_type}
use Rattle.ultra_format.proofs.Attributes.{Sized, sized, width_attribute, width_layout, says_fits, says_opens}
use Rattle.ultra_format.proofs.Decoded.{count_decoded, at_decoded, type_decoded, used_decoded, says_decoded, decoded_only}
use Rattle.ultra_stepping.specs.Checks.{head_check}
use Rattle.ultra_reading.specs.Reading.{check_of, attributes_answer, used_length, version_of, with_version, reading_of, reading_number, read_as}
use Rattle.ultra_acceptance.specs.Acceptance.{HoldsContext, AcceptsExactly, OneContext, SilentBytes, version_in, ReadsExactly, ReadsHeld}
use Rattle.ultra_acceptance.proofs.Types.{fits, Ordered, ordered, no_check}
use Rattle.ultra_acceptance.proofs.Walked.{Passes, Accepted, accepted, accepting, inside, ends}

-- a decoded body suits its type, where that is not 0
four_on : (t : ℕ) → (t ≡ 0 → ⊥) → (t ≡ 1 → ⊥) → (t ≡ 2 → ⊥) → (t ≡ 3 → ⊥) → 4 ≤ t
four_on t n0 n1 n2 n3 = omega arith

seven_on : (t : ℕ) → 4 ≤ t → (t ≡ 4 → ⊥) → (t ≡ 5 → ⊥) → (t ≡ 6 → ⊥) → 7 ≤ t
seven_on t h n4 n5 n6 = omega arith

pub suits_type : (b : List ℕ) (o s t : ℕ) → (t ≡ 0 → ⊥) → TypeSuits (decoded b o s t)
suits_type b o s t z = by_type TypeSuits b o s t (λ e. tt) (λ e. tt) (λ e. tt) (λ e. tt) (λ e. tt) (λ e. tt) (λ n. seven_on t (four_on t z n.0 n.1 n.2) n.3 n.4 n.5)

-- ---- from reading to the rules
module _ (fewest : ℕ) (b : List ℕ) (n : ℕ) (a : Accepted fewest b n) where
  stored_meets : (i : ℕ) → i < stored_count b → AttributeMeets (stored_attribute b i).size (stored_attribute b i).body
  stored_meets i h =
      let p = a.each i h in
      let k = p.bounds in
      let d = p.body in
      record {
        eights = k.eights;
        least = k.least;
        type_suits = suits_type b (start b i) (stored_size b i) (stored_type b i) k.typed;
        suits = d.suits;
        values_hold = d.values_hold;
        texts_hold = d.texts_hold;
        ranges_hold = d.ranges_hold;
        in_order = d.in_order;
      }

  each_meets : (i : ℕ) → i < count (context_of b) → AttributeMeets (size_at (context_of b) i) (body_at (context_of b) i)
  each_meets i l = let h : i < stored_count b = rw count_decoded at l in subst (λ (a : Attribute). AttributeMeets a.size a.body) (sym (at_decoded b i h)) (stored_meets i h)

  decoded_sized : Sized (context_of b).attributes
  decoded_sized i l = let m = each_meets i l in width_attribute (size_at (context_of b) i) (body_at (context_of b) i) m.least m.eights m.suits

  types : Ordered b (stored_count b)
  types = ordered b (stored_count b) (λ i h. fits _ _ (a.each i h).place) (λ i h. (a.each i h).bounds.typed)

  decoded_meets : Bytes b → Meets fewest (room_of b) (context_of b)
  unfolding context_of
  decoded_meets y =
      let c = stored_count b in
      let t = types in
      let k = type_decoded b in
      let q = count_decoded b in
      record {
        fits = says_fits b (context_of b) y decoded_sized (says_decoded b);
        major = positive (get_or b 0 0) a.head.major;
        enough = rw q a.head.enough;
        most = rw q a.head.most;
        within = rw (used_decoded b) (inside b (room_of b) c a.head.room a.each);
        typed = λ i l e. let h : i < c = rw q at l in (a.each i h).bounds.typed (sym (k i h) ∙ e);
        first = λ l. let h : 0 < c = rw q at l in k 0 h ∙ t.first h;
        second = λ l. let h : 1 < c = rw q at l in k 1 h ∙ t.second h;
        later = λ i g l. let h : i < c = rw q at l in (λ e. (t.later i g h).0 (sym (k i h) ∙ e), λ e. (t.later i g h).1 (sym (k i h) ∙ e));
        once = λ i j g l s e. let h : j < c = rw q at l in t.once i j g h (rw (k j h) at s) (sym (k i (omega arith)) ∙ e ∙ k j h);
        together = λ i j m g r l e. let h : m < c = rw q at l in k j (omega arith) ∙ t.together i j m g r h (sym (k i (omega arith)) ∙ e ∙ k m h) ∙ sym (k m h);
        each = each_meets;
      }
    where
      positive : (x : ℕ) → (x ≡ 0 → ⊥) → 1 ≤ x
      positive x z = omega arith

-- an accepted buffer's context meets the rules and opens it, with the used length that reading answers
sound : (fewest : ℕ) (b : List ℕ) (n : ℕ) → Bytes b → used_length fewest b ≡ Ok n → Meets fewest (room_of b) (context_of b) × Opens b (context_of b) × (n ≡ used (context_of b))
sound fewest b n y e =
    let a = accepted fewest b n e in
    let m = decoded_meets fewest b n a y in
    (m, says_opens b (context_of b) y (sized m) (omega (arith, m.within)) (says_decoded b), a.used ∙ sym (used_decoded b))

-- ---- from the rules to reading
module _ (fewest : ℕ) (b : List ℕ) (m : Meets fewest (room_of b) (context_of b)) where
  in_order_law : Ordered b (stored_count b)
  in_order_law =
      let k = type_decoded b in
      let q = count_decoded b in
      record {
        first = λ h. sym (k 0 h) ∙ m.first (rw q h);
        second = λ h. sym (k 1 h) ∙ m.second (rw q h);
        later = λ i g h. let d = m.later i g (rw q h) in (λ e. d.0 (k i h ∙ e), λ e. d.1 (k i h ∙ e));
        once = λ i j g h s e. m.once i j g (rw q h) (rw (k j h) s) (k i (omega arith) ∙ e ∙ sym (k j h));
        together = λ i j l g r h e. sym (k j (omega arith)) ∙ m.together i j l g r (rw q h) (k i (omega arith) ∙ e ∙ sym (k l h)) ∙ k l h;
      }

  stored_passes : (j : ℕ) → j < stored_count b → Passes b (room_of b) j
  stored_passes j h =
      let l : j < count (context_of b) = rw count_decoded h in
      let d : AttributeMeets (stored_attribute b j).size (stored_attribute b j).body = subst (λ (a : Attribute). AttributeMeets a.size a.body) (at_decoded b j h) (m.each j l) in
      let w : start b (stored_count b) ≤ room_of b = rw used_decoded at m.within in
      let g = ends b (stored_count b) j h in
      let s = d.least in
      record {
        bounds = record { header = omega arith; least = s; eights = d.eights; within = omega arith; typed = λ e. m.typed j l (type_decoded b j h ∙ e) };
        place = no_check b (stored_count b) in_order_law j h;
        body = record { suits = d.suits; values_hold = d.values_hold; texts_hold = d.texts_hold; ranges_hold = d.ranges_hold; in_order = d.in_order };
      }

  decoded_accepted : Accepted fewest b (used (context_of b))
  unfolding context_of
  decoded_accepted =
      record {
        head = record { room = omega (arith, m.within); major = λ e. omega (arith, m.major); most = rw count_decoded at m.most; enough = rw count_decoded at m.enough };
        each = stored_passes;
        used = used_decoded b;
      }

-- whatever meets the rules and opens a buffer is accepted, with its used length
pub complete : (fewest : ℕ) (b : List ℕ) (c : Context) → Meets fewest (room_of b) c → Opens b c → used_length fewest b ≡ Ok (used c)
complete fewest b c m o =
    let q = decoded_only fewest (room_of b) b c m o in
    rw q (accepting fewest b (used (context_of b)) (decoded_accepted fewest b (subst (Meets fewest (room_of b)) q m)))

-- ---- silent bytes
-- the rules in another room and with another lower limit of the count
pub rehoused : {fewest least room other : ℕ} {c : Context} → Meets fewest room c → least ≤ count c → used c ≤ other → Meets least other c
rehoused m l h =
    record {
      fits = m.fits;
      major = m.major;
      enough = l;
      most = m.most;
      within = h;
      typed = m.typed;
      first = m.first;
      second = m.second;
      later = m.later;
      once = m.once;
      together = m.together;
      each = m.each;
    }

-- ---- the statements
pub accepts_exactly : AcceptsExactly
accepts_exactly fewest b n y =
    (λ e. let s = sound fewest b n y e in (context_of b, (s.0, s.1), s.2), λ r. complete fewest b r.0 r.1.0 r.1.1 ∙ ap Ok (sym r.2))

pub one_context : OneContext
one_context fewest b c d g h = decoded_only fewest (room_of b) b c g.0 g.1 ∙ sym (decoded_only fewest (room_of b) b d h.0 h.1)

pub silent_bytes : SilentBytes
silent_bytes fewest b d c g s =
    let m = g.0 in
    let n = length_cells (layout c) ∙ width_layout c (sized m) in
    let p : Opens d c = opens_over b d (cells (layout c)) g.1 (omega arith) (λ i k e. s.1 i (omega arith) e) in
    let w : Meets fewest (room_of d) c = rehoused m m.enough (omega (arith, m.within)) in
    ((w, p), complete fewest d c w p ∙ sym (complete fewest b c m g.1))

-- ---- reading
-- what reading answers of a buffer that holds a context
pub held_reading : ReadsHeld
unfolding reading_of context_of
held_reading b c h =
    let q = decoded_only 2 (room_of b) b c h.0 h.1 in
    ap (with_version (version_of b)) (complete 2 b c h.0 h.1) ∙ ap (λ (d : Context). read_as (version_in d) (used c)) (sym q)

-- a refusal's number is not 0
refusal_number : (n o : ℕ) (rest : Answer) (r : Refusal) → (rest ≡ Err r → r.number ≡ 0 → ⊥) → or_refused n o rest ≡ Err r → r.number ≡ 0 → ⊥
refusal_number zero o rest r h e z = h e z
refusal_number (suc n) o rest r h e z = let q : r.number ≡ suc n = number_of_law n o r e in omega arith
  where
    number_of_law : (n o : ℕ) (r : Refusal) → refused (suc n) o ≡ Err r → r.number ≡ suc n
    number_of_law n o r e = cc

attributes_number : (b : List ℕ) (room i n : ℕ) (r : Refusal) → attributes_answer b room i n ≡ Err r → r.number ≡ 0 → ⊥
unfolding attributes_answer
attributes_number b room i zero r e z = let w : ◌≡◌ {A = ℕ} 0 1 = cc in omega arith
attributes_number b room i (suc n) r e z = refusal_number (check_of b room i) (start b i) _ r (attributes_number b room (suc i) n r) e z

pub used_number : (fewest : ℕ) (b : List ℕ) (r : Refusal) → used_length fewest b ≡ Err r → r.number ≡ 0 → ⊥
unfolding used_length
used_number fewest b r e z = refusal_number (head_check fewest b) 0 _ r (attributes_number b (room_of b) 0 (stored_count b) r) e z

number_held : (b : List ℕ) → Bytes b → (a : Answer) → used_length 2 b ≡ a → reading_number (with_version (version_of b) a) ≡ 0
    → (c : Context) × HoldsContext 2 b c
number_held b y (Ok n) e z = let s = sound 2 b n y e in (context_of b, (s.0, s.1))
number_held b y (Err r) e z = absurd (used_number 2 b r e z)

pub reads_exactly : ReadsExactly
unfolding reading_of
reads_exactly b y = (number_held b y (used_length 2 b) refl, λ r. ap reading_number (held_reading b r.0 r.1))

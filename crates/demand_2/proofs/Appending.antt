-- Adding to a buffer that holds a context appends the attribute given.
use Rattle.std.specs.Prelude.{Ok}
use Prim.Native.Nat.{ℕ, zero, suc, ◌+◌, ◌≤◌, ◌<◌}
use mathlib.Core.Path.{◌≡◌, refl, sym, ap, ap₂, ◌∙◌, subst}
use mathlib.Core.List.{List, [], ◌∷◌, ◌++◌}
use mathlib.Core.Logic.{◌⊎◌, ◌⊎◌.inl, ◌⊎◌.inr, ⊎_elim}
use native.Mathlib.Omega.{arith}
use native.Mathlib.Nat.{eq-or-lt_of_le}
use lib.ListN.{length, get_or, take, length-append, get_or-append}
use lib.Seq.{get_or-append_seam}
use Rattle.words.specs.Words.{replaced}
use Rattle.byte_layout.specs.Fields.{cells, Fits, SilentAt}
use Rattle.byte_layout.specs.Fields as fields
use Rattle.refusals.specs.Answers.{value_of, or_refused}
use Rattle.ultra_format.specs.Contexts.{type_of, Attribute, Context, count, size_at, body_at, type_at, total, used}
use Rattle.lent_buffers.specs.Room.{room_of}
use Rattle.ultra_format.specs.Layouts.{attribute_fields, attributes_fields, layout, Opens, written}
use Rattle.ultra_format.specs.Places.{place_check}
use Rattle.ultra_format.specs.Rules.{AttributeMeets, Meets}
use Rattle.ultra_format.specs.Decoding.{stored_type, stored_count, types_before}
use Rattle.ultra_format.specs.Additions.{Addition, type_given, size_given, attribute_given, bytes_given, addition_check, body_given}
use Rattle.ultra_format.proofs.Attributes.{Sized, sized, Says, opens_says}
use Rattle.ultra_format.proofs.Rows.{total_append}
use Rattle.ultra_format.proofs.Decoded.{starts}
use Rattle.ultra_format.proofs.Witness.{silent_zero}
use Rattle.ultra_places.proofs.PlaceLaws.{length_types}
use Rattle.ultra_acceptance.specs.Acceptance.{HoldsContext}
use Rattle.ultra_acceptance.proofs.Types.{fits, Ordered, ordered}
use Rattle.ultra_acceptance.proofs.Walked.{accepted}
use Rattle.ultra_acceptance.proofs.Acceptance.{complete}
use Rattle.ultra_appending.specs.Appending.{counted}
use Rattle.ultra_adding.specs.Adding.{with_attribute, added_at, added}
use Rattle.ultra_appending.proofs.Appending.{Appendable, appendable}
use Rattle.ultra_adding.proofs.Adding.{check_on, added_held}
use Rattle.ultra_edits.specs.Splicing.{counting}
use Rattle.ultra_edits.specs.Edits.{edited, extended, row_written, edited_bytes, Edited}
use Rattle.ultra_edits.proofs.Edits.{fits_edited, opens_edited, edit_holds}
use Rattle.ultra_edits.proofs.OneAttribute.{one_field, one_written, as_edit, end_start, extending_edits}
use Rattle.demand_2.specs.Arguments.{AdditionTyped}
use Rattle.demand_2.specs.Demand2.{Appended}
use Rattle.demand_2.proofs.Additions.{given_meets, given_width, given_length, given_type, attribute_fits}

-- ---- one more at the end of a list
module _ {X : Type 0} (l : List X) (a : X) where
  length_more : length (l ++ (a ∷ [])) ≡ length l + 1
  length_more = length-append l (a ∷ [])

  at_old : (z : X) (i : ℕ) → i < length l → get_or (l ++ (a ∷ [])) i z ≡ get_or l i z
  at_old z i h = get_or-append l (a ∷ []) z i h

  at_new : (z : X) → get_or (l ++ (a ∷ [])) (length l) z ≡ a
  at_new z = get_or-append_seam l a [] z

  -- what holds of the old ones and of the new one holds of all
  pub all_more : (z : X) (P : X → Type 0) → ((i : ℕ) → i < length l → P (get_or l i z)) → P a → (i : ℕ) → i < length (l ++ (a ∷ [])) → P (get_or (l ++ (a ∷ [])) i z)
  all_more z P h p i k =
      let n = length_more in
      ⊎_elim (λ e. subst P (sym (ap (λ (j : ℕ). get_or (l ++ (a ∷ [])) j z) e ∙ at_new z)) p)
      (λ lt. subst P (sym (at_old z i lt)) (h i lt)) (eq-or-lt_of_le {m = length l} (let w : i ≤ length l = omega arith in w))

pub total_more : (l : List Attribute) (a : Attribute) → total (l ++ (a ∷ [])) ≡ total l + a.size
unfolding total
total_more l a = omega (arith, total_append l (a ∷ []))

-- ---- the types in a buffer that says a context
pub says_type : (b : List ℕ) (c : Context) → Says b c → (i : ℕ) → i < count c → stored_type b i ≡ type_at c i
says_type b c s i h = rw (starts b c s i (omega arith)) (s.stored i h).kind

types_same : (b d : List ℕ) (n : ℕ) → ((i : ℕ) → i < n → stored_type d i ≡ stored_type b i) → types_before d n ≡ types_before b n
unfolding types_before
types_same b d zero h = refl
types_same b d (suc n) h = ap₂ (λ (t : ℕ) (l : List ℕ). t ∷ l) (h n (omega arith)) (types_same b d n (λ i k. h i (omega arith)))

-- ---- the buffer with the attribute
module _ (b : List ℕ) (c : Context) (g : Addition) (h : HoldsContext 0 b c) (y : AdditionTyped g) (z : check_on b c g ≡ 0) where
  spot : Appendable (types_before b (stored_count b)) (room_of b) (used c) (type_given g) (addition_check g) (size_given g)
  spot = appendable _ _ _ _ _ _ z

  pub sound : addition_check g ≡ 0
  sound = spot.sound

  says : Says b c
  says = opens_says b c h.0.fits (sized h.0) h.1

  abbrev l : List Attribute
  l = c.attributes

  abbrev a : Attribute
  a = attribute_given g

  abbrev more : Context
  more = extended c a

  abbrev left : List ℕ
  left = with_attribute b (used c) (body_given g)

  count_more : stored_count b + 1 ≡ count more
  count_more = omega (arith, says.count, length_more l a)

  -- what the add leaves is what the edit leaves
  left_is : left ≡ edited_bytes b c (count c) 0 (a ∷ [])
  unfolding counted
  left_is = ap (λ (n : ℕ). replaced (counting (n + 1) b) (used c) (length (bytes_given g)) (bytes_given g)) says.count ∙ sym (extending_edits b c a).1

  sized_new : Sized (a ∷ [])
  sized_new zero k = given_width g sound
  sized_new (suc i) k = absurd (omega arith)

  inside : used (edited c (count c) 0 (a ∷ [])) ≤ length b
  inside = omega (arith, ap used (as_edit c a), total_more l a, spot.within)

  opens_more : Opens left more
  opens_more =
      subst (λ (q : List ℕ). Opens q more) (sym left_is)
      (subst (Opens (edited_bytes b c (count c) 0 (a ∷ []))) (as_edit c a) (opens_edited b c (count c) 0 (a ∷ []) (sized h.0) sized_new inside h.1))

  fits_new : Fits (attributes_fields (a ∷ []))
  fits_new = rw (one_field a) (attribute_fits g sound y (omega (arith, spot.within)))

  most : count more ≤ 1024
  most = omega (arith, count_more, spot.few, length_types b (stored_count b))

  fits_more : Fits (layout more)
  fits_more =
      let n : count (edited c (count c) 0 (a ∷ [])) ≤ 1024 = omega (arith, ap count (as_edit c a), most) in
      subst (λ (q : Context). Fits (layout q)) (as_edit c a) (fits_edited c (count c) 0 (a ∷ []) h.0.fits fits_new n)

  sized_more : Sized more.attributes
  sized_more = all_more l a _ (λ (x : Attribute). fields.width (attribute_fields x) ≡ x.size) (sized h.0) (given_width g sound)

  says_more : Says left more
  says_more = opens_says left more fits_more sized_more opens_more

  -- the types, of which each stands where it may: the old ones as they did, and the new one by the test
  old_type : (i : ℕ) → i < stored_count b → stored_type left i ≡ stored_type b i
  old_type i k =
      let n : i < count c = omega (arith, says.count) in
      says_type left more says_more i (omega (arith, count_more)) ∙ ap (λ (x : Attribute). type_of x.body) (at_old l a _ i n) ∙ sym (says_type b c says i n)

  old_types : (i : ℕ) → i ≤ stored_count b → types_before left i ≡ types_before b i
  old_types i k = types_same b left i (λ j n. old_type j (omega arith))

  new_type : stored_type left (stored_count b) ≡ type_given g
  new_type =
      says_type left more says_more (stored_count b) (omega (arith, count_more))
      ∙ ap (λ (i : ℕ). type_at more i) says.count ∙ ap (λ (x : Attribute). type_of x.body) (at_new l a _)

  placed_all : (i : ℕ) → i < count more → place_check (types_before left i) (stored_type left i) ≡ 0
  placed_all i k =
      ⊎_elim
      (λ e. rw (e, old_types (stored_count b) (omega arith), new_type) spot.place)
      (λ lt. rw (old_types i (omega arith), old_type i lt) ((accepted 0 b (used c) (complete 0 b c h.0 h.1)).each i lt).place)
      (eq-or-lt_of_le {m = stored_count b} (let w : i ≤ stored_count b = omega (arith, count_more) in w))

  each_more : (i : ℕ) → i < count more → AttributeMeets (size_at more i) (body_at more i)
  each_more = all_more l a _ (λ (x : Attribute). AttributeMeets x.size x.body) h.0.each (given_meets g sound)

  typed_more : (i : ℕ) → i < count more → type_at more i ≡ 0 → ⊥
  typed_more = all_more l a _ (λ (x : Attribute). type_of x.body ≡ 0 → ⊥) h.0.typed (λ e. omega (arith, given_type g))

  ordered_more : Ordered left (count more)
  ordered_more = ordered left (count more) (λ i k. fits _ _ (placed_all i k)) (λ i k e. typed_more i k (sym (says_type left more says_more i k) ∙ e))

  meets_more : Meets 0 (room_of b) more
  meets_more =
      let t = ordered_more in
      let k = says_type left more says_more in
      record {
        fits = fits_more;
        major = h.0.major;
        enough = omega arith;
        most = most;
        within = omega (arith, total_more l a, spot.within);
        typed = typed_more;
        first = λ n. sym (k 0 n) ∙ t.first n;
        second = λ n. sym (k 1 n) ∙ t.second n;
        later = λ i r n. (λ e. (t.later i r n).0 (k i n ∙ e), λ e. (t.later i r n).1 (k i n ∙ e));
        once = λ i j r n s e. t.once i j r n (rw (k j n) s) (k i (omega arith) ∙ e ∙ sym (k j n));
        together = λ i j m r s n e. sym (k j (omega arith)) ∙ t.together i j m r s n (k i (omega arith) ∙ e ∙ sym (k m n)) ∙ k m n;
        each = each_more;
      }

  -- ---- what an add leaves
  changed : Edited 0 b c (count c) 0 (a ∷ []) left
  changed =
      subst (Edited 0 b c (count c) 0 (a ∷ [])) (sym left_is)
      (edit_holds 0 b c (count c) 0 (a ∷ []) h (subst (Meets 0 (room_of b)) (sym (as_edit c a)) meets_more))

  pub held_more : HoldsContext 0 left more
  held_more = subst (HoldsContext 0 left) (as_edit c a) changed.holds

  pub left_length : length left ≡ length b
  left_length = changed.same_length

  -- where the bytes were a writer's, they are
  pub written_left : take (used c) b ≡ written c → take (used more) left ≡ written more
  written_left e = subst (λ (q : Context). take (used q) left ≡ written q) (as_edit c a) (changed.rewritten e)

  fresh_zeros : (i : ℕ) → SilentAt (cells (attribute_fields a)) i → i < size_given g → get_or left (used c + i) 0 ≡ 0
  fresh_zeros i e k =
      let n : i < length (row_written (a ∷ [])) = omega (arith, ap length (one_written a), given_length g sound) in
      ap (λ (o : ℕ). get_or left (o + i) 0) (sym (end_start c a)) ∙ changed.fresh i n ∙ ap (λ (x : List ℕ). get_or x i 0) (one_written a) ∙ silent_zero (cells (attribute_fields a)) i e

  other_bytes_law : (i : ℕ) → (i < 4) ⊎ ((8 ≤ i) × (i < used c)) ⊎ (used c + size_given g ≤ i) → get_or left i 0 ≡ get_or b i 0
  other_bytes_law i (inl k) = changed.before i (inl k)
  other_bytes_law i (inr (inl k)) = changed.before i (inr (k.0, omega (arith, end_start c a)))
  other_bytes_law i (inr (inr k)) = changed.past i (omega (arith, ap used (as_edit c a), total_more l a))

-- what an accepted add leaves holds one attribute more
pub appends : (b : List ℕ) (c : Context) (g : Addition) (n : ℕ) → HoldsContext 0 b c → AdditionTyped g → (added b g).0 ≡ Ok n → Appended b c g (added b g).1 n
appends b c g n h y e = let q = added_held b c g h in rw q (go (check_on b c g) refl (rw q at e))
  where
    go : (f : ℕ) → check_on b c g ≡ f → (added_at b (body_given g) (or_refused f (used c) (Ok (used c)))).0 ≡ Ok n
        → Appended b c g (added_at b (body_given g) (or_refused f (used c) (Ok (used c)))).1 n
    go zero z r =
        let w : used c + size_given g ≡ n = ap value_of r in
        record { held = held_more b c g h y z; answered = sym w; zeros = fresh_zeros b c g h y z; others = λ i k. other_bytes_law b c g h y z i (rw (← w) at k) }
    go (suc f) z r = absurd (let w : ◌≡◌ {A = ℕ} 0 1 = cc in omega arith)

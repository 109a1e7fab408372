-- A plain context is built again from its reading. The additions that are read back are those of its bodies, so that the context is
-- theirs; as it meets the rules, none of them is refused, and a buffer that follows them begins with what a writer writes of it.
use Prim.Native.Nat.{ℕ, zero, suc, ◌+◌, ◌≤◌, ◌<◌}
use mathlib.Core.Path.{◌≡◌, refl, sym, ap, ◌∙◌, subst}
use mathlib.Core.List.{List, [], ◌∷◌, ◌++◌, append-nil}
use native.Mathlib.Omega.{arith}
use native.Mathlib.Nat.{zero-add}
use lib.ListN.{length, take, length-append, get_or-append}
use lib.Seq.{take-length, take-suc, append_snoc, get_or-append_seam}
use borrow.Author.Tests.{le-leb, lt-ltb}
use Rattle.byte_layout.specs.Fields.{cells}
use Rattle.byte_layout.proofs.Cells.{filled_only}
use Rattle.byte_layout.proofs.FieldLaws.{length_cells}
use Rattle.ultra_format.specs.Contexts.{type_of, Attribute, Context, count, attribute_at, size_at, body_at, total, used}
use Rattle.ultra_format.specs.Contexts.{Body.other}
use Rattle.lent_buffers.specs.Room.{room_of}
use Rattle.ultra_format.specs.Layouts.{layout, written}
use Rattle.ultra_format.specs.Places.{place_check}
use Rattle.ultra_format.specs.Plain.{written_size, Plain}
use Rattle.ultra_format.specs.Decoding.{stored_type, types_before}
use Rattle.ultra_format.specs.Additions.{Addition, body_given, formed, type_given, size_given, attribute_given, addition_check}
use Rattle.ultra_format.specs.Additions.{Addition.add_command_line}
use Rattle.ultra_format.proofs.Rows.{total_append}
use Rattle.ultra_format.proofs.Attributes.{attribute, at, sized, width_layout, body_fits, Says, opens_says}
use Rattle.ultra_places.proofs.PlaceLaws.{length_types}
use Rattle.ultra_acceptance.proofs.Walked.{accepted}
use Rattle.ultra_acceptance.proofs.Acceptance.{complete}
use Rattle.ultra_appending.specs.Appending.{append_check}
use Rattle.ultra_adding.specs.Adding.{added}
use Rattle.ultra_building.specs.Building.{begun}
use Rattle.ultra_acceptance.specs.Acceptance.{HoldsContext}
use Rattle.demand_2.specs.Calls.{Write.add, Call.write, run_write}
use Rattle.demand_2.specs.CallsFromC.{after, replies}
use Rattle.demand_2.specs.Arguments.{AdditionTyped, AllTyped}
use Rattle.demand_2.specs.Model.{attributes_given, context_given, types_after, refusal_of, giving, appended, list_after_all}
use Rattle.demand_2.specs.Demand2.{records_back, adds, AllSucceeded, rebuilding, Rebuilt}
use Rattle.demand_2.proofs.Appending.{all_more, says_type}
use Rattle.demand_2.proofs.Following.{Added, Keeps, length_given_law, given_append, types_after_law, begun_is, begin_follows, added_is, step_follows, same_room}
use Rattle.demand_2.proofs.Records.{giving_body, giving_typed, giving_clear}
use Rattle.demand_2.proofs.ReadingBack.{record_at_law}

-- ---- additions in a row, none of which the list refuses
unfoldable Taken : ℕ → List Addition → List Addition → Type 0
Taken room gs [] = Unit {0}
Taken room gs (g ∷ more) = (refusal_of room gs g ≡ 0) × Taken room (gs ++ (g ∷ [])) more

-- a buffer that follows the list takes them
record Took (d : List ℕ) (gs more : List Addition) : Type 0 where
  succeeded : AllSucceeded (replies (adds more) d)
  keeps : Keeps (after (adds more) d) (gs ++ more)
  long : length (after (adds more) d) ≡ length d

takes : (more gs : List Addition) (d : List ℕ) → Keeps d gs → AllTyped (adds more) → Taken (room_of d) gs more → Took d gs more
unfolding Taken AllSucceeded AllTyped replies adds after run_write
takes [] gs d h y t = record { succeeded = tt; keeps = rw append-nil h; long = refl }
takes (g ∷ more) gs d h y t =
    let s = step_follows d gs (write (add g)) h y.0 in
    let r = takes more (gs ++ (g ∷ [])) (added d g).1 (rw t.0 at s.0) y.1 (rw (same_room (added d g).1 d s.1) t.1) in
    record { succeeded = ((_, refl, rw (added_is d gs h.follows (formed g) (body_given g), t.0)), r.succeeded); keeps = rw (← (append_snoc gs g more)) r.keeps; long = r.long ∙ s.1 }

-- ---- they are those whose context some buffer holds, wherever there is room for it: what stands in that buffer at the place of g tells
-- that g may stand there
module _ (b : List ℕ) (p : List Addition) (g : Addition) (q : List Addition) (h : HoldsContext 2 b (context_given (p ++ g ∷ q))) where
  abbrev whole : Context
  whole = context_given (p ++ g ∷ q)

  abbrev front : List Attribute
  front = attributes_given p

  parts : whole.attributes ≡ front ++ attribute_given g ∷ attributes_given q
  unfolding attributes_given
  parts = given_append p (g ∷ q)

  here : length p < count whole
  here = omega (arith, length_given_law (p ++ g ∷ q), length-append p (g ∷ q))

  says : Says b whole
  says = opens_says b whole h.0.fits (sized h.0) h.1

  type_here : stored_type b (length p) ≡ type_given g
  type_here =
      says_type b whole says (length p) here
      ∙ (λ i. type_of (at (parts i) (sym (length_given_law p) i)).body)
      ∙ ap (λ (a : Attribute). type_of a.body) (get_or-append_seam front (attribute_given g) (attributes_given q) (attribute 0 (other 0)))

  types_before_law : types_after [] p ≡ types_before b (length p)
  unfolding types_before
  types_before_law =
      types_after_law b 0 p (λ i k. rw zero-add
      (says_type b whole says i (omega (arith, here)) ∙ ap (λ (l : List Attribute). type_of (at l i).body) parts
      ∙ ap (λ (a : Attribute). type_of a.body) (get_or-append front _ _ i (omega (arith, length_given_law p)))))
      ∙ ap (types_before b) (zero-add (length p))

  placed : place_check (types_before b (length p)) (type_given g) ≡ 0
  placed = rw type_here at ((accepted 2 b (used whole) (complete 2 b whole h.0 h.1)).each (length p) (omega (arith, here, says.count))).place

  size_here : used (context_given p) + size_given g ≤ used whole
  unfolding total attributes_given
  size_here = omega (arith, ap total parts, total_append front (attribute_given g ∷ attributes_given q))

  unrefused : (room : ℕ) → addition_check g ≡ 0 → used whole ≤ room → refusal_of room p g ≡ 0
  unfolding append_check
  unrefused room f w =
      rw (types_before_law, length_types b (length p), lt-ltb (length p) 1024 (omega (arith, here, h.0.most)), placed, f, le-leb (used (context_given p) + size_given g) room (omega (arith, size_here)))

taken : (room : ℕ) (b : List ℕ) (q p gs : List Addition) → gs ≡ p ++ q → HoldsContext 2 b (context_given gs) → Added gs → used (context_given gs) ≤ room → Taken room p q
unfolding Taken
taken room b [] p gs e h a w = tt
taken room b (g ∷ q) p gs e h a w =
    let f = (a (length p) (omega (arith, ap length e, length-append p (g ∷ q)))).1 in (
      unrefused b p g q (rw e at h) room (rw (e, get_or-append_seam p g q (add_command_line [])) at f) (rw e at w),
      taken room b q (p ++ (g ∷ [])) gs (e ∙ sym (append_snoc p g q)) h a w,
    )

-- and the list has them
list_taken : (room : ℕ) (more gs : List Addition) → Taken room gs more → list_after_all room (adds more) gs ≡ gs ++ more
unfolding Taken list_after_all adds
list_taken room [] gs t = sym (append-nil gs)
list_taken room (g ∷ more) gs t =
    ap (λ (n : ℕ). list_after_all room (adds more) (appended n gs g)) t.0 ∙ list_taken room more (gs ++ (g ∷ [])) t.1 ∙ append_snoc gs g more

-- ---- what is read back of a plain context
added_typed : (gs : List Addition) → Added gs → AllTyped (adds gs)
unfolding adds AllTyped
added_typed [] a = tt
added_typed (g ∷ gs) a = ((a 0 (omega arith)).0, added_typed gs (λ i k. a (suc i) (omega arith)))

module _ (b : List ℕ) (c : Context) (h : HoldsContext 2 b c) (p : Plain b c) where
  module _ (i : ℕ) (k : i < count c) where
    body_back : body_given (giving (body_at c i)) ≡ body_at c i
    body_back = giving_body (size_at c i) (body_at c i) (h.0.each i k).type_suits (p.types i k) (body_fits h.0 i k)

    attribute_back : attribute_given (giving (body_at c i)) ≡ attribute_at c i
    attribute_back = λ j. attribute ((ap written_size body_back ∙ sym (p.sizes i k)) j) (body_back j)

    given_added : AdditionTyped (giving (body_at c i)) × (addition_check (giving (body_at c i)) ≡ 0)
    given_added = (giving_typed (size_at c i) (body_at c i) (body_fits h.0 i k), giving_clear (size_at c i) (body_at c i) (h.0.each i k) (p.sizes i k) body_back)

  -- the attributes and the additions that are read back at the first n indices
  back : (n : ℕ) → n ≤ count c → (attributes_given (records_back b n) ≡ take n c.attributes) × Added (records_back b n)
  unfolding records_back attributes_given
  back zero l = (refl, λ i k. absurd (omega arith))
  back (suc n) l =
      let r = back n (omega arith) in
      let g = giving (body_at c n) in
      rw (record_at_law b c h n l (p.types n l)) (
        given_append (records_back b n) (g ∷ [])
            ∙ (λ j. r.0 j ++ (attribute_back n l j ∷ []))
            ∙ sym (take-suc c.attributes n (attribute 0 (other 0)) l),
        all_more (records_back b n) g (add_command_line []) (λ (x : Addition). AdditionTyped x × (addition_check x ≡ 0)) r.1 (given_added n l),
      )

  abbrev again : List Addition
  again = records_back b (count c)

  pub context_back : context_given again ≡ c
  context_back =
      let l = (back (count c) (omega arith)).0 ∙ take-length c.attributes in
      λ j. record { major = sym p.major j; minor = sym p.minor j; attributes = l j }

  pub typed_back : AllTyped (adds again)
  typed_back = added_typed again (back (count c) (omega arith)).1

  -- the bytes that it begins with are those that a writer writes of it
  plain_bytes : take (used c) b ≡ written c
  plain_bytes =
      let n = length_cells (layout c) ∙ width_layout c (sized h.0) in
      ap (λ (k : ℕ). take k b) (sym n) ∙ filled_only (cells (layout c)) b h.1 (λ i k e. p.zeros i (omega arith) e)

  allowed : (room : ℕ) → used c ≤ room → Taken room [] again
  allowed room l =
      taken room b again [] again refl (subst (HoldsContext 2 b) (sym context_back) h) (back (count c) (omega arith)).1
      (omega (arith, ap (λ (x : Context). used x) context_back))

  pub rebuilt_list : (room : ℕ) → used c ≤ room → list_after_all room (adds again) [] ≡ again
  rebuilt_list room l = list_taken room again [] (allowed room l)

  -- ---- built again in the buffer d
  module _ (d : List ℕ) (w : used c ≤ room_of d) where
    started : Keeps (begun d).1 [] × (length (begun d).1 ≡ length d)
    started = begin_follows d (omega arith)

    took : Took (begun d).1 [] again
    took = takes again [] (begun d).1 started.0 typed_back (allowed (room_of (begun d).1) (omega (arith, started.1)))

    pub rebuilt_length : length (after (rebuilding b (count c)) d) ≡ length d
    unfolding after run_write
    rebuilt_length = took.long ∙ started.1

    pub rebuilt_bytes : take (used c) (after (rebuilding b (count c)) d) ≡ written c
    unfolding after run_write
    rebuilt_bytes = subst (λ (x : Context). take (used x) (after (adds again) (begun d).1) ≡ written x) context_back took.keeps.follows.bytes

    pub rebuilds : Rebuilt b d c
    unfolding AllSucceeded replies run_write
    rebuilds = record { unrefused = ((_, refl, rw (begun_is d (omega arith))), took.succeeded); same = rebuilt_bytes ∙ sym plain_bytes }

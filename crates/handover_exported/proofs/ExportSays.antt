-- The exported list has every record that an attribute asks for, and no other between the first and the last.
use Prim.Native.Nat.{ℕ, zero, suc, ◌+◌, ◌-◌, ◌<◌}
use mathlib.Core.Path.{◌≡◌, refl, sym, ap, ◌∙◌, subst}
use mathlib.Core.Logic.{◌⊎◌, inl, inr, ⊎_elim}
use mathlib.Core.Bool.{Bool, true, false}
use mathlib.Core.List.{List, [], ◌∷◌, ◌++◌}
use native.Mathlib.Omega.{arith}
use native.Mathlib.Nat.{not-suc-le-zero, le_of_suc-le-suc}
use native.Mathlib.Numerals.{add-one}
use lib.ListN.{length, get_or, length-append, get_or-append}
use lib.Seq.{get_or-append-add}
use lib.Dec.{leb, eqb}
use borrow.Author.Tests.{leb-true, leb-false, eqb-false, ne_eqb}
use Rattle.ultra_format.specs.Contexts as ultra
use Rattle.ultra_format.specs.Contexts.{Platform, Module, Body, type_of, Attribute, Context, body_at, type_at}
use Rattle.ultra_format.specs.Contexts.{Body.platform, Body.kernel, Body.memory_map, Body.module_info, Body.command_line, Body.framebuffer, Body.other}
use Rattle.ultra_format.specs.Places.{single}
use Rattle.ultra_format.specs.Rules.{Meets}
use Rattle.handover_format.specs.Payloads.{handover_end, Entry, count, no_entry, entry_in}
use Rattle.handover_format.specs.Tags.{handover_self, handover_rsdp}
use Rattle.handover_format.specs.PayloadDecoding.{pick}
use Rattle.handover_written.specs.Placing.{AsGiven}
use Rattle.handover_written.proofs.Placing.{each_as_given}
use Rattle.export_list.specs.ExportList.{bare, range_entry, range_entries, file_entry, pointer_entries, records_of, records_if, gathered, between, no_platform, platform_or, agent_of, export_entries, export_list}
use Rattle.export_list.proofs.BareLaws.{ranges_length}
use Rattle.handover_exported.specs.ExportSays.{no_range, asks, all_ask, Asked, Asked.range, Asked.file, Asked.line, Asked.pointer, IsAt, InOrder, ExportSays, ExportSaysAll}
use Rattle.handover_exported.proofs.Entries.{Each, each_none, each_more, each_append, each_at}
use Rattle.handover_exported.proofs.Gathered.{gathered_each, In, in_front, in_back, in_gathered, Ordered, ordered_across, ordered_back, ordered_front, gathered_ordered, one_gathered}
use Rattle.handover_exported.proofs.ExportRefusals.{size_listed}

-- ---- ranges, one by one
range_at : (es : List ultra.Entry) (k : ℕ) → k < length es → get_or (range_entries es) k no_entry ≡ range_entry (get_or es k no_range)
unfolding range_entries
range_at [] k h = absurd (not-suc-le-zero h)
range_at (e ∷ es) zero h = refl
range_at (e ∷ es) (suc k) h = range_at es k (le_of_suc-le-suc h)

each_of_law : (P : Entry → Type 0) (es : List Entry) → ((i : ℕ) → i < length es → P (get_or es i no_entry)) → Each P es
each_of_law P [] h = each_none P
each_of_law P (e ∷ es) h = each_more P e es (h 0 (omega arith)) (each_of_law P es (λ i l. h (suc i) (omega arith)))

-- ---- what an attribute becomes is asked for, and the other way round
module _ (c : Context) where
  -- as one of the four kinds
  abbrev pub AskedFor : Entry → Type 0
  AskedFor e = (n : ℕ) × Asked c n e

  pointer_asked : (i : ℕ) (p : Platform) → i < ultra.count c → body_at c i ≡ platform p → (t : Bool) → eqb p.rsdp 0 ≡ t → Each AskedFor (pick t [] (bare handover_rsdp p.rsdp 20 ∷ []))
  pointer_asked i p l e true q = each_none AskedFor
  pointer_asked i p l e false q = each_more AskedFor _ _ (_, pointer i p l e (eqb-false p.rsdp 0 q)) (each_none AskedFor)

  records_asked : (i : ℕ) → i < ultra.count c → (x : Body) → body_at c i ≡ x → Each AskedFor (records_of x)
  unfolding records_of pointer_entries
  records_asked i l (platform p) e = pointer_asked i p l e (eqb p.rsdp 0) refl
  records_asked i l (kernel k) e = each_none AskedFor
  records_asked i l (memory_map es) e =
      each_of_law AskedFor (range_entries es)
      (λ k m. let h : k < length es = omega (arith, ranges_length es) in subst AskedFor (sym (range_at es k h)) (_, range i es k l e h))
  records_asked i l (module_info m) e = each_more AskedFor _ _ (_, file i m l e) (each_none AskedFor)
  records_asked i l (command_line t) e = each_more AskedFor _ _ (_, line i t l e) (each_none AskedFor)
  records_asked i l (framebuffer f) e = each_none AskedFor
  records_asked i l (other t) e = each_none AskedFor

  between_asked : Each AskedFor (between c.attributes)
  between_asked =
      let l = c.attributes in
      let g : (k : ℕ) → Each AskedFor (gathered k l) = λ k. gathered_each AskedFor k l (λ i h. records_asked i h (body_at c i) refl) in
      each_append AskedFor (gathered 3 l) _ (g 3) (each_append AskedFor (gathered 4 l) _ (g 4) (each_append AskedFor (gathered 5 l) (gathered 1 l) (g 5) (g 1)))

  -- the records of an attribute of type 3, 4, 5 or 1 are those of the first, second, third or last kind
  abbrev G : ℕ → List Entry
  G k = gathered k c.attributes

  unfoldable Kind : ℕ → List Entry
  Kind zero = G 3
  Kind (suc zero) = G 4
  Kind (suc (suc zero)) = G 5
  Kind (suc (suc (suc n))) = G 1

  of_type_law : (k i : ℕ) (x : Body) (e : Entry) → i < ultra.count c → body_at c i ≡ x → type_of x ≡ k → In e (records_of x) → In e (G k)
  of_type_law k i x e l q t h = in_gathered k c.attributes i l (ap type_of q ∙ t) e (rw q h)

  only_one : (e : Entry) → In e (e ∷ [])
  only_one e = (0, omega arith, refl)

  pointer_in : (a : ℕ) → (a ≡ 0 → ⊥) → In (bare handover_rsdp a 20) (pointer_entries a)
  unfolding pointer_entries
  pointer_in a n = rw (ne_eqb a 0 n) (only_one (bare handover_rsdp a 20))

  asked_kind : (n : ℕ) (e : Entry) → Asked c n e → In e (Kind n)
  unfolding records_of Kind
  asked_kind n e (range i es k l q h) = of_type_law 3 i (memory_map es) e l q refl (k, omega (arith, ranges_length es), range_at es k h)
  asked_kind n e (file i m l q) = of_type_law 4 i (module_info m) e l q refl (only_one e)
  asked_kind n e (line i t l q) = of_type_law 5 i (command_line t) e l q refl (only_one e)
  asked_kind n e (pointer i p l q h) = of_type_law 1 i (platform p) e l q refl (pointer_in p.rsdp h)

  -- where each kind is, and what comes after the first and after the second
  after_ranges : (m : ℕ) (f : Entry) → In f (Kind (suc m)) → In f (G 4 ++ (G 5 ++ G 1))
  unfolding Kind
  after_ranges zero f h = in_front f (G 4) (G 5 ++ G 1) h
  after_ranges (suc zero) f h = in_back f (G 4) (G 5 ++ G 1) (in_front f (G 5) (G 1) h)
  after_ranges (suc (suc m)) f h = in_back f (G 4) (G 5 ++ G 1) (in_back f (G 5) (G 1) h)

  after_files : (m : ℕ) (f : Entry) → In f (Kind (suc (suc m))) → In f (G 5 ++ G 1)
  unfolding Kind
  after_files zero f h = in_front f (G 5) (G 1) h
  after_files (suc m) f h = in_back f (G 5) (G 1) h

  kind_between : (n : ℕ) (e : Entry) → In e (Kind n) → In e (between c.attributes)
  unfolding Kind
  kind_between zero e h = in_front e (G 3) (G 4 ++ (G 5 ++ G 1)) h
  kind_between (suc n) e h = in_back e (G 3) (G 4 ++ (G 5 ++ G 1)) (after_ranges n e h)

  -- there are four
  kinds : (n : ℕ) (e : Entry) → Asked c n e → n < 4
  kinds n e (range i es k l q h) = omega arith
  kinds n e (file i m l q) = omega arith
  kinds n e (line i t l q) = omega arith
  kinds n e (pointer i p l q h) = omega arith

  kinds_ordered : (n m : ℕ) (e f : Entry) → n < m → m < 4 → In e (Kind n) → In f (Kind m) → Ordered e f (between c.attributes)
  unfolding Kind
  kinds_ordered n zero e f h l x y = absurd (not-suc-le-zero h)
  kinds_ordered zero (suc m) e f h l x y = ordered_across e f (G 3) (G 4 ++ (G 5 ++ G 1)) x (after_ranges m f y)
  kinds_ordered (suc n) (suc zero) e f h l x y = absurd (omega arith)
  kinds_ordered (suc zero) (suc (suc m)) e f h l x y =
      ordered_back e f (G 3) (G 4 ++ (G 5 ++ G 1)) (ordered_across e f (G 4) (G 5 ++ G 1) x (after_files m f y))
  kinds_ordered (suc (suc n)) (suc (suc zero)) e f h l x y = absurd (omega arith)
  kinds_ordered (suc (suc zero)) (suc (suc (suc m))) e f h l x y =
      ordered_back e f (G 3) (G 4 ++ (G 5 ++ G 1)) (ordered_back e f (G 4) (G 5 ++ G 1) (ordered_across e f (G 5) (G 1) x y))
  kinds_ordered (suc (suc (suc n))) (suc (suc (suc m))) e f h l x y = absurd (omega arith)

  files_ordered : (i j : ℕ) (m n : Module) → i < j → j < ultra.count c → body_at c i ≡ module_info m → body_at c j ≡ module_info n → Ordered (file_entry m) (file_entry n) (between c.attributes)
  unfolding records_of
  files_ordered i j m n h l q r =
      ordered_back (file_entry m) (file_entry n) (G 3) (G 4 ++ (G 5 ++ G 1))
      (ordered_front (file_entry m) (file_entry n) (G 4) (G 5 ++ G 1)
      (gathered_ordered 4 c.attributes i j h l (ap type_of q) (ap type_of r) (file_entry m) (file_entry n) (rw q (only_one (file_entry m))) (rw r (only_one (file_entry n)))))

-- ---- how many there are: each attribute becomes as many as it asks for, of one type
none_of : (x : Body) (t : Bool) → records_of x ≡ [] → length (records_if t x) ≡ 0
unfolding records_if
none_of x true e = ap length e
none_of x false e = refl

pointer_asks : (a : ℕ) (t : Bool) → length (pick t [] (bare handover_rsdp a 20 ∷ [])) ≡ pick t 0 1
pointer_asks a true = refl
pointer_asks a false = refl

body_asks : (x : Body) → length (records_if (eqb (type_of x) 3) x) + length (records_if (eqb (type_of x) 4) x) + length (records_if (eqb (type_of x) 5) x) + length (records_if (eqb (type_of x) 1) x) ≡ asks x
unfolding records_if records_of pointer_entries
body_asks (platform p) = omega (arith, pointer_asks p.rsdp (eqb p.rsdp 0))
body_asks (kernel k) = refl
body_asks (memory_map es) = omega (arith, ranges_length es)
body_asks (module_info m) = refl
body_asks (command_line t) = refl
body_asks (framebuffer f) = refl
body_asks (other t) = let n : (k : ℕ) → length (records_if (eqb t k) (other t)) ≡ 0 = λ k. none_of (other t) (eqb t k) refl in omega (arith, n 3, n 4, n 5, n 1)

all_ask_law : (l : List Attribute) → length (gathered 3 l) + length (gathered 4 l) + length (gathered 5 l) + length (gathered 1 l) ≡ all_ask l
unfolding gathered all_ask
all_ask_law [] = refl
all_ask_law (a ∷ l) =
    let x = a.body in
    let g : (k : ℕ) → length (records_if (eqb (type_of x) k) x ++ gathered k l) ≡ length (records_if (eqb (type_of x) k) x) + length (gathered k l) = λ k. length-append (records_if (eqb (type_of x) k) x) (gathered k l) in
    omega (arith, all_ask_law l, body_asks x, g 3, g 4, g 5, g 1)

between_length : (l : List Attribute) → length (between l) ≡ all_ask l
between_length l =
    omega (arith, all_ask_law l, length-append (gathered 3 l) (gathered 4 l ++ (gathered 5 l ++ gathered 1 l)), length-append (gathered 4 l) (gathered 5 l ++ gathered 1 l), length-append (gathered 5 l) (gathered 1 l))

sides : (i j : ℕ) → (j ≡ i → ⊥) → (i < j) ⊎ (j < i)
sides i j n = go (leb i j) refl
  where
    go : (t : Bool) → leb i j ≡ t → (i < j) ⊎ (j < i)
    go true e = inl (omega (arith, leb-true i j e, n))
    go false e = inr (leb-false i j e)

-- ---- the list
module _ (c : Context) (load room : ℕ) (m : Meets 2 room c) where
  abbrev es : List Entry
  es = export_entries c load

  abbrev inner : List Entry
  inner = between c.attributes

  abbrev end : Entry
  end = bare handover_end 0 0

  count_is : count (export_list c load) ≡ length inner + 2
  count_is = (each_as_given (agent_of c) es).0 ∙ omega (arith, length-append inner (end ∷ []))

  record_at_law : (j : ℕ) (e : Entry) → j < length inner + 2 → get_or es j no_entry ≡ e → IsAt (export_list c load) j e
  record_at_law j e l q =
      (omega (arith, count_is), subst (λ (x : Entry). AsGiven x (entry_in (export_list c load) j)) q ((each_as_given (agent_of c) es).1 j (omega (arith, length-append inner (end ∷ [])))))

  inner_at : (k : ℕ) (e : Entry) → k < length inner → get_or inner k no_entry ≡ e → IsAt (export_list c load) (k + 1) e
  inner_at k e l q = rw (add-one k) (record_at_law (suc k) e (omega arith) (get_or-append inner (end ∷ []) no_entry k l ∙ q))

  end_at : get_or es (suc (length inner + 0)) no_entry ≡ end
  end_at = get_or-append-add inner (end ∷ []) 0 no_entry

  last_is : (j : ℕ) → j + 1 ≡ count (export_list c load) → IsAt (export_list c load) j end
  last_is j q =
      let p : suc (length inner + 0) ≡ j = omega (arith, count_is) in
      subst (λ (n : ℕ). IsAt (export_list c load) n end) p (record_at_law (suc (length inner + 0)) end (omega arith) end_at)

  -- the map is the only one
  map_alone : (i j : ℕ) → i < ultra.count c → j < ultra.count c → (j ≡ i → ⊥) → type_at c i ≡ 3 → type_at c j ≡ 3 → ⊥
  map_alone i j l h n e f = ⊎_elim (λ q. m.once i j q h (ap single f) (e ∙ sym f)) (λ q. m.once j i q l (ap single e) (f ∙ sym e)) (sides i j n)

  map_first : (i : ℕ) (rs : List ultra.Entry) → i < ultra.count c → body_at c i ≡ memory_map rs → gathered 3 c.attributes ≡ range_entries rs
  unfolding records_of
  map_first i rs l q = one_gathered 3 c.attributes i l (ap type_of q) (λ j h n f. map_alone i j l h n (ap type_of q) f) ∙ ap records_of q

  range_is : (i : ℕ) (rs : List ultra.Entry) (k : ℕ) → i < ultra.count c → body_at c i ≡ memory_map rs → k < length rs → IsAt (export_list c load) (k + 1) (range_entry (get_or rs k no_range))
  range_is i rs k l q h =
      let g = map_first i rs l q in
      let n : k < length (gathered 3 c.attributes) = omega (arith, ap length g, ranges_length rs) in
      let rest = gathered 4 c.attributes ++ (gathered 5 c.attributes ++ gathered 1 c.attributes) in
      inner_at k _ (omega (arith, length-append (gathered 3 c.attributes) rest))
      (get_or-append (gathered 3 c.attributes) rest no_entry k n ∙ ap (λ (x : List Entry). get_or x k no_entry) g ∙ range_at rs k h)

  name_is : (p : Platform) → body_at c 0 ≡ platform p → agent_of c ≡ p.name
  unfolding platform_or
  name_is p q = ap (λ (x : Body). (platform_or no_platform x).name) q

  ordered_at : (e f : Entry) → Ordered e f inner → InOrder (export_list c load) e f
  ordered_at e f h =
      let l : h.0 < length inner = omega (arith, h.2, h.3) in
      (h.0 + 1, h.1 + 1, omega (arith, h.2), inner_at h.0 e l h.4, inner_at h.1 f h.3 h.5)

  only_asked : (j : ℕ) → 0 < j → j + 1 < count (export_list c load) → (n : ℕ) × (e : Entry) × Asked c n e × IsAt (export_list c load) j e
  only_asked j h k =
      let l : j - 1 < length inner = omega (arith, count_is) in
      let e = get_or inner (j - 1) no_entry in
      let q : j - 1 + 1 ≡ j = omega arith in
      let a = each_at (AskedFor c) inner (between_asked c) (j - 1) l in
      (a.0, e, a.1, subst (λ (n : ℕ). IsAt (export_list c load) n e) q (inner_at (j - 1) e l refl))

  says : ExportSays c load
  says =
      record {
        agent = name_is;
        own = record_at_law 0 _ (omega arith) (ap (bare handover_self load) (sym (size_listed c load room)));
        last = last_is;
        each = λ n e a. let h = kind_between c n e (asked_kind c n e a) in (h.0 + 1, inner_at h.0 e h.1 h.2);
        number = omega (arith, count_is, between_length c.attributes);
        only = only_asked;
        order = λ n k e f h a b. ordered_at e f (kinds_ordered c n k e f h (kinds c k f b) (asked_kind c n e a) (asked_kind c k f b));
        ranges = range_is;
        files = λ i j x y h l q r. ordered_at (file_entry x) (file_entry y) (files_ordered c i j x y h l q r);
      }

pub export_says : ExportSaysAll
export_says b c load h = says c load _ h.0

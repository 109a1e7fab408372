-- The reading determines the list: each attribute is found back in the answer at its index and in the bytes of its part, and the count
-- in where answers end.
use Rattle.std.specs.Prelude.{Ok, Err}
use Prim.Native.Nat.{ℕ, ◌/◌, ◌≤◌, ◌<◌}
use mathlib.Core.Path.{◌≡◌, refl, sym, ap, ◌∙◌}
use mathlib.Core.Bool.{Bool, true, false}
use mathlib.Core.List.{List}
use denote.Ref.{Bor}
use native.Mathlib.Omega.{arith}
use lib.ListN.{length}
use lib.Seq.{ext_get_or}
use lib.Dec.{leb, eqb}
use borrow.Author.Tests.{leb-true, leb-false, ne_eqb}
use Rattle.byte_layout.specs.Fields.{Fits}
use Rattle.refusals.specs.Refusals.{COUNT}
use Rattle.refusals.specs.Answers.{refused, number_of}
use Rattle.ultra_format.specs.Contexts.{Body, type_of, Attribute, Context, count, attribute_at, size_at, body_at, start_in, used}
use Rattle.ultra_format.specs.Contexts.{Body.platform, Body.kernel, Body.memory_map, Body.module_info, Body.command_line, Body.framebuffer, Body.other}
use Rattle.ultra_format.specs.Layouts.{body_fields}
use Rattle.ultra_format.specs.Rules.{TypeSuits, Meets}
use Rattle.ultra_format.specs.Decoding.{pick, entries_at}
use Rattle.ultra_format.specs.Records.{records_of, platform_given, kernel_given, module_given, framebuffer_given}
use Rattle.ultra_format.specs.declared.records.Records.{Records}
use Rattle.ultra_format.proofs.Bodies.{entries_written, length_written}
use Rattle.ultra_format.proofs.Attributes.{attribute, body_fits}
use Rattle.ultra_format.proofs.Given.{platform_given_law, kernel_given_law, module_given_law}
use Rattle.ultra_reading.specs.declared.Version.{Version}
use Rattle.ultra_acceptance.specs.Acceptance.{version_in}
use Rattle.ultra_questions.specs.declared.attributes.AttributeAnswer.{AttributeAnswer}
use Rattle.ultra_questions.specs.Parts.{part_bytes}
use Rattle.ultra_questions.specs.AttributeQuestion.{answered, unanswered, attribute_answer, PartHandedBack}
use Rattle.ultra_questions.proofs.AttributeLaws.{part_inside}
use Rattle.demand_3.specs.Demand3.{part_at, ReadingIs, SameReading}
use Rattle.ultra_reading.specs.Reading.{Reading, read_as}

-- ---- one body
-- the body that an answer says, by its type, its records and the bytes of its part
unfoldable said : ℕ → Records → List ℕ → Body
said t r l =
    pick (eqb t 1) (platform (platform_given r.platform))
    (pick (eqb t 2) (kernel (kernel_given r.kernel))
    (pick (eqb t 3) (memory_map (entries_at l 0 (length l / 24)))
    (pick (eqb t 4) (module_info (module_given r.«module»))
    (pick (eqb t 5) (command_line l)
    (pick (eqb t 6) (framebuffer (framebuffer_given r.framebuffer))
    (other t))))))

said_whole : (s : ℕ) (x : Body) → TypeSuits x → Fits (body_fields s x) → said (type_of x) (records_of x) (part_bytes x) ≡ x
unfolding said records_of part_bytes Fits
said_whole s (platform p) u f = ap platform (platform_given_law p f.1.1.1.0)
said_whole s (kernel k) u f = ap kernel (kernel_given_law k f.1.1.1.1.1.1.1.1.0)
said_whole s (memory_map es) u f =
    let n : length (part_bytes (memory_map es)) / 24 ≡ length es = omega (arith, length_written es) in
    ap memory_map (ap (entries_at (part_bytes (memory_map es)) 0) n ∙ entries_written es f)
said_whole s (module_info m) u f = ap module_info (module_given_law m f.1.1.0)
said_whole s (command_line t) u f = refl
said_whole s (framebuffer b) u f = refl
said_whole s (other t) u f =
    rw (ne_eqb t 1 (λ e. omega arith), ne_eqb t 2 (λ e. omega arith), ne_eqb t 3 (λ e. omega arith), ne_eqb t 4 (λ e. omega arith), ne_eqb t 5 (λ e. omega arith), ne_eqb t 6 (λ e. omega arith))

-- ---- the version, and where answers end
abbrev version_read : Version → Reading → Version
version_read d (Ok a) = a.version
version_read d (Err r) = d

same_version : (v w : Version) (n m : ℕ) → read_as v n ≡ read_as w m → v ≡ w
same_version v w n m e = ap (version_read v) e

-- an answer is no refusal
no_refusal : (o n : ℕ) (a : Attribute) → answered o a ≡ unanswered (refused COUNT n) → ⊥
no_refusal o n a e = let z : ◌≡◌ {A = ℕ} 0 COUNT = ap (λ (r : AttributeAnswer). number_of r.answer) e in omega arith

-- where answers are the same, there is none past the other's count
no_more : (b d : List ℕ) (c e : Context) → ReadingIs b c → ReadingIs d e → ((i : ℕ) → attribute_answer d i ≡ attribute_answer b i) → count e ≤ count c
no_more b d c e g h s = go (leb (count e) (count c)) refl
  where
    go : (t : Bool) → leb (count e) (count c) ≡ t → count e ≤ count c
    go true q = leb-true (count e) (count c) q
    go false q =
        absurd (no_refusal (start_in e.attributes (count c)) (used c) (attribute_at e (count c))
        (sym (h.each (count c) (leb-false (count e) (count c) q)) ∙ s (count c) ∙ g.past (count c) (omega arith)))

-- ---- a lent buffer, and the slice of it that is the part at index i
buffer : List ℕ → Bor (List ℕ)
buffer b = record { ref_ptr = (0, 0); now = b }

slice : List ℕ → ℕ → Bor (List ℕ)
slice b i = record { ref_ptr = (0, (attribute_answer b i).part.start); now = part_at b i }

handed_back : (b : List ℕ) (i : ℕ) → PartHandedBack (slice b i) (buffer b) i
unfolding buffer slice
handed_back b i = record { block = refl; offset = omega arith; within = part_inside b i; has = refl }

-- ---- two lists
module _ (b d : List ℕ) (c e : Context) (g : ReadingIs b c) (h : ReadingIs d e) (s : SameReading b d) where
  same_count : count c ≡ count e
  same_count = omega (arith, no_more b d c e g h s.each, no_more d b e c h g (λ i. sym (s.each i)))

  same_answer : (i : ℕ) → i < count c → i < count e → answered (start_in c.attributes i) (attribute_at c i) ≡ answered (start_in e.attributes i) (attribute_at e i)
  same_answer i k l = sym (g.each i k) ∙ sym (s.each i) ∙ h.each i l

  same_part : (i : ℕ) → i < count c → i < count e → part_bytes (body_at c i) ≡ part_bytes (body_at e i)
  unfolding buffer slice
  same_part i k l =
      sym (g.slices (slice b i) (buffer b) i refl k (handed_back b i)).2
      ∙ sym (s.slices (slice b i) (slice d i) (buffer b) (buffer d) i refl refl (handed_back b i) (handed_back d i))
      ∙ (h.slices (slice d i) (buffer d) i refl l (handed_back d i)).2

  module _ {fewest room more space : ℕ} (m : Meets fewest room c) (n : Meets more space e) where
    same_body : (i : ℕ) → i < count c → i < count e → body_at c i ≡ body_at e i
    same_body i k l =
        let q = same_answer i k l in
        sym (said_whole (size_at c i) (body_at c i) (m.each i k).type_suits (body_fits m i k))
        ∙ (λ j. said (q j).header.kind (q j).records (same_part i k l j))
        ∙ said_whole (size_at e i) (body_at e i) (n.each i l).type_suits (body_fits n i l)

    same_attribute : (i : ℕ) → i < count c → attribute_at c i ≡ attribute_at e i
    same_attribute i k =
        let l : i < count e = omega (arith, same_count) in
        λ j. attribute (same_answer i k l j).header.size (same_body i k l j)

    pub determined : c ≡ e
    determined =
        let v = same_version (version_in c) (version_in e) (used c) (used e) (sym g.whole ∙ sym s.whole ∙ h.whole) in
        let l = ext_get_or (attribute 0 (other 0)) c.attributes e.attributes same_count same_attribute in
        λ j. record { major = (v j).major; minor = (v j).minor; attributes = l j }

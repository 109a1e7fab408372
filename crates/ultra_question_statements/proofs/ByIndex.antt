-- The questions that look for an attribute answer by its index: they answer by the context, in which the first attribute that meets a
-- test is the one with the least index.
use Rattle.std.specs.Prelude.{Ok}
use Prim.Native.Nat.{ℕ, ◌+◌, ◌*◌, ◌/◌, ◌≤◌, ◌<◌}
use mathlib.Core.Path.{◌≡◌, refl, sym, ap, ◌∙◌}
use mathlib.Core.Bool.{Bool, true, false}
use mathlib.Core.List.{List, [], ◌∷◌, ◌++◌}
use mathlib.Core.Logic.{◌↔◌, ◌⊎◌.inl, ◌⊎◌.inr}
use native.Mathlib.Omega.{arith}
use lib.ListN.{length}
use lib.Dec.{leb, ltb}
use borrow.Author.Tests.{leb-true, le-leb, ltb-true, lt-ltb}
use Rattle.words.specs.Rounding.{rounded_up}
use Rattle.words.specs.Words.{little_endian, numbers_in, numbers_bytes}
use Rattle.words.proofs.Numbers.{length_numbers}
use Rattle.byte_layout.specs.Fields.{cells, filled}
use Rattle.byte_layout.specs.Stored.{over}
use Rattle.ultra_format.specs.Contexts.{Entry, Module, Body, type_of, Context, count, body_at, type_at, start_in}
use Rattle.ultra_format.specs.Contexts.{Body.platform, Body.kernel, Body.memory_map, Body.module_info, Body.command_line, Body.framebuffer, Body.other}
use Rattle.lent_buffers.specs.Room.{room_of}
use Rattle.ultra_format.specs.Layouts.{entries_fields}
use Rattle.ultra_format.specs.Rules.{Meets}
use Rattle.refusals.proofs.Chains.{both_hold}
use Rattle.lent_buffers.specs.LentParts.{part, no_part}
use Rattle.ultra_questions.specs.Parts.{body_part, part_bytes}
use Rattle.ultra_locating.specs.Searching.{first_in, found_start}
use Rattle.ultra_map_question.specs.MapQuestion.{numbers, map_in, map_copied_bytes}
use Rattle.ultra_questions.specs.CommandLineQuestion.{command_line_in, text_in}
use Rattle.address_ranges.specs.Ranges.{pages_cover}
use Rattle.ultra_questions.specs.ModuleQuestion.{holding, module_in}
use Rattle.ultra_question_statements.specs.ByIndex.{ModuleAt, NoModule, FirstModule, ModuleStart, HoldsAddress, QuestionsByIndex}
use Rattle.ultra_question_statements.proofs.FirstByIndex.{Outcome, outcome, found_type, found_none}
use Rattle.ultra_map_question.proofs.MapBytes.{over_numbers}
use Rattle.ultra_question_statements.proofs.ByContext.{questions_by_context}

-- ---- a module that holds the address, as a test and as a condition
covered : (m : Module) (a : ℕ) → pages_cover m.address m.size a ≡ true → HoldsAddress a m
unfolding pages_cover
covered m a e =
    let h = both_hold (leb m.address a) (ltb a (m.address + rounded_up 4096 m.size)) e in
    (leb-true m.address a h.0, omega (arith, ltb-true a (m.address + rounded_up 4096 m.size) h.1))

held_covered : (m : Module) (a : ℕ) → HoldsAddress a m → pages_cover m.address m.size a ≡ true
unfolding pages_cover
held_covered m a h = rw (le-leb m.address a h.0, lt-ltb a (m.address + rounded_up 4096 m.size) h.1)

clash : {A : Type 0} → ◌≡◌ {A = Bool} false true → A
clash e = absurd (let z : ◌≡◌ {A = ℕ} 0 1 = cc in omega arith)

held_module : (x : Body) (a : ℕ) → holding a x ≡ true → (m : Module) × (x ≡ module_info m) × HoldsAddress a m
held_module (platform p) a e = clash e
held_module (kernel k) a e = clash e
held_module (memory_map es) a e = clash e
held_module (module_info m) a e = (m, refl, covered m a e)
held_module (command_line t) a e = clash e
held_module (framebuffer f) a e = clash e
held_module (other t) a e = clash e

-- ---- whatever is asked of a module, one start is answered
module _ (Asked : Module → Type 0) (c : Context) where
  first_is : (i j : ℕ) → FirstModule Asked c i → FirstModule Asked c j → i ≡ j
  first_is i j g h =
      let p : i < j → ⊥ = λ k. h.1 i g.0.0 k g.0.1 g.0.2 in
      let q : j < i → ⊥ = λ k. g.1 j h.0.0 k h.0.1 h.0.2 in
      omega arith

  said_once : (o u : ℕ) → ModuleStart Asked c o → ModuleStart Asked c u → o ≡ u
  said_once o u (inl x) (inl y) = x.0 ∙ sym y.0
  said_once o u (inl x) (inr y) = absurd (let f = y.2.0 in x.1 y.0 f.0 f.1 f.2)
  said_once o u (inr x) (inl y) = absurd (let f = x.2.0 in y.1 x.0 f.0 f.1 f.2)
  said_once o u (inr x) (inr y) = x.1 ∙ ap (start_in c.attributes) (first_is x.0 y.0 x.2 y.2) ∙ sym y.1

  pub none_said : ModuleStart Asked c 0 → NoModule Asked c
  none_said (inl x) = x.1
  none_said (inr x) = absurd (omega (arith, x.1))

module _ (c : Context) (a : ℕ) where
  not_held_law : (i : ℕ) (m : Module) → holding a (body_at c i) ≡ false → ModuleAt c i m → HoldsAddress a m → ⊥
  not_held_law i m e k h = clash (sym e ∙ ap (holding a) k.1 ∙ held_covered m a h)

  -- what is answered, and that nothing else is said
  said : Outcome (holding a) 8 c.attributes (first_in (holding a) c) → ModuleStart (HoldsAddress a) c (found_start (first_in (holding a) c))
  said (inl r) = inl (ap found_start r.0, λ i m k. not_held_law i m (r.1 i k.0) k)
  said (inr f) =
      let k = held_module (body_at c f.index) a f.meets in
      inr (f.index, ap found_start f.is, ((k.0, (f.below, k.1), k.2), λ j n l. not_held_law j n (f.before j l)))

  start_said : ModuleStart (HoldsAddress a) c (found_start (first_in (holding a) c))
  start_said = said (outcome (holding a) 8 c.attributes)

  modules_said : (o : ℕ) → (module_in c a ≡ Ok o) ↔ ModuleStart (HoldsAddress a) c o
  modules_said o = (λ e. let q : found_start (first_in (holding a) c) ≡ o = cc in rw q at start_said, λ s. ap Ok (said_once (HoldsAddress a) c _ o start_said s))

  no_module_law : (module_in c a ≡ Ok 0) ↔ NoModule (HoldsAddress a) c
  no_module_law = (λ e. none_said (HoldsAddress a) c ((modules_said 0).0 e), λ n. (modules_said 0).1 (inl (refl, n)))

-- ---- the map's numbers as bytes
bytes_numbers : (es : List Entry) → numbers_bytes (numbers es) ≡ part_bytes (memory_map es)
unfolding numbers_bytes numbers part_bytes filled cells entries_fields
bytes_numbers [] = refl
bytes_numbers (e ∷ es) =
    ap (λ (l : List ℕ). little_endian 8 e.address ++ little_endian 8 e.size ++ little_endian 8 e.entry_type ++ l) (bytes_numbers es)

length_triples : (es : List Entry) → length (numbers es) ≡ 3 * length es
unfolding numbers
length_triples [] = refl
length_triples (e ∷ es) = let q = length_triples es in omega arith

module _ (room : ℕ) (c : Context) (m : Meets 2 room c) where
  map_is : (i : ℕ) (es : List Entry) (out : List ℕ) → i < count c → body_at c i ≡ memory_map es → 3 * length es ≤ length out → map_in c out ≡ (Ok (length es), over (numbers es) out)
  map_is i es out h e k = rw (found_type room c m 3 refl i h (ap type_of e), e, le-leb (3 * length es) (length out) k)

  line_is : (i : ℕ) (t : List ℕ) → i < count c → body_at c i ≡ command_line t → (command_line_in c ≡ part (start_in c.attributes i + 8) (length t)) × ((board : List ℕ) → text_in board c ≡ t)
  unfolding body_part part_bytes
  line_is i t h e = let f = found_type room c m 5 refl i h (ap type_of e) in (rw (f, e), λ board. rw (f, e))

  no_line_law : ((i : ℕ) → i < count c → type_at c i ≡ 5 → ⊥) → (command_line_in c ≡ no_part) × ((board : List ℕ) → text_in board c ≡ board)
  no_line_law n = let f = found_none room c m 5 refl n in (rw f, λ board. rw f)

pub questions_by_index : QuestionsByIndex
unfolding map_copied_bytes
questions_by_index b c h =
    let q = questions_by_context b c h in
    let m = h.0 in
    record {
      modules = λ a o. rw (q.modules a) (modules_said c a o);
      no_module = λ a. rw (q.modules a) (no_module_law c a);
      map = λ i es out l e k. q.maps out ∙ map_is (room_of b) c m i es out l e k;
      map_bytes =
          λ i es out y l e k.
          let w = map_is (room_of b) c m i es (numbers_in out) l e (omega (arith, length_numbers out 0 (length out / 8))) in
          rw (q.maps (numbers_in out), w) (ap (λ (x : List ℕ). (Ok (length es), x)) (over_numbers b out y (numbers es) (omega (arith, length_triples es)) ∙ ap (λ (x : List ℕ). over x out) (bytes_numbers es)));
      line = λ i t l e. let w = line_is (room_of b) c m i t l e in (q.line ∙ w.0, w.1);
      no_line = λ n. let w = no_line_law (room_of b) c m n in (q.line ∙ w.0, w.1);
    }

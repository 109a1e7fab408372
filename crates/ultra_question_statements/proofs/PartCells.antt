-- The bytes of a part: a map's entries and a command line's text have no silent cell, so the buffer that they open has their bytes.
use Prim.Native.Nat.{ℕ, zero, suc, ◌+◌, ◌-◌, ◌*◌, ◌≤◌, ◌<◌}
use mathlib.Core.Path.{◌≡◌, refl, ap, ap₂, ◌∙◌}
use mathlib.Core.Bool.{true}
use mathlib.Core.List.{List, [], ◌∷◌, ◌++◌, append-nil}
use native.Mathlib.Omega.{arith}
use native.Mathlib.Nat.{not-suc-le-zero, le_of_suc-le-suc}
use lib.ListN.{length}
use lib.Dec.{ltb}
use borrow.Author.Tests.{ltb-true}
use denote.Ref.{Bor}
use Rattle.words.specs.Words.{little_endian}
use Rattle.byte_layout.specs.Fields.{Cell, cells, filled, bytes, text_cells}
use Rattle.byte_layout.specs.Fields.{Cell.byte, Cell.silent}
use Rattle.byte_layout.specs.Stored.{bytes_at}
use Rattle.byte_layout.proofs.Cells.{At, opens_at, at_front}
use Rattle.byte_layout.proofs.FieldLaws.{length_cells}
use Rattle.ultra_format.specs.Contexts.{Entry, Body, type_of, Context, count, size_at, body_at, start_in}
use Rattle.ultra_format.specs.Contexts.{Body.platform, Body.kernel, Body.memory_map, Body.module_info, Body.command_line, Body.framebuffer, Body.other}
use Rattle.ultra_format.specs.Layouts.{body_fields, entries_fields, attribute_fields, layout, Opens}
use Rattle.ultra_format.specs.Members.{texts, ascii_text, every, ascii}
use Rattle.ultra_format.specs.Rules.{Meets}
use Rattle.ultra_format.proofs.Bodies.{width_entries}
use Rattle.refusals.proofs.Chains.{both_hold}
use Rattle.ultra_format.proofs.Attributes.{sized}
use Rattle.ultra_format.proofs.Rows.{each_at}
use Rattle.lent_buffers.specs.declared.Part.{Part}
use Rattle.lent_buffers.specs.LentParts.{no_part, PartOf}
use Rattle.ultra_questions.specs.Parts.{body_part, part_bytes}

-- a slice that is a part has the bytes there
pub slice_bytes : (b : List ℕ) (lent s : Bor (List ℕ)) (p : Part) → s.now ≡ b → PartOf lent s p → lent.now ≡ bytes_at b p.start p.length
slice_bytes b lent s p e h = h.has ∙ ap (λ (l : List ℕ). bytes_at l p.start p.length) e

pub slice_empty : (lent s : Bor (List ℕ)) (p : Part) → p ≡ no_part → PartOf lent s p → lent.now ≡ []
unfolding bytes_at
slice_empty lent s p e h = h.has ∙ ap (λ (q : Part). bytes_at s.now q.start q.length) e

-- no cell is silent
abbrev Solid : List Cell → Type 0
Solid [] = Unit {0}
Solid (byte n ∷ cs) = Solid cs
Solid (silent ∷ cs) = ⊥

solid_entries : (es : List Entry) → Solid (cells (entries_fields es))
unfolding cells entries_fields
solid_entries [] = tt
solid_entries (e ∷ es) = solid_entries es

module _ (b : List ℕ) where
  -- ---- the body of an attribute whose cells lie in the buffer
  body_at_law : (s o : ℕ) (x : Body) → At b o (cells (attribute_fields (record { size = s; body = x }))) → At b (o + 8) (cells (body_fields s x))
  unfolding cells
  body_at_law s o x h =
      let t = (at_front b o (o + 4) (bytes (little_endian 4 (type_of x))) (bytes (little_endian 4 s) ++ cells (body_fields s x)) (omega arith) h).1 in
      (at_front b (o + 4) (o + 8) (bytes (little_endian 4 s)) (cells (body_fields s x)) (omega arith) t).1

  -- ---- cells that are bytes
  solid_bytes : (cs : List Cell) (p : ℕ) → Solid cs → At b p cs → bytes_at b p (length cs) ≡ filled cs
  unfolding bytes_at filled
  solid_bytes [] p s h = refl
  solid_bytes (byte n ∷ cs) p s h = ap₂ (λ (x : ℕ) (l : List ℕ). x ∷ l) h.0 (solid_bytes cs (p + 1) s h.1)
  solid_bytes (silent ∷ cs) p s h = absurd s

  entries_bytes : (es : List Entry) (p : ℕ) → At b p (cells (entries_fields es)) → bytes_at b p (24 * length es) ≡ filled (cells (entries_fields es))
  entries_bytes es p h = rw (← (length_cells (entries_fields es) ∙ width_entries es)) (solid_bytes (cells (entries_fields es)) p (solid_entries es) h)

  text_bytes : (k : ℕ) (t : List ℕ) (p : ℕ) → length t ≤ k → At b p (text_cells k t) → bytes_at b p (length t) ≡ t
  unfolding bytes_at
  text_bytes k [] p l h = refl
  text_bytes zero (x ∷ t) p l h = absurd (not-suc-le-zero l)
  text_bytes (suc k) (x ∷ t) p l h = ap₂ (λ (y : ℕ) (m : List ℕ). y ∷ m) h.0 (text_bytes k t (p + 1) (le_of_suc-le-suc l) h.1)

  -- ---- the part of a body that lies in the buffer
  body_bytes : (s o : ℕ) (x : Body) → texts s x ≡ true → At b (o + 8) (cells (body_fields s x)) → bytes_at b (body_part o x).start (body_part o x).length ≡ part_bytes x
  unfolding body_part part_bytes cells texts ascii_text bytes_at
  body_bytes s o (platform p) t h = refl
  body_bytes s o (kernel k) t h = refl
  body_bytes s o (memory_map es) t h = entries_bytes es (o + 8) h
  body_bytes s o (module_info m) t h = refl
  body_bytes s o (command_line l) t h =
      let w = ltb-true (length l) (s - 8) (both_hold (ltb (length l) (s - 8)) (every ascii l) t).0 in
      text_bytes (s - 8) l (o + 8) (omega arith) (rw append-nil at h)
  body_bytes s o (framebuffer f) t h = refl
  body_bytes s o (other n) t h = refl

  pub part_bytes_law : (fewest room : ℕ) (c : Context) → Meets fewest room c → Opens b c → (i : ℕ) → i < count c
      → let p = body_part (start_in c.attributes i) (body_at c i) in bytes_at b p.start p.length ≡ part_bytes (body_at c i)
  unfolding cells
  part_bytes_law fewest room c m o i k =
      let h = opens_at b (cells (layout c)) o in
      body_bytes (size_at c i) (start_in c.attributes i) (body_at c i) (m.each i k).texts_hold
      (body_at_law (size_at c i) (start_in c.attributes i) (body_at c i) (each_at b c.attributes 8 (sized m) h.1.1.1.1.1.1 i k))

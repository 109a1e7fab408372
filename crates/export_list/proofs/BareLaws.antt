-- Laws of the records that attributes become: those that name no string, and the strings of the others.
use Prim.Native.Nat.{ℕ, suc, ◌+◌}
use mathlib.Core.Path.{◌≡◌, refl, ap, ◌∙◌}
use mathlib.Core.Bool.{Bool, true, false}
use mathlib.Core.List.{List, [], ◌∷◌, ◌++◌}
use native.Mathlib.Omega.{arith}
use lib.ListN.{length, length-append}
use lib.Dec.{eqb}
use Rattle.ultra_format.specs.Contexts as ultra
use Rattle.ultra_format.specs.Contexts.{Module}
use Rattle.byte_layout.specs.Stored.{closed}
use Rattle.handover_format.specs.Payloads.{names_name, names_meta}
use Rattle.handover_format.specs.Tags.{handover_free, handover_stack, handover_kernel, handover_loader, handover_reserved}
use Rattle.handover_format.specs.PayloadDecoding.{pick}
use Rattle.handover_format.specs.WrittenForm.{closed_if, strings_of, strings, words_at, placed}
use Rattle.handover_format.proofs.WrittenLaws.{length_closed, strings_one}
use Rattle.export_list.specs.ExportList.{bare, tag_of, range_entries, file_entry, line_entry}

-- a tag that names no string
abbrev pub Nameless : ℕ → Type 0
Nameless t = (names_name t ≡ false) × (names_meta t ≡ false)

-- ---- the tags of ranges
either : (P : ℕ → Type 0) (u : Bool) (x y : ℕ) → P x → P y → P (pick u x y)
either P true x y h g = h
either P false x y h g = g

-- what holds of the five holds of the tag of any range
pub tag_is : (P : ℕ → Type 0) → P handover_free → P handover_loader → P handover_stack → P handover_kernel → P handover_reserved → (t : ℕ) → P (tag_of t)
unfolding tag_of
tag_is P f l s k r t =
    either P (eqb t 1) handover_free _ f (either P (eqb t 4294901761) handover_loader _ l (either P (eqb t 4294901763) handover_stack _ s (either P (eqb t 4294901764) handover_kernel handover_reserved k r)))

pub range_nameless : (t : ℕ) → Nameless (tag_of t)
range_nameless = tag_is Nameless (refl, refl) (refl, refl) (refl, refl) (refl, refl) (refl, refl)

-- ---- a record with such a tag
module _ (t a s : ℕ) (h : Nameless t) where
  strings_of_law : strings_of (bare t a s) ≡ []
  unfolding closed_if
  strings_of_law = rw (h.1, h.0)

  pub bare_strings : strings (bare t a s ∷ []) ≡ []
  bare_strings = strings_one (bare t a s) ∙ strings_of_law

  -- wherever the strings of the next record start
  pub bare_words : (o : ℕ) → (bare t a s).words ≡ (placed o (bare t a s)).words
  unfolding words_at
  bare_words o = rw (h.1, h.0)

-- ---- ranges
pub ranges_strings : (es : List ultra.Entry) → strings (range_entries es) ≡ []
unfolding strings range_entries
ranges_strings [] = refl
ranges_strings (e ∷ es) =
    ap (λ (l : List ℕ). l ++ strings (range_entries es)) (strings_of_law (tag_of e.entry_type) e.address e.size (range_nameless e.entry_type)) ∙ ranges_strings es

pub ranges_length : (es : List ultra.Entry) → length (range_entries es) ≡ length es
unfolding range_entries
ranges_length [] = refl
ranges_length (e ∷ es) = ap suc (ranges_length es)

-- ---- files and the command line
pub file_strings : (m : Module) → strings (file_entry m ∷ []) ≡ closed m.name ++ closed []
unfolding closed_if
file_strings m = strings_one (file_entry m)

pub file_width : (m : Module) → length (strings (file_entry m ∷ [])) ≡ length m.name + 2
file_width m = ap length (file_strings m) ∙ length-append (closed m.name) (closed []) ∙ omega (arith, length_closed m.name)

pub line_strings : (t : List ℕ) → strings (line_entry t ∷ []) ≡ closed t
unfolding closed_if
line_strings t = strings_one (line_entry t)

pub line_width : (t : List ℕ) → length (strings (line_entry t ∷ [])) ≡ length t + 1
line_width t = ap length (line_strings t) ∙ length_closed t

-- Laws of the whole list: the first and the last record have no string, nor have the ranges and the pointer.
use Prim.Native.Nat.{ℕ, ◌+◌}
use mathlib.Core.Path.{◌≡◌, refl, ap, ap₂, ◌∙◌}
use mathlib.Core.Bool.{Bool, true, false}
use mathlib.Core.List.{List, [], ◌∷◌, ◌++◌, append-nil}
use native.Mathlib.Omega.{arith}
use lib.ListN.{length, length-append}
use lib.Dec.{eqb}
use Rattle.ultra_format.specs.Contexts.{Body, type_of, Attribute}
use Rattle.ultra_format.specs.Contexts.{Body.platform, Body.kernel, Body.memory_map, Body.module_info, Body.command_line, Body.framebuffer, Body.other}
use Rattle.handover_format.specs.Payloads.{handover_end}
use Rattle.handover_format.specs.Tags.{handover_self, handover_rsdp}
use Rattle.handover_format.specs.PayloadDecoding.{pick}
use Rattle.handover_format.specs.WrittenForm.{strings, payload_size}
use Rattle.handover_format.proofs.WrittenLaws.{strings_none, strings_append}
use Rattle.export_list.specs.ExportList.{bare, pointer_entries, records_of, records_if, gathered, between, entries_of}
use Rattle.export_list.proofs.BareLaws.{bare_strings, ranges_strings}

-- ---- the first and the last
pub entries_length : (l : List Attribute) (load s : ℕ) → length (entries_of load s l) ≡ length (between l) + 2
entries_length l load s = omega (arith, length-append (between l) (bare handover_end 0 0 ∷ []))

pub entries_strings : (l : List Attribute) (load s : ℕ) → strings (entries_of load s l) ≡ strings (between l)
entries_strings l load s =
    strings_append (bare handover_self load s ∷ []) (between l ++ (bare handover_end 0 0 ∷ []))
    ∙ ap₂ (λ (x y : List ℕ). x ++ y) (bare_strings handover_self load s (refl, refl))
    (strings_append (between l) (bare handover_end 0 0 ∷ []) ∙ ap (λ (y : List ℕ). strings (between l) ++ y) (bare_strings handover_end 0 0 (refl, refl)) ∙ append-nil (strings (between l)))

-- the size is the same whatever SELF has in it
pub size_same : (agent : List ℕ) (load s : ℕ) (l : List Attribute) → payload_size agent (entries_of load s l) ≡ payload_size agent (entries_of 0 0 l)
unfolding strings
size_same agent load s l = refl

-- ---- ranges and the pointer
pointer_picked : (a : ℕ) (t : Bool) → strings (pick t [] (bare handover_rsdp a 20 ∷ [])) ≡ []
pointer_picked a true = strings_none
pointer_picked a false = bare_strings handover_rsdp a 20 (refl, refl)

pub pointer_strings : (a : ℕ) → strings (pointer_entries a) ≡ []
unfolding pointer_entries
pointer_strings a = pointer_picked a (eqb a 0)

if_strings : (t : Bool) (x : Body) → strings (records_of x) ≡ [] → strings (records_if t x) ≡ []
unfolding records_if
if_strings true x h = h
if_strings false x h = strings_none

-- an attribute of type 3 or 1 becomes records without strings
map_only : (x : Body) → strings (records_if (eqb (type_of x) 3) x) ≡ []
unfolding records_if records_of
map_only (platform p) = strings_none
map_only (kernel k) = strings_none
map_only (memory_map es) = ranges_strings es
map_only (module_info m) = strings_none
map_only (command_line t) = strings_none
map_only (framebuffer f) = strings_none
map_only (other t) = if_strings (eqb t 3) (other t) strings_none

platform_only : (x : Body) → strings (records_if (eqb (type_of x) 1) x) ≡ []
unfolding records_if records_of
platform_only (platform p) = pointer_strings p.rsdp
platform_only (kernel k) = strings_none
platform_only (memory_map es) = strings_none
platform_only (module_info m) = strings_none
platform_only (command_line t) = strings_none
platform_only (framebuffer f) = strings_none
platform_only (other t) = if_strings (eqb t 1) (other t) strings_none

gathered_strings : (k : ℕ) → ((x : Body) → strings (records_if (eqb (type_of x) k) x) ≡ []) → (l : List Attribute) → strings (gathered k l) ≡ []
unfolding gathered
gathered_strings k h [] = strings_none
gathered_strings k h (a ∷ l) =
    strings_append (records_if (eqb (type_of a.body) k) a.body) (gathered k l) ∙ ap₂ (λ (x y : List ℕ). x ++ y) (h a.body) (gathered_strings k h l)

-- so the strings are those of files and of the command line
pub between_strings : (l : List Attribute) → strings (between l) ≡ strings (gathered 4 l) ++ strings (gathered 5 l)
between_strings l =
    strings_append (gathered 3 l) (gathered 4 l ++ (gathered 5 l ++ gathered 1 l))
    ∙ ap₂ (λ (x y : List ℕ). x ++ y) (gathered_strings 3 map_only l)
    (strings_append (gathered 4 l) (gathered 5 l ++ gathered 1 l)
    ∙ ap (λ (y : List ℕ). strings (gathered 4 l) ++ y) (strings_append (gathered 5 l) (gathered 1 l) ∙ ap (λ (y : List ℕ). strings (gathered 5 l) ++ y) (gathered_strings 1 platform_only l) ∙ append-nil (strings (gathered 5 l))))

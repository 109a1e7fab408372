-- The records that a context's attributes become are sound, and none of them has the end tag.
use Prim.Native.Nat.{ℕ, ◌+◌, ◌^◌, ◌≤◌, ◌<◌}
use mathlib.Core.Path.{◌≡◌, refl}
use mathlib.Core.Bool.{Bool, true, false}
use mathlib.Core.List.{List, [], ◌∷◌}
use native.Mathlib.Omega.{arith}
use native.Mathlib.Nat.{not-suc-le-zero}
use lib.Dec.{eqb}
use borrow.Author.Tests.{leb-true}
use Rattle.byte_layout.specs.Fields.{Fits}
use Rattle.refusals.proofs.Chains.{both_hold}
use Rattle.refusals.proofs.Order.{clash}
use Rattle.ultra_format.specs.Contexts as ultra
use Rattle.ultra_format.specs.Contexts.{Body, type_of}
use Rattle.ultra_format.specs.Contexts.{Body.platform, Body.kernel, Body.memory_map, Body.module_info, Body.command_line, Body.framebuffer, Body.other}
use Rattle.ultra_format.specs.Layouts.{entries_fields, body_fields}
use Rattle.ultra_format.specs.Members.{every, entry_fits, ranges}
use Rattle.handover_format.specs.Payloads.{handover_end, Entry}
use Rattle.handover_format.specs.Tags.{handover_rsdp}
use Rattle.handover_format.specs.PayloadDecoding.{pick}
use Rattle.handover_written.specs.Placing.{Text, Sound}
use Rattle.export_list.specs.ExportList.{bare, tag_of, range_entries, file_entry, line_entry, pointer_entries, records_of, no_platform, platform_or}
use Rattle.export_list.proofs.BareLaws.{tag_is}
use Rattle.handover_exported.proofs.Entries.{Each, Before, each_none, each_more}

no_text : Text []
no_text i h = absurd (not-suc-le-zero h)

-- ---- one record
pub bare_sound : (t a s : ℕ) → t < 256 ^ 4 → a < 256 ^ 8 → s < 256 ^ 8 → a + s ≤ 18446744073709551616 → Sound (bare t a s)
unfolding Fits
bare_sound t a s f g h r =
    record {
      fits = (f, (omega arith, (g, (h, (omega arith, (omega arith, tt))))));
      range = r;
      name_text = no_text;
      meta_text = no_text;
      nameless = λ q. refl;
      metaless = λ q. refl;
    }

-- sound, and not the last
abbrev pub Inner : Entry → Type 0
Inner e = Sound e × Before e

ranges_sound : (es : List ultra.Entry) → Fits (entries_fields es) → every entry_fits es ≡ true → Each Inner (range_entries es)
unfolding Fits entries_fields every range_entries
ranges_sound [] f h = each_none Inner
ranges_sound (e ∷ es) f h =
    let t : tag_of e.entry_type < 256 ^ 4 = tag_is (λ k. k < 256 ^ 4) (omega arith) (omega arith) (omega arith) (omega arith) (omega arith) e.entry_type in
    let n : tag_of e.entry_type ≡ handover_end → ⊥ = tag_is (λ k. k ≡ handover_end → ⊥) (λ q. omega arith) (λ q. omega arith) (λ q. omega arith) (λ q. omega arith) (λ q. omega arith) e.entry_type in
    let p = both_hold _ _ h in
    each_more Inner _ _ (bare_sound (tag_of e.entry_type) e.address e.size t f.0 f.1.0 (leb-true _ _ p.0), n) (ranges_sound es f.1.1.1 p.1)

file_sound : (m : ultra.Module) → Text m.name → m.address < 256 ^ 8 → m.size < 256 ^ 8 → m.address + m.size ≤ 18446744073709551616 → Inner (file_entry m)
unfolding Fits
file_sound m t g h r = (
  record {
    fits = (omega arith, (omega arith, (g, (h, (omega arith, (omega arith, tt))))));
    range = r;
    name_text = t;
    meta_text = no_text;
    nameless = λ q. clash q;
    metaless = λ q. refl;
  },
  λ q. omega arith,
)

line_sound : (l : List ℕ) → Text l → Inner (line_entry l)
unfolding Fits
line_sound l t = (
  record {
    fits = (omega arith, (omega arith, (omega arith, (omega arith, (omega arith, (omega arith, tt))))));
    range = omega arith;
    name_text = no_text;
    meta_text = t;
    nameless = λ q. refl;
    metaless = λ q. clash q;
  },
  λ q. omega arith,
)

pointer_sound : (a : ℕ) → a < 256 ^ 8 → a + 20 ≤ 18446744073709551616 → (t : Bool) → eqb a 0 ≡ t → Each Inner (pick t [] (bare handover_rsdp a 20 ∷ []))
pointer_sound a f h true e = each_none Inner
pointer_sound a f h false e = each_more Inner _ _ (bare_sound handover_rsdp a 20 (omega arith) f (omega arith) h, λ q. omega arith) (each_none Inner)

-- ---- one attribute
pub records_sound : (s : ℕ) (x : Body) → Fits (body_fields s x) → ranges x ≡ true → (type_of x ≡ 1 → (platform_or no_platform x).rsdp + 20 ≤ 18446744073709551616) → Each Inner (records_of x)
unfolding Fits records_of pointer_entries platform_or ranges
records_sound s (platform p) f r h = pointer_sound p.rsdp f.1.1.1.1.0 (h refl) (eqb p.rsdp 0) refl
records_sound s (kernel k) f r h = each_none Inner
records_sound s (memory_map es) f r h = ranges_sound es f r
records_sound s (module_info m) f r h = each_more Inner _ _ (file_sound m f.1.1.0.1 f.1.1.1.0 f.1.1.1.1.0 (leb-true _ _ r)) (each_none Inner)
records_sound s (command_line t) f r h = each_more Inner _ _ (line_sound t f.0.1) (each_none Inner)
records_sound s (framebuffer b) f r h = each_none Inner
records_sound s (other t) f r h = each_none Inner

-- the loader's name
pub agent_text : (s : ℕ) (x : Body) → Fits (body_fields s x) → Text (platform_or no_platform x).name
unfolding Fits platform_or
agent_text s (platform p) f = f.1.1.1.0.1
agent_text s (kernel k) f = no_text
agent_text s (memory_map es) f = no_text
agent_text s (module_info m) f = no_text
agent_text s (command_line t) f = no_text
agent_text s (framebuffer b) f = no_text
agent_text s (other t) f = no_text

-- What rounding a module's size up makes of its pages: by arithmetic, since its address is a multiple of 4,096.
use Prim.Native.Nat.{ℕ, ◌+◌, ◌-◌, ◌*◌, ◌/◌, ◌≤◌}
use mathlib.Core.Path.{refl, sym, ap, ◌∙◌}
use mathlib.Core.List.{List}
use mathlib.Core.Logic.{◌↔◌}
use native.Mathlib.Omega.{arith}
use Rattle.words.specs.Rounding.{Multiple, rounded_up}
use Rattle.words.proofs.Rounding.{rounds_up}
use Rattle.ultra_format.specs.Contexts.{Module, Context}
use Rattle.ultra_format.specs.Members.{values, ranges}
use Rattle.ultra_format.specs.MemberRules.{Ends}
use Rattle.ultra_format.proofs.MemberRules.{member_rules}
use Rattle.ultra_acceptance.specs.Acceptance.{HoldsContext}
use Rattle.ultra_question_statements.specs.ByIndex.{ModuleAt, HoldsAddress}
use Rattle.ultra_question_statements.specs.LastPage.{OnPage, FillsPages, LastPage}

-- an end that is a multiple of 4,096 is passed by the rounded size just where it is by the plain one
rounded_end_law : (address size end : ℕ) → Multiple 4096 address → Multiple 4096 end → (address + size ≤ end) ↔ (address + rounded_up 4096 size ≤ end)
rounded_end_law address size end (q, e) (r, f) =
    let s = rounds_up 4096 size (omega arith) in
    (λ h. let l = s.least (end - address) (r - q, omega arith) (omega arith) in omega arith, λ h. let l = s.enough in omega arith)

-- 2^64 is such an end
rounded_ends : (address size : ℕ) → Multiple 4096 address → Ends address size ↔ Ends address (rounded_up 4096 size)
rounded_ends address size m = rounded_end_law address size 18446744073709551616 m (4503599627370496, refl)

module _ (m : Module) (aligned : Multiple 4096 m.address) (a : ℕ) where
  -- the page's first byte is the module's
  on_page : HoldsAddress a m → OnPage a m
  on_page h = let e = aligned.1 in (a / 4096 * 4096, omega arith, omega arith, omega arith)

  page_held : OnPage a m → HoldsAddress a m
  page_held (x, l, u, s) = let e = aligned.1 in (omega arith, omega arith)

module _ (b : List ℕ) (c : Context) (h : HoldsContext 2 b c) where
  aligned : (i : ℕ) (m : Module) → ModuleAt c i m → Multiple 4096 m.address
  aligned i m (l, e) = ((member_rules.module_values m).0 (ap values (sym e) ∙ (h.0.each i l).values_hold)).1

  ends : (i : ℕ) (m : Module) → ModuleAt c i m → Ends m.address m.size
  ends i m (l, e) = (member_rules.module_ranges m).0 (ap ranges (sym e) ∙ (h.0.each i l).ranges_hold)

  fills_pages : FillsPages c
  fills_pages =
      record {
        fits = λ i m k. (rounded_ends m.address m.size (aligned i m k)).0 (ends i m k);
        pages = λ i m a k. (on_page m (aligned i m k) a, page_held m (aligned i m k) a);
        apart = λ i j m n k l. rounded_end_law m.address m.size n.address (aligned i m k) (aligned j n l);
      }

pub last_page_law : LastPage
last_page_law =
    record {
      ends = λ address size m. rounded_ends address size m;
      contexts = fills_pages;
      empty = λ m a e h. omega (arith, h);
      example = λ m e f. ((omega arith, omega arith), λ h. omega (arith, h));
      everywhere = λ m a e f l. (omega arith, omega arith);
    }

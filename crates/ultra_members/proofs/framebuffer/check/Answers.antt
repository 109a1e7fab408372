-- `ultra_members::framebuffer::check` meets its contract: each test answers for its rule.
use Prim.Native.Nat.{◌*◌}
use mathlib.Core.Path.{refl, ◌∙◌, ap}
use native.Mathlib.Omega.{arith}
use borrow.Author.Tests.{le-leb, lt-leb}
use Rattle.address_ranges.specs.Ranges.{range_fits}
use Rattle.ultra_format.specs.Members.{framebuffer_values, size_suits, values, texts, ranges, ordered}
use Rattle.ultra_rules.proofs.Judged.{misfits, judged}
use Rattle.refusals.specs.Answers.{checked}
use Rattle.ultra_members.proofs.framebuffer.check.Goals as goal

pub returns-then-size-lt-LEAST_SIZE : goal.returns-then-size-lt-LEAST_SIZE
unfolding size_suits
returns-then-size-lt-LEAST_SIZE c = ap checked (misfits _ _ (lt-leb 32 c.args.size (omega arith)))

pub returns : goal.returns
unfolding size_suits values texts ranges ordered
returns c =
    let s = c.args.size in
    let pitch = c.pitch-pitch.ensures in
    c.check.ensures ∙ ap checked (judged _ _ (le-leb 32 s (omega arith)) (λ i. framebuffer_values (c.width-width.ensures i) (pitch i) (c.bpp-bpp.ensures i) (c.format-format.ensures i)) refl
    (λ i. range_fits (c.address-address.ensures i) (pitch i * c.height-height.ensures i)) refl)

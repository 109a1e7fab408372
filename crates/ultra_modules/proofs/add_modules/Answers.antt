-- `add_modules` adds what is left, one module a turn.
use Rattle.std.proofs.Common.{Bool, sym, ap, subst, ◌∙◌, not, length}
use lib.Dec.{T}
use Rattle.ultra_modules.specs.Turns.{goes_on}
use Rattle.ultra_modules.proofs.Turns.{left_from, starts_is, next_is, done_is}
use Rattle.ultra_modules.proofs.add_modules.Goals as goal

pub loop-buf-init : goal.loop-buf-init
loop-buf-init c =
    let ms = c.args.modules.now in
    let b = c.args.buf.now in
    ap (left_from ms b) c.none_yet-so_far.ensures ∙ starts_is ms b

pub loop-buf-preserved : goal.loop-buf-preserved
loop-buf-preserved c =
    let ms = c.args.modules.now in
    let l = c.loop-buf in
    let h : T (goes_on l.so_far (length ms)) = subst T (sym c.loop-buf-test.true ∙ c.goes_on.ensures) tt in
    next_is ms l.buf l.so_far _ _ _ h c.module_at.ensures c.add_next-so_far.ensures ∙ l.invariant

pub returns : goal.returns
returns c =
    let ms = c.args.modules.now in
    let l = c.loop-buf in
    let h : T (not (goes_on l.so_far (length ms))) = subst (λ (x : Bool). T (not x)) (sym c.loop-buf-test.false ∙ c.goes_on.ensures) tt in
    sym (done_is ms l.buf l.so_far h) ∙ l.invariant

-- Proof of the statement in specs/Order.antt.
use mathlib.Core.Path.{sym, ap, ◌∙◌}
use native.Mathlib.Omega.{arith}
use Rattle.ultra_format.specs.Contexts.{type_at}
use Rattle.ultra_edits.specs.Order.{OrderKept}

pub order_kept : OrderKept
order_kept fewest least room other c d from m t a =
    record {
      fits = a.fits;
      major = a.major;
      enough = a.enough;
      most = a.most;
      within = a.within;
      typed = λ i h e. m.typed (from i) (t.below i h) (sym (t.same i h) ∙ e);
      first = λ h. t.same 0 h ∙ ap (type_at c) t.first ∙ m.first (omega (arith, t.below 0 h));
      second = λ h. t.same 1 h ∙ ap (type_at c) t.second ∙ m.second (omega (arith, t.below 1 h, t.second));
      later = λ i g h.
          let r = m.later (from i) (omega (arith, t.rises 1 i g, t.second)) (t.below i h) in
          (λ e. r.0 (sym (t.same i h) ∙ e), λ e. r.1 (sym (t.same i h) ∙ e));
      once = λ i j g h s e.
          m.once (from i) (from j) (t.rises i j g) (t.below j h) (rw (t.same j h) at s)
          (sym (t.same i (omega arith)) ∙ e ∙ t.same j h);
      together = λ i j l g r h e.
          t.same j (omega arith)
          ∙ m.together (from i) (from j) (from l) (t.rises i j g) (t.rises j l r) (t.below l h)
          (sym (t.same i (omega arith)) ∙ e ∙ t.same l h)
          ∙ sym (t.same l h);
      each = a.each;
    }

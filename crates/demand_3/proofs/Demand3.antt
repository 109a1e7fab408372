-- Demand 3 holds. The one context that a buffer can hold is the one that is decoded from it, and the calls answer by that one.
use mathlib.Core.Path.{sym, ap, ◌∙◌}
use Rattle.ultra_reading.specs.Reading.{reading_value}
use Rattle.ultra_acceptance.proofs.Acceptance.{one_context, silent_bytes, reads_exactly, held_reading}
use Rattle.demand_3.specs.Demand3.{Demand3}
use Rattle.demand_3.proofs.Faithful.{determined}
use Rattle.demand_3.proofs.Alike.{reads, same}

pub demand_3 : Demand3
demand_3 =
    record {
      accepts = reads_exactly;
      one_list = one_context 2;
      one_length = λ b c v n h e. ap reading_value (sym e ∙ held_reading b c h);
      reads = reads;
      silent = λ b d c h s. let k = (silent_bytes 2 b d c h s).0 in (k, same b d c h k);
      faithful = λ b d c e g h s. determined b d c e (reads b c g) (reads d e h) s g.0 h.0;
    }

-- `ultra_records::blank` meets its contract.
use Rattle.ultra_records.proofs.blank.Goals as goal

pub returns : goal.returns
returns c =
    λ i. record {
      platform = c.blank-platform.ensures i;
      kernel = c.blank-kernel.ensures i;
      «module» = c.blank-module.ensures i;
      framebuffer = c.blank-framebuffer.ensures i;
    }

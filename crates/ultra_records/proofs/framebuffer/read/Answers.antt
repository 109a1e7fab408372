-- `ultra_records::framebuffer::read` meets its contract.
use Rattle.ultra_records.proofs.framebuffer.read.Goals as goal

pub returns : goal.returns
returns c =
    λ i. record {
      width = c.width-width.ensures i;
      height = c.height-height.ensures i;
      pitch = c.pitch-pitch.ensures i;
      bpp = c.bpp-bpp.ensures i;
      format = c.format-format.ensures i;
      address = c.address-address.ensures i;
    }

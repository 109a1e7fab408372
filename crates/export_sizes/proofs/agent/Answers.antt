-- `agent` meets its contract: the loader's name is that of the first attribute.
use Prim.Native.Nat.{◌+◌}
use mathlib.Core.Path.{◌≡◌, ap}
use native.Mathlib.Omega.{arith}
use lib.ListN.{length}
use Rattle.byte_layout.specs.Stored.{closed}
use Rattle.ultra_format.specs.Decoding.{context_of}
use Rattle.handover_format.proofs.WrittenLaws.{length_closed}
use Rattle.export_list.specs.ExportList.{agent_of}
use Rattle.export_list.proofs.FirstPlatform.{first_room, agent_is}
use Rattle.export_sizes.proofs.agent.Goals as goal

pub text_length-length-requires : goal.text_length-length-requires
text_length-length-requires c = omega (arith, first_room c.args.buf.now c.requires)

pub returns : goal.returns
returns c =
    let b = c.args.buf.now in
    let t = c.text_length-length.ensures in
    let q : c.text_length-length.result + 1 ≡ length (closed (agent_of (context_of b))) = omega (arith, t.0, ap length (agent_is b c.requires), length_closed (agent_of (context_of b))) in
    ((λ j. record { count = 0; width = q j }), omega (arith, t.1))

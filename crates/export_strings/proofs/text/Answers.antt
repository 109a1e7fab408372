-- `text` meets its contract.
use Prim.Native.Nat.{ℕ, ◌+◌}
use mathlib.Core.Path.{ap, ◌∙◌}
use mathlib.Core.List.{List}
use native.Mathlib.Omega.{arith}
use Rattle.words.specs.Words.{replaced}
use Rattle.byte_layout.specs.Stored.{bytes_at, text_at, closed}
use Rattle.byte_layout.proofs.Copies.{text_bytes}
use Rattle.handover_format.proofs.WrittenLaws.{length_closed}
use Rattle.export_strings.proofs.PutLaws.{bytes_stored}
use Rattle.export_strings.proofs.text.Goals as goal

pub string-requires : goal.string-requires
string-requires c =
    let a = c.args in
    (omega (arith, c.requires.0, c.text_length-n.ensures.1), omega (arith, c.requires.1, c.text_length-n.ensures.0, length_closed (text_at a.buf.now a.at a.width)))

pub returns : goal.returns
returns c =
    let a = c.args in
    let b = a.buf.now in
    let x = text_at b a.at a.width in
    let n = c.text_length-n.result in
    let e = c.text_length-n.ensures.0 in
    let y = ap (bytes_at b a.at) e ∙ text_bytes b a.at a.width in
    bytes_stored a.out.now _ (closed x) a.to (n + 1) _ (omega (arith, length_closed x, e)) (omega arith) (c.string.ensures ∙ ap (λ (l : List ℕ). replaced a.out.now a.to (n + 1) (closed l)) y)

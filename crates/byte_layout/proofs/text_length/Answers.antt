-- `byte_layout::text_length` meets its contract: the first zero closes the text.
use Rattle.std.proofs.Common.{◌+◌, ◌-◌, ◌≡◌, take, drop, arith, rules, eqb}
use borrow.Author.Tests.{tests}
use Rattle.std.proofs.lemmas.Iterator.{YieldsList-from_slice}
use Rattle.std.proofs.lemmas.Iterator.Search.{position_from_yields_List}
use Rattle.std.specs.List.{position}
use Rattle.byte_layout.proofs.Texts.{text_found}
use Rattle.byte_layout.proofs.text_length.Goals as goal

pub returns : goal.returns
returns c =
    let a = c.args in
    let part = take (a.at + a.width - a.at) (drop a.at a.bytes.now) in
    let e : c.position.result ≡ position (λ x. eqb x 0) part =
    position_from_yields_List (λ x. eqb x 0) _ _ c.position.result c.position.ensures.ran (YieldsList-from_slice part cc) (λ x b q k. search (rules, tests)) in
    let k : a.at + a.width - a.at ≡ a.width = omega arith in
    rw c.unwrap_or.ensures (text_found a.bytes.now a.at a.width c.position.result c.requires (rw k at e))

-- `ultra_building::begin` meets its contract.
use Rattle.ultra_building.proofs.Beginnings.{begun_short, begun_good}
use Rattle.ultra_building.proofs.begin.Goals as goal

pub returns-then-buf-lt8 : goal.returns-then-buf-lt8
returns-then-buf-lt8 c = begun_short _ _ c.new.ensures c.if-buf-lt8.true

pub returns : goal.returns
returns c = begun_good _ _ c.if-buf-lt8.false c.store_u64.ensures

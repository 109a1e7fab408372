-- `ultra_records::records` meets its contract: the blank records, with the one that the type decodes to in its place.
use mathlib.Core.Path.{refl, ◌∙◌}
use native.Mathlib.Omega.{arith}
use Rattle.ultra_format.specs.Decoding.{decoded}
use Rattle.ultra_format.specs.Records.{records_of}
use Rattle.ultra_format.proofs.Sizes.{platform_least, kernel_least, module_least, framebuffer_least}
use Rattle.ultra_records.proofs.ByType.{records_of_law, records_blank}
use Rattle.ultra_records.proofs.records.Goals as goal

pub read-records-requires : goal.read-records-requires
read-records-requires c =
    let s = c.args in
    let p = c.requires in
    let h = platform_least s.bytes.now s.at s.size s.kind c.if-kind-eq-PLATFORM.true p.kind_value in
    (p.size_in_bounds, h)

pub returns-then-kind-eq-PLATFORM : goal.returns-then-kind-eq-PLATFORM
unfolding decoded records_of
returns-then-kind-eq-PLATFORM c =
    let s = c.args in
    rw (c.blank-records.ensures, c.read-records.ensures) (records_of_law s.bytes.now s.at s.size c.if-kind-eq-PLATFORM.true refl)

pub read-records-requires-then-kind-eq-KERNEL : goal.read-records-requires-then-kind-eq-KERNEL
read-records-requires-then-kind-eq-KERNEL c =
    let s = c.args in
    let p = c.requires in
    let h = kernel_least s.bytes.now s.at s.size s.kind c.if-kind-eq-KERNEL.true p.kind_value in
    omega (arith, h, p.size_in_bounds)

pub returns-then-kind-eq-KERNEL : goal.returns-then-kind-eq-KERNEL
unfolding decoded records_of
returns-then-kind-eq-KERNEL c =
    let s = c.args in
    rw (c.blank-records.ensures, c.read-records-then-kind-eq-KERNEL.ensures) (records_of_law s.bytes.now s.at s.size c.if-kind-eq-KERNEL.true refl)

pub read-records-requires-then-kind-eq-MODULE : goal.read-records-requires-then-kind-eq-MODULE
read-records-requires-then-kind-eq-MODULE c =
    let s = c.args in
    let p = c.requires in
    let h = module_least s.bytes.now s.at s.size s.kind c.if-kind-eq-MODULE.true p.kind_value in
    omega (arith, h, p.size_in_bounds)

pub returns-then-kind-eq-MODULE : goal.returns-then-kind-eq-MODULE
unfolding decoded records_of
returns-then-kind-eq-MODULE c =
    let s = c.args in
    rw (c.blank-records.ensures, c.read-records-then-kind-eq-MODULE.ensures) (records_of_law s.bytes.now s.at s.size c.if-kind-eq-MODULE.true refl)

pub read-records-requires-then-kind-eq-FRAMEBUFFER : goal.read-records-requires-then-kind-eq-FRAMEBUFFER
read-records-requires-then-kind-eq-FRAMEBUFFER c =
    let s = c.args in
    let p = c.requires in
    let h = framebuffer_least s.bytes.now s.at s.size s.kind c.if-kind-eq-FRAMEBUFFER.true p.kind_value in
    omega (arith, h, p.size_in_bounds)

pub returns-then-kind-eq-FRAMEBUFFER : goal.returns-then-kind-eq-FRAMEBUFFER
unfolding decoded records_of
returns-then-kind-eq-FRAMEBUFFER c =
    let s = c.args in
    rw (c.blank-records.ensures, c.read-records-then-kind-eq-FRAMEBUFFER.ensures) (records_of_law s.bytes.now s.at s.size c.if-kind-eq-FRAMEBUFFER.true refl)

pub returns-else-kind-eq-FRAMEBUFFER : goal.returns-else-kind-eq-FRAMEBUFFER
returns-else-kind-eq-FRAMEBUFFER c =
    let s = c.args in
    c.blank-records.ensures
    ∙ records_blank s.bytes.now s.at s.size s.kind c.if-kind-eq-PLATFORM.false c.if-kind-eq-KERNEL.false c.if-kind-eq-MODULE.false c.if-kind-eq-FRAMEBUFFER.false

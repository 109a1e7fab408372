-- Attributes that keep their order keep the rules of order. It is proved in proofs/Order.antt.
-- Serves the library's own functions and proofs: no published contract or promise rests on it.
use Rattle.std.specs.Prelude.{ℕ, ◌≤◌, ◌<◌, ◌≡◌}
use Rattle.byte_layout.specs.Fields.{Fits}
use Rattle.ultra_format.specs.Contexts.{Context, count, size_at, body_at, type_at, used}
use Rattle.ultra_format.specs.Layouts.{layout}
use Rattle.ultra_format.specs.Rules.{AttributeMeets, Meets}

-- attribute i of d has the type of attribute `from i` of c: those of c that are left stand in their order, the first two first
pub record KeepsOrder (c d : Context) (from : ℕ → ℕ) : Type 0 where
  pub rises : (i j : ℕ) → i < j → from i < from j
  pub first : from 0 ≡ 0
  pub second : from 1 ≡ 1
  pub below : (i : ℕ) → i < count d → from i < count c
  pub same : (i : ℕ) → i < count d → type_at d i ≡ type_at c (from i)

-- what the rules ask of a list besides the order of its types
pub record MeetsApart (fewest room : ℕ) (c : Context) : Type 0 where
  pub fits : Fits (layout c)
  pub major : 1 ≤ c.major
  pub enough : fewest ≤ count c
  pub most : count c ≤ 1024
  pub within : used c ≤ room
  pub each : (i : ℕ) → i < count c → AttributeMeets (size_at c i) (body_at c i)

abbrev pub OrderKept : Type 0
OrderKept =
    (fewest least room other : ℕ) (c d : Context) (from : ℕ → ℕ) → Meets fewest room c → KeepsOrder c d from → MeetsApart least other d
    → Meets least other d

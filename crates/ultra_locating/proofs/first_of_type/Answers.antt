-- `ultra_locating::first_of_type` meets its contract: it is the walk over all attributes.
use mathlib.Core.Path.{◌≡◌, ap, ◌∙◌}
use native.Mathlib.Omega.{arith}
use Rattle.ultra_format.specs.Decoding.{context_of}
use Rattle.ultra_acceptance.proofs.Walked.{in_bounds}
use Rattle.ultra_stepping.specs.Walking.{first_of_type}
use Rattle.ultra_locating.specs.Searching.{first_in, found_start, of_type}
use Rattle.ultra_locating.proofs.Located.{reading, head_inside}
use Rattle.ultra_locating.proofs.Searches.{walk_found, first_small}
use Rattle.ultra_locating.proofs.first_of_type.Goals as goal
use Rattle.ultra_locating.proofs.first_of_type.Goals.{After-first_of_type}

found : (c : After-first_of_type)
    → let s = c.args in c.first_of_type.result ≡ found_start (first_in (of_type s.kind) (context_of s.buf.now))
found c =
    let s = c.args in
    c.first_of_type.ensures ∙ ap (first_of_type s.buf.now s.kind 0) c.load_u32.ensures ∙ walk_found s.buf.now s.kind

pub load_u32-requires : goal.load_u32-requires
load_u32-requires c = omega (arith, head_inside _ c.requires)

pub first_of_type-requires : goal.first_of_type-requires
first_of_type-requires c = λ j l. in_bounds 2 _ _ (reading _ c.requires) j (omega (arith, c.load_u32.ensures))

pub overflow_cast-result : goal.overflow_cast-result
overflow_cast-result c = omega (arith, found (goal.at.overflow_cast-result c).After-first_of_type, first_small _ c.args.kind c.requires)

pub returns : goal.returns
returns c = found (goal.at.returns c).After-first_of_type

-- Laws of the module question: the refusal is passed on, or the search is answered.
use Rattle.std.specs.Prelude.{Ok, Err}
use Prim.Native.Nat.{ℕ, ◌+◌, ◌≤◌, ◌<◌}
use mathlib.Core.Path.{◌≡◌}
use mathlib.Core.Bool.{true}
use mathlib.Core.List.{List}
use lib.ListN.{length}
use Rattle.std.proofs.lemmas.Grind.{common_steps}
use Rattle.ultra_format.specs.Members.{size_suits}
use Rattle.ultra_format.specs.Decoding.{decoded, start, stored_type, stored_size, stored_count, context_of}
use Rattle.refusals.specs.declared.Refusal.{Refusal}
use Rattle.ultra_reading.specs.Reading.{used_length}
use Rattle.ultra_stepping.proofs.WalkLaws.{start_first, start_next}
use Rattle.ultra_locating.specs.Passing.{Accepts}
use Rattle.ultra_locating.proofs.Located.{head_inside, inside}
use Rattle.ultra_locating.proofs.Searches.{search_here, search_next, search_end, search_whole}
use Rattle.ultra_questions.specs.ModuleQuestion.{module_in, module_holding}

module _ (b : List ℕ) (a : ℕ) where
  pub module_passed : {r : Refusal} → used_length 2 b ≡ Err r → Err r ≡ module_holding b a
  unfolding module_holding
  module_passed e = rw e

  pub module_read : {n : ℕ} → used_length 2 b ≡ Ok n → module_in (context_of b) a ≡ module_holding b a
  unfolding module_holding
  module_read e = rw e

-- ---- the search for a module, with what it finds at attribute i
module _ (b : List ℕ) (k : Accepts b) where
  pub head_in : 8 ≤ length b
  head_in = (head_inside b k).room

  module _ (i : ℕ) (h : i < stored_count b) where
    pub size_least : 8 ≤ stored_size b i
    size_least = (inside b k i h).least

    pub end_in : start b i + stored_size b i ≤ length b
    end_in = (inside b k i h).within

    pub end_small : start b i + stored_size b i ≤ 65536
    end_small = (inside b k i h).small

    pub suits : size_suits (stored_size b i) (decoded b (start b i) (stored_size b i) (stored_type b i)) ≡ true
    suits = (inside b k i h).suits

pub ruleset searching = (common_steps, start_first, start_next, head_in, size_least, end_in, end_small, suits, search_here, search_next, search_end, search_whole)

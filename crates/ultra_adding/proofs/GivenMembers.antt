-- What it says that members given break no rule: how long their texts and GUIDs are.
use Prim.Native.Nat.{ℕ, ◌<◌}
use mathlib.Core.Path.{◌≡◌}
use mathlib.Core.Bool.{true, ◌&&◌}
use mathlib.Core.List.{List}
use lib.ListN.{length, get_or}
use lib.Dec.{ltb, eqb}
use borrow.Author.Tests.{ltb-true, eqb-true}
use Rattle.ultra_format.specs.Members.{every, nonzero, ascii, ascii_text, path_text}
use Rattle.ultra_format.specs.Additions.{guids_formed}
use Rattle.refusals.proofs.Chains.{both_hold}

pub name_short : (k : ℕ) (t : List ℕ) → ascii_text k t ≡ true → length t < k
unfolding ascii_text
name_short k t e = ltb-true _ _ (both_hold (ltb (length t) k) (every ascii t) e).0

pub path_short : (t : List ℕ) → path_text 256 t ≡ true → length t < 256
unfolding path_text
path_short t e =
    ltb-true _ _ (both_hold (ltb (length t) 256) (eqb (get_or t 0 0) 47) (both_hold (ltb (length t) 256 && eqb (get_or t 0 0) 47) (every nonzero t) e).0).0

pub guids_wide : (d p : List ℕ) → guids_formed d p ≡ true → (length d ≡ 16) × (length p ≡ 16)
guids_wide d p e = let h = both_hold (eqb (length d) 16) (eqb (length p) 16) e in (eqb-true _ _ h.0, eqb-true _ _ h.1)

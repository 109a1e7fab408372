-- Which type may stand where: refusals 9 to 11, as tests on a type and the types before it, the nearest first.
-- A reader has to believe this file.
use Rattle.std.specs.Prelude.{ℕ, zero, suc, Bool, false, not, ◌&&◌, ◌||◌, List, [], ◌∷◌, length, leb, eqb}
use Rattle.refusals.specs.Refusals.{unless, PLACE, REPEAT, SPLIT}

-- "first is not 1, second not 2, or a later one is 1 or 2"
unfoldable pub placed : ℕ → ℕ → Bool
placed zero t = eqb t 1
placed (suc zero) t = eqb t 2
placed (suc (suc i)) t = not (eqb t 1 || eqb t 2)

-- "type 3, 5 or 6"
abbrev pub single : ℕ → Bool
single t = eqb t 3 || eqb t 5 || eqb t 6

-- "type 4 or from 7 up"
abbrev pub repeatable : ℕ → Bool
repeatable t = eqb t 4 || leb 7 t

unfoldable pub occurs : ℕ → List ℕ → Bool
occurs t [] = false
occurs t (u ∷ us) = eqb u t || occurs t us

-- the type just before, 0 where there is none
abbrev pub nearest : List ℕ → ℕ
nearest [] = 0
nearest (u ∷ us) = u

-- the first of 9 to 11 that an attribute of type `t` after those of the types `before` breaks, or 0
unfoldable pub place_check : List ℕ → ℕ → ℕ
place_check before t =
    unless (placed (length before) t) PLACE
    (unless (not (single t && occurs t before)) REPEAT
    (unless (not (repeatable t && occurs t before && not (eqb (nearest before) t))) SPLIT
    0))

-- Proofs of the statements in specs/PlacedExample.antt.
use Prim.Native.Nat.{ℕ, ◌+◌}
use mathlib.Core.Path.{◌≡◌, refl, sym, subst}
use mathlib.Core.List.{List, [], ◌∷◌, ◌++◌}
use native.Mathlib.Omega.{arith}
use lib.ListN.{length, length-append}
use Rattle.byte_layout.specs.Fields.{Field, cells, width}
use Rattle.byte_layout.specs.Stored.{text_at, closed}
use Rattle.byte_layout.specs.Placed.{LiesAt, PlacedOpens, PlacedSilent, PlacedWithin}
use Rattle.byte_layout.specs.PlacedExample.{Shared, Shared.whole, Shared.tail, SharedExample, StoredInTurn}
use Rattle.byte_layout.proofs.Runs.{StandsAt, grown, stands_stored, stands_front, stands_back}
use Rattle.byte_layout.proofs.PlacedLaws.{text_lies, closed_text_lies, text_said_at, text_silent_at}

within : PlacedWithin 5 Shared
unfolding width
within o fs whole = omega arith
within o fs tail = omega arith

lies : (v w o : ℕ) (fs : List Field) → Shared o fs → LiesAt (97 ∷ 98 ∷ 0 ∷ v ∷ w ∷ []) o (cells fs)
unfolding text_at
lies v w o fs whole = text_lies (97 ∷ 98 ∷ 0 ∷ v ∷ w ∷ []) 0 5 (97 ∷ 98 ∷ []) refl
lies v w o fs tail = text_lies (97 ∷ 98 ∷ 0 ∷ v ∷ w ∷ []) 1 4 (98 ∷ []) refl

silent : PlacedSilent Shared 3
silent o k fs whole e = text_silent_at 5 (97 ∷ 98 ∷ []) k (omega arith)
silent o k fs tail e = text_silent_at 4 (98 ∷ []) k (omega arith)

unclosed : PlacedOpens (97 ∷ 98 ∷ 99 ∷ 0 ∷ 0 ∷ []) 5 Shared → ⊥
unfolding cells
unclosed h = let e : ◌≡◌ {A = ℕ} 99 0 = h.lies 0 _ whole 2 0 (omega arith) refl in omega arith

pub shared_example : SharedExample
shared_example =
    record {
      within = within;
      opens = λ v w. record { within = omega arith; lies = lies v w };
      silent = silent;
      closing = λ s. text_said_at 5 (97 ∷ 98 ∷ []) 2 (omega arith) (omega arith) (s 0 2 _ whole refl);
      unclosed = unclosed;
    }

pub stored_in_turn : StoredInTurn
stored_in_turn e q r s t a j k h f g =
    let x = closed s in
    let y = closed t in
    let n = length-append x y in
    let z = grown e q r x y a (length x) (length y) refl (omega arith) f g in
    let w : StandsAt r a (x ++ y) =
    subst (λ (b : List ℕ). StandsAt b a (x ++ y)) (sym z) (stands_stored e (x ++ y) a (length x + length y) n (omega arith)) in
    (closed_text_lies r a j s (stands_front r a x y w), closed_text_lies r (a + length x) k t (stands_back r a (a + length x) x y refl w))

-- What `list` answers, by whether the output is long enough.
use Rattle.std.specs.Prelude.{Ok, Err}
use Prim.Native.Nat.{ℕ, ◌≤◌, ◌<◌}
use mathlib.Core.Path.{◌≡◌, refl, ap}
use mathlib.Core.Bool.{Bool, true, false}
use mathlib.Core.List.{List}
use native.Mathlib.Omega.{arith}
use lib.Dec.{leb}
use lib.ListN.{length}
use borrow.Author.Tests.{leb-true, le-leb, lt-leb}
use Rattle.byte_layout.specs.Stored.{over}
use Rattle.text_output.specs.Output.{puts}
use Rattle.key_value_text.proofs.Lengths.{text_place, text_over}
use Rattle.refusals.specs.Refusals.{ROOM}
use Rattle.refusals.specs.Answers.{Answer, refusal, refused}
use Rattle.ultra_format.specs.Decoding.{pick}
use Rattle.refusals.specs.declared.Refusal.{Refusal}
use Rattle.listing_format.specs.Listing.{listing, listed}
use Rattle.listing_format.proofs.Bounds.{listing_fits}

module _ (b out : List ℕ) where
  pub list_short : (r : Refusal) → length out < length (listing b) → r ≡ refusal ROOM 0 → (Err r, out) ≡ listed b out
  unfolding listed
  list_short r h e = rw (lt-leb (length (listing b)) (length out) h, e)

  pub list_whole : (o : List ℕ) (n : ℕ) → length (listing b) ≤ length out → (o, n) ≡ puts (out, 0) (listing b) → (Ok n, o) ≡ listed b out
  unfolding listed
  list_whole o n h e =
      let m : length (listing b) ≤ 4294967295 = omega (arith, listing_fits b) in
      rw (le-leb (length (listing b)) (length out) h, text_place (listing b) out m n o e, text_over (listing b) out m n o h e)

  -- what was listed is within the output
  pub listed_within : (n : ℕ) (o : List ℕ) → (Ok n, o) ≡ listed b out → n ≤ length out
  unfolding listed
  listed_within n o e = by_room (leb (length (listing b)) (length out)) refl e
    where
      by_room : (t : Bool) → leb (length (listing b)) (length out) ≡ t → ◌≡◌ {A = Answer × List ℕ} (Ok n, o) (pick t (Ok (length (listing b)), over (listing b) out) (refused ROOM 0, out)) → n ≤ length out
      by_room true h f =
          let q : ◌≡◌ {A = Answer} (Ok n) (Ok (length (listing b))) = ap (λ (p : Answer × List ℕ). p.0) f in
          let r : n ≡ length (listing b) = cc in
          omega (arith, leb-true (length (listing b)) (length out) h)
      by_room false h f =
          let q : ◌≡◌ {A = Answer} (Ok n) (refused ROOM 0) = ap (λ (p : Answer × List ℕ). p.0) f in
          let r : ◌≡◌ {A = ℕ} 0 1 = cc in omega arith

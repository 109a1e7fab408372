-- The entries given, one after the other, and the bytes of their strings.
use Prim.Native.Nat.{ℕ, zero, suc, ◌+◌}
use mathlib.Core.Path.{◌≡◌, refl, ap, ap₂}
use mathlib.Core.List.{List, [], ◌∷◌, ◌++◌}
use native.Mathlib.Omega.{arith}
use native.Mathlib.Nat.{add-zero, zero-add}
use lib.ListN.{length}
use Rattle.handover_format.specs.Payloads.{names_name, names_meta, Entry}
use Rattle.handover_format.specs.WrittenForm.{closed_if, strings_of}
use Rattle.handover_format.proofs.WrittenLaws.{closed_picked}
use Rattle.handover_arguments.specs.PayloadGiven.{record_given, name_part, meta_part, string_given, entry_given, entries_from}

module _ (rs ps run : List ℕ) where
  pub entries_none : (i : ℕ) → entries_from rs ps run i 0 ≡ []
  unfolding entries_from
  entries_none i = refl

  pub length_entries : (i n : ℕ) → length (entries_from rs ps run i n) ≡ n
  unfolding entries_from
  length_entries i zero = refl
  length_entries i (suc n) = ap suc (length_entries (suc i) n)

  one_more : (i n : ℕ) → entries_from rs ps run i (n + 1) ≡ entries_from rs ps run i n ++ (entry_given rs ps run (i + n) ∷ [])
  unfolding entries_from
  one_more i zero = rw add-zero
  one_more i (suc n) =
      let q : suc n + 1 ≡ suc (n + 1) = omega arith in
      let r : i + suc n ≡ suc i + n = omega arith in
      rw (q, r) (ap (λ (es : List Entry). entry_given rs ps run i ∷ es) (one_more (suc i) n))

  pub entries_more : (n : ℕ) → entries_from rs ps run 0 (n + 1) ≡ entries_from rs ps run 0 n ++ (entry_given rs ps run n ∷ [])
  entries_more n = rw zero-add at (one_more 0 n)

  -- a string that is not named is given as none, and none is written
  pub strings_given : (i : ℕ) → strings_of (entry_given rs ps run i)
      ≡ closed_if (names_name (record_given rs i).tag) (string_given ps run (name_part i)) ++ closed_if (names_meta (record_given rs i).tag) (string_given ps run (meta_part i))
  strings_given i =
      ap₂ (λ (x y : List ℕ). x ++ y) (closed_picked (names_name (record_given rs i).tag) (string_given ps run (name_part i)))
      (closed_picked (names_meta (record_given rs i).tag) (string_given ps run (meta_part i)))

-- Laws of the map question with an output of bytes.
use Prim.Native.Nat.{ℕ, ◌+◌, ◌-◌, ◌*◌, ◌/◌, ◌≤◌}
use mathlib.Core.Path.{◌≡◌, ap, ◌∙◌}
use mathlib.Core.List.{List, [], ◌++◌, append_assoc}
use native.Mathlib.Omega.{arith}
use lib.ListN.{length, take, drop, length-append, length-drop, take-append-drop}
use lib.Seq.{length-take-le, drop-drop}
use Rattle.words.specs.Words.{numbers_at, numbers_in, numbers_bytes}
use Rattle.words.proofs.Numbers.{length_numbers, numbers_bytes_law}
use Rattle.words.proofs.NumberBytes.{length_numbers_bytes, front_bytes}
use Rattle.byte_layout.specs.Stored.{Bytes, bytes_at, over}
use Rattle.byte_layout.proofs.Copies.{bytes_taken}
use Rattle.refusals.specs.Answers.{Answer}
use Rattle.ultra_map_question.specs.declared.MapNumbers.{MapNumbers}
use Rattle.ultra_map_question.specs.MapQuestion.{map_copied, map_copied_bytes}
use Rattle.ultra_map_question.proofs.MapLaws.{Copies}

-- with what is after it there already
over_again : (x out : List ℕ) (m : ℕ) → length x + m ≤ length out → over (x ++ take m (drop (length x) out)) out ≡ over x out
over_again x out m h =
    let l : length (take m (drop (length x) out)) ≡ m = length-take-le m (drop (length x) out) (omega (arith, length-drop (length x) out)) in
    rw (length-append x (take m (drop (length x) out)), l, ← (drop-drop m (length x) out), append_assoc, take-append-drop)

module _ (b out : List ℕ) (y : Bytes out) where
  -- numbers over those of the output are their bytes over it
  pub over_numbers : (ns : List ℕ) → length ns ≤ length out / 8 → over (numbers_bytes (over ns (numbers_in out))) out ≡ over (numbers_bytes ns) out
  over_numbers ns h =
      rw (front_bytes out ns y h)
      (over_again (numbers_bytes ns) out (8 * (length out / 8 - length ns)) (omega (arith, length_numbers_bytes ns)))

  -- where nothing is copied
  pub bytes_kept_law : (r : Answer) → map_copied b (numbers_in out) ≡ (r, numbers_in out) → map_copied_bytes b out ≡ (r, out)
  unfolding map_copied_bytes numbers_bytes
  bytes_kept_law r e = rw e (ap (λ (l : List ℕ). (r, l)) (over_numbers [] (omega arith)))

  pub bytes_copied_law : Bytes b → (m : MapNumbers) → Copies b (length out / 8) m
      → map_copied_bytes b out ≡ (m.answer, over (bytes_at b m.start (8 * m.count)) out)
  unfolding map_copied_bytes
  bytes_copied_law z m t =
      let ns = numbers_at b m.start m.count in
      let s : numbers_bytes ns ≡ bytes_at b m.start (8 * m.count) = numbers_bytes_law b z m.start m.count t.within ∙ bytes_taken b m.start (8 * m.count) t.within in
      rw (t.copied (numbers_in out) (length_numbers out 0 (length out / 8)))
      (ap (λ (l : List ℕ). (m.answer, l)) (over_numbers ns (omega (arith, length_numbers b m.start m.count, t.room)) ∙ ap (λ (l : List ℕ). over l out) s))

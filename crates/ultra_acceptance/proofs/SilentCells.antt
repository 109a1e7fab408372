-- The bytes that document 01 calls silent, by its digits, are silent in the layout of what is decoded.
use Prim.Native.Nat.{ℕ, zero, suc, ◌+◌, ◌-◌, ◌<◌}
use mathlib.Core.Path.{◌≡◌, refl, ◌∙◌}
use mathlib.Core.List.{List, [], ◌∷◌, ◌++◌}
use native.Mathlib.Omega.{arith}
use native.Mathlib.Nat.{not-suc-le-zero, le_of_suc-le-suc, add-zero}
use lib.ListN.{length, get_or, take, drop}
use lib.Seq.{get_or-append-add}
use borrow.Author.Tests.{le-leb}
use Rattle.byte_layout.specs.Fields.{Cell, Field, silence, text_cells, field_cells, field_width, cells, width, SilentAt}
use Rattle.byte_layout.specs.Fields.{Cell.silent, Field.text, Field.padding}
use Rattle.byte_layout.specs.Stored.{up_to_zero, text_at}
use Rattle.byte_layout.proofs.FieldLaws.{length_field}
use Rattle.ultra_format.specs.Contexts.{Body}
use Rattle.ultra_format.specs.Layouts.{body_fields}
use Rattle.ultra_format.specs.Decoding.{decoded}
use Rattle.ultra_format.proofs.Bodies.{by_type}
use Rattle.ultra_acceptance.specs.Unread.{ZeroBefore, SilentByte}
use Rattle.ultra_acceptance.specs.Unread.{SilentByte.platform_reserved, SilentByte.platform_tail, SilentByte.kernel_tail, SilentByte.module_reserved, SilentByte.module_tail, SilentByte.framebuffer_tail}
use Rattle.ultra_acceptance.specs.Unread.{SilentByte.platform_name, SilentByte.kernel_path, SilentByte.module_name, SilentByte.command_line_text, SilentByte.other_body}

-- ---- fields in a row
-- byte i is byte m of what stands after the first n fields
pub past : (n : ℕ) (fs : List Field) (i m : ℕ) → width (take n fs) + m ≡ i → get_or (cells fs) i silent ≡ get_or (cells (drop n fs)) m silent
unfolding cells width
past zero fs i m e = let q : i ≡ m = omega arith in rw q
past (suc n) [] i m e = refl
past (suc n) (f ∷ fs) i m e =
    let k = i - field_width f in
    let q : i ≡ length (field_cells f) + k = omega (arith, length_field f) in
    rw q (get_or-append-add (field_cells f) (cells fs) k silent ∙ past n fs k m (omega arith))

in_silence : (k m : ℕ) (cs : List Cell) → m < k → SilentAt (silence k ++ cs) m
in_silence zero m cs h = absurd (not-suc-le-zero h)
in_silence (suc k) zero cs h = refl
in_silence (suc k) (suc m) cs h = in_silence k m cs (le_of_suc-le-suc h)

in_padding : (k m : ℕ) (fs : List Field) → m < k → SilentAt (cells (padding k ∷ fs)) m
unfolding cells
in_padding k m fs h = in_silence k m (cells fs) h

-- a zero at byte z of the text's field
after_zero : (b : List ℕ) (p k z m : ℕ) (cs : List Cell) → get_or b (p + z) 0 ≡ 0 → z < m → m < k → SilentAt (text_cells k (text_at b p k) ++ cs) m
unfolding text_at
after_zero b p zero z m cs e l h = absurd (not-suc-le-zero h)
after_zero b p (suc k) z zero cs e l h = absurd (not-suc-le-zero l)
after_zero b p (suc k) z (suc m) cs e l h = go (get_or b p 0) z refl e l (λ y. after_zero b (p + 1) k y m cs)
  where
    go : (x z : ℕ) → get_or b p 0 ≡ x → get_or b (p + z) 0 ≡ 0 → z < suc m
        → ((y : ℕ) → get_or b (p + 1 + y) 0 ≡ 0 → y < m → m < k → SilentAt (text_cells k (text_at b (p + 1) k) ++ cs) m)
        → SilentAt (text_cells (suc k) (up_to_zero x (text_at b (p + 1) k)) ++ cs) (suc m)
    go zero z q e l r = in_silence k m cs (le_of_suc-le-suc h)
    go (suc x) zero q e l r = let f : get_or b p 0 ≡ 0 = rw add-zero at e in absurd (omega arith)
    go (suc x) (suc z) q e l r = let w : p + 1 + z ≡ p + suc z = omega arith in r z (rw w e) (omega arith) (le_of_suc-le-suc h)

in_text : (b : List ℕ) (o first k m c : ℕ) (fs : List Field) → ZeroBefore b o first c → c ≡ first + m → m < k → SilentAt (cells (text k (text_at b (o + first) k) ∷ fs)) m
unfolding cells
in_text b o first k m c fs z e h =
    let y = z.0 - first in
    let q : o + first + y ≡ o + z.0 = omega (arith, z.1) in
    after_zero b (o + first) k y m (cells fs) (rw q z.3) (omega (arith, z.1, z.2)) h

-- ---- bodies
-- byte 8 + i of an attribute, which is byte i of its body
module _ (b : List ℕ) (o s : ℕ) where
  pub silent_body : (t i : ℕ) → 8 + i < s → SilentByte b o t (8 + i) → SilentAt (cells (body_fields s (decoded b o s t))) i
  unfolding decoded width
  silent_body t i l (platform_reserved e g h) =
      rw (e, le-leb 64 s (omega arith), le-leb 65 s (omega arith)) (past 7 _ i (i - 57) (omega arith) ∙ (in_padding 7 (i - 57) _ (omega arith)))
  silent_body t i l (platform_tail e g) =
      rw (e, le-leb 64 s (omega arith), le-leb 65 s (omega arith), le-leb 80 s (omega arith), le-leb 88 s (omega arith))
      (past 10 _ i (i - 80) (omega arith) ∙ (in_padding (s - 88) (i - 80) [] (omega arith)))
  silent_body t i l (kernel_tail e g) = rw e (past 9 _ i (i - 328) (omega arith) ∙ (in_padding (s - 336) (i - 328) [] (omega arith)))
  silent_body t i l (module_reserved e g h) = rw e (in_padding 4 i _ (omega arith))
  silent_body t i l (module_tail e g) = rw e (past 5 _ i (i - 88) (omega arith) ∙ (in_padding (s - 96) (i - 88) [] (omega arith)))
  silent_body t i l (framebuffer_tail e g) = rw e (past 6 _ i (i - 24) (omega arith) ∙ (in_padding (s - 32) (i - 24) [] (omega arith)))
  silent_body t i l (platform_name e z h) =
      rw e (past 3 _ i (i - 8) (omega (arith, z.1, z.2)) ∙ (in_text b o 16 32 (i - 8) (8 + i) _ z (omega (arith, z.1, z.2)) (omega arith)))
  silent_body t i l (kernel_path e z h) =
      rw e (past 8 _ i (i - 72) (omega (arith, z.1, z.2)) ∙ (in_text b o 80 256 (i - 72) (8 + i) _ z (omega (arith, z.1, z.2)) (omega arith)))
  silent_body t i l (module_name e z h) =
      rw e (past 2 _ i (i - 8) (omega (arith, z.1, z.2)) ∙ (in_text b o 16 64 (i - 8) (8 + i) _ z (omega (arith, z.1, z.2)) (omega arith)))
  silent_body t i l (command_line_text e z) = rw e (in_text b o 8 (s - 8) i (8 + i) [] z refl (omega arith))
  silent_body t i l (other_body g h) =
      by_type (λ (x : Body). SilentAt (cells (body_fields s x)) i) b o s t
      (λ e. absurd (omega arith)) (λ e. absurd (omega arith)) (λ e. absurd (omega arith)) (λ e. absurd (omega arith)) (λ e. absurd (omega arith)) (λ e. absurd (omega arith))
      (λ n. in_padding (s - 8) i [] (omega arith))

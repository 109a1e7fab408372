-- Laws of putting lines one after the other.
use mathlib.Core.Path.{◌≡◌, refl, sym, ◌∙◌}
use mathlib.Core.List.{List, [], ◌∷◌, ◌++◌}
use Prim.Native.Nat.{ℕ}
use Rattle.text_output.specs.Output.{State, put, puts}
use Rattle.text_output.specs.Spelling.{each}
use Rattle.text_output.proofs.Puts.{puts_append, after_it, byte_after}
use Rattle.key_value_text.specs.Lines.{Value, Line, line, key_bytes, value_bytes, line_bytes, lines_bytes}
use Rattle.key_value_text.specs.LineOutput.{put_lines}

-- ---- a line: its key, its value, its newline
pub line_put : (s t u v : State) (k : List ℕ) (x : Value) → t ≡ puts s (key_bytes k) → u ≡ puts t (value_bytes x) → v ≡ put u 10 → v ≡ puts s (line_bytes (line k x))
unfolding line_bytes
line_put s t u v k x e f g = byte_after s u v (key_bytes k ++ value_bytes x) 10 (after_it s t u (key_bytes k) (value_bytes x) e f) g

-- ---- lines, one after the other
pub lines_append : (s : State) (l m : List Line) → put_lines s (l ++ m) ≡ put_lines (put_lines s l) m
lines_append s [] m = refl
lines_append s (x ∷ l) m = lines_append (puts s (line_bytes x)) l m

pub lines_put : (s : State) (ls : List Line) → put_lines s ls ≡ puts s (lines_bytes ls)
unfolding each puts
lines_put s [] = refl
lines_put s (x ∷ ls) = lines_put (puts s (line_bytes x)) ls ∙ sym (puts_append s (line_bytes x) (lines_bytes ls))

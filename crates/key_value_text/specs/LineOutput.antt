-- Lines put one after the other.
-- Serves the library's own functions and proofs: no published contract or promise rests on it.
use Rattle.std.specs.Prelude.{List, [], ◌∷◌}
use Rattle.text_output.specs.Output.{State, puts}
use Rattle.key_value_text.specs.Lines.{Line, line_bytes}

-- lines put one after the other: what `lines_bytes` puts (proved as `lines_put`), a line at a time, as a writer puts them
abbrev pub put_lines : State → List Line → State
put_lines s [] = s
put_lines s (x ∷ ls) = put_lines (puts s (line_bytes x)) ls

-- key=value lines: what a line holds, and its bytes. Document 01: "prints key=value lines".
-- A reader has to believe this file.
use Rattle.std.specs.Prelude.{ℕ, List, [], ◌∷◌, ◌++◌}
use Prim.Native.Char.{code}
use Rattle.text_output.specs.Spelling.{each, joined, hex_pair, spelled}

-- `numbers c ns`: the numbers ns with the character c between them
-- `text t`: the bytes t, escaped
-- `hex l`: the bytes l, two digits each
-- `absent`: "an absent platform member prints `-`"
pub data Value : Type 0 where
  numbers : ℕ → List ℕ → Value
  text : List ℕ → Value
  hex : List ℕ → Value
  absent : Value

pub record Line : Type 0 where
  pub key : List ℕ
  pub value : Value

abbrev pub line : List ℕ → Value → Line
line k v = record { key = k; value = v }

unfoldable pub value_bytes : Value → List ℕ
value_bytes (numbers c ns) = joined c ns
value_bytes (text t) = each spelled t
value_bytes (hex l) = each hex_pair l
value_bytes absent = code "-" ∷ []

-- the key and `=`
abbrev pub key_bytes : List ℕ → List ℕ
key_bytes k = k ++ (code "=" ∷ [])

-- the key, `=`, the value and the newline
unfoldable pub line_bytes : Line → List ℕ
line_bytes l = key_bytes l.key ++ value_bytes l.value ++ (code "\n" ∷ [])

abbrev pub lines_bytes : List Line → List ℕ
lines_bytes ls = each line_bytes ls

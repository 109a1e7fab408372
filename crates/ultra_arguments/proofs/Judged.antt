-- What the five tests make is the number of the members; and the tests of a command line's form.
use Prim.Native.Nat.{ℕ, ◌-◌}
use mathlib.Core.Path.{◌≡◌, refl, ap, ◌∙◌}
use mathlib.Core.Bool.{Bool, true, false}
use mathlib.Core.List.{List}
use native.Mathlib.Omega.{arith}
use borrow.Author.Tests.{lt-ltb, le-leb}
use lib.ListN.{length}
use lib.Dec.{leb}
use Rattle.refusals.specs.Refusals.{unless, FORM}
use Rattle.ultra_format.specs.Members.{size_suits, values, every, ascii, ascii_text, texts, ranges, ordered, member_check, body_check}
use Rattle.ultra_format.specs.Contexts.{Body, Body.command_line}
use Rattle.ultra_format.specs.Plain.{written_size}
use Rattle.ultra_format.specs.Additions.{given_check}
use Rattle.ultra_rules.proofs.Judged as stored

form_first : (f v t r o : Bool) → member_check f v t r o ≡ unless f FORM (member_check true v t r o)
form_first true v t r o = refl
form_first false v t r o = refl

-- the five tests, each an answer to its rule, are the number of members that suit the size they are written with
pub judged : (f : Bool) (x : Body) {v t r o : Bool} → size_suits (written_size x) x ≡ true → v ≡ values x → t ≡ texts (written_size x) x → r ≡ ranges x
    → o ≡ ordered x → member_check f v t r o ≡ given_check f x
unfolding given_check body_check
judged f x {v} {t} {r} {o} form value text range order = form_first f v t r o ∙ ap (unless f FORM) (stored.judged (written_size x) x form value text range order)

-- a command line is written in 16 bytes at least, and shorter than its field
pub line_form : (t : List ℕ) → leb 16 (written_size (command_line t)) ≡ true
unfolding written_size
line_form t = le-leb 16 (written_size (command_line t)) (omega arith)

pub line_text_law : (t : List ℕ) → every ascii t ≡ ascii_text (written_size (command_line t) - 8) t
unfolding ascii_text written_size
line_text_law t = rw (lt-ltb (length t) (written_size (command_line t) - 8) (omega arith))

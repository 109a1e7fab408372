-- What adding answers, and what it leaves in the buffer.
-- A reader has to believe this file.
use Rattle.std.specs.Prelude.{ℕ, ◌+◌, Bool, List, length, Ok, Err}
use Rattle.words.specs.Words.{replaced}
use Rattle.ultra_format.specs.Contexts.{Body, type_of}
use Rattle.ultra_format.specs.Plain.{written_size}
use Rattle.ultra_format.specs.Additions.{Addition, body_given, formed, given_check, new_bytes}
use Rattle.refusals.specs.Answers.{Answer}
use Rattle.ultra_appending.specs.Appending.{append_offset, counted}

-- "Success writes the body into the middle of the buffer, at the used length, raises the head's count by one and changes no other byte"
abbrev pub with_attribute : List ℕ → ℕ → Body → List ℕ
with_attribute b n x = replaced (counted b) n (length (new_bytes x)) (new_bytes x)

-- the answer, and the buffer afterwards: success answers the new used length, and a refusal changes nothing
abbrev pub added_at : List ℕ → Body → Answer → Answer × List ℕ
added_at b x (Ok n) = (Ok (n + written_size x), with_attribute b n x)
added_at b x (Err r) = (Err r, b)

-- of members given, formed or not
unfoldable pub added_members : List ℕ → Bool → Body → Answer × List ℕ
added_members b formed x = added_at b x (append_offset b (type_of x) (given_check formed x) (written_size x))

-- of what an add is given
abbrev pub added : List ℕ → Addition → Answer × List ℕ
added b g = added_members b (formed g) (body_given g)

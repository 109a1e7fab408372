-- What a pass over the attributes of a buffer asks of the one that it has come to, and what that one becomes.
-- Serves the library's own functions and proofs: no published contract or promise rests on it.
use Rattle.std.specs.Prelude.{ℕ, ◌+◌, ◌≤◌, ◌≡◌, true, List, length, eqb}
use Rattle.words.specs.Words.{u32_at}
use Rattle.ultra_format.specs.Contexts.{Body}
use Rattle.ultra_format.specs.Members.{size_suits}
use Rattle.ultra_format.specs.Decoding.{decoded}
use Rattle.handover_format.specs.Payloads.{Entry}
use Rattle.export_list.specs.ExportList.{records_if}

-- the attribute at `o`
abbrev body_from : List ℕ → ℕ → Body
body_from b o = decoded b o (u32_at b (o + 4)) (u32_at b o)

-- it is there, and its size suits its type
pub record AttributeAt (b : List ℕ) (o : ℕ) : Type 0 where
  pub least : 8 ≤ u32_at b (o + 4)
  pub within : o + u32_at b (o + 4) ≤ length b
  pub small : o + u32_at b (o + 4) ≤ 65536
  pub suits : size_suits (u32_at b (o + 4)) (body_from b o) ≡ true

-- what it becomes, where it is of type k
unfoldable pub becomes : List ℕ → ℕ → ℕ → List Entry
becomes b o k = records_if (eqb (u32_at b o) k) (body_from b o)

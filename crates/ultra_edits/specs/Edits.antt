-- Edits of a context that a buffer holds: other attributes in the place of some. Removing one, replacing one by another of its type, and
-- adding one at the end are such edits. The statements are proved in proofs/Edits.antt and proofs/OneAttribute.antt.
-- Serves the library's own functions and proofs: no published contract or promise rests on it.
use Rattle.std.specs.Prelude.{ℕ, ◌+◌, ◌-◌, ◌≤◌, ◌<◌, ◌≡◌, ◌⊎◌, List, [], ◌∷◌, ◌++◌, length, get_or, take, drop}
use Rattle.words.specs.Words.{replaced}
use Rattle.byte_layout.specs.Fields.{cells, filled, Fits}
use Rattle.ultra_format.specs.Contexts.{type_of, Attribute, Context, count, size_at, type_at, total, start_in, used}
use Rattle.lent_buffers.specs.Room.{room_of}
use Rattle.ultra_format.specs.Layouts.{attribute_fields, attributes_fields, attribute_written, written}
use Rattle.ultra_format.specs.Rules.{AttributeMeets, Meets}
use Rattle.ultra_acceptance.specs.Acceptance.{HoldsContext}
use Rattle.ultra_edits.specs.Splicing.{spliced, counting}

-- ---- an edit of a list
-- c with the attributes `new` in place of its k from i on, or of as many of these as there are
abbrev pub edited : Context → (i k : ℕ) → List Attribute → Context
edited c i k new =
    record { major = c.major; minor = c.minor; attributes = take i c.attributes ++ (new ++ drop (i + k) c.attributes) }

-- c with one attribute more at the end
abbrev pub extended : Context → Attribute → Context
extended c a = record { major = c.major; minor = c.minor; attributes = c.attributes ++ (a ∷ []) }

-- the size of the k attributes from i on
abbrev pub old_size : Context → (i k : ℕ) → ℕ
old_size c i k = total (take k (drop i c.attributes))

-- ---- the same edit of a buffer
-- what a writer writes of attributes in a row
abbrev pub row_written : List Attribute → List ℕ
row_written l = filled (cells (attributes_fields l))

-- the buffer b, which holds c, after the edit
abbrev pub edited_bytes : List ℕ → Context → (i k : ℕ) → List Attribute → List ℕ
edited_bytes b c i k new =
    spliced (counting (count (edited c i k new)) b) (start_in c.attributes i) (old_size c i k) (row_written new)
    (used c - (start_in c.attributes i + old_size c i k))

-- b, which holds c, has become d by the edit. Document 02, R-8: "The head's other bytes stay, every attribute not named keeps all its
-- bytes, silent ones too, bytes past the new used length stay, and the result reads as the edited list".
pub record Edited (fewest : ℕ) (b : List ℕ) (c : Context) (i k : ℕ) (new : List Attribute) (d : List ℕ) : Type 0 where
  pub holds : HoldsContext fewest d (edited c i k new)
  pub before : (j : ℕ) → (j < 4) ⊎ ((8 ≤ j) × (j < start_in c.attributes i)) → get_or d j 0 ≡ get_or b j 0
  -- new attributes are written as adding writes them, silent bytes zero
  pub fresh : (j : ℕ) → j < length (row_written new) → get_or d (start_in c.attributes i + j) 0 ≡ get_or (row_written new) j 0
  pub after : (j : ℕ) → start_in c.attributes i + old_size c i k + j < used c
      → get_or d (start_in c.attributes i + total new + j) 0 ≡ get_or b (start_in c.attributes i + old_size c i k + j) 0
  pub past : (j : ℕ) → used (edited c i k new) ≤ j → get_or d j 0 ≡ get_or b j 0
  pub same_length : length d ≡ length b
  -- where the bytes were what a writer writes of the list, they are again
  pub rewritten : take (used c) b ≡ written c → take (used (edited c i k new)) d ≡ written (edited c i k new)

-- where the edited list meets the rules, the buffer after the edit holds it
abbrev pub EditHolds : Type 0
EditHolds =
    (fewest : ℕ) (b : List ℕ) (c : Context) (i k : ℕ) (new : List Attribute) → HoldsContext fewest b c
    → Meets fewest (room_of b) (edited c i k new) → Edited fewest b c i k new (edited_bytes b c i k new)

-- one more at the end is the edit that puts it in place of none: the list, and the bytes
abbrev pub ExtendingEdits : Type 0
ExtendingEdits =
    (b : List ℕ) (c : Context) (a : Attribute) → (edited c (count c) 0 (a ∷ []) ≡ extended c a)
    × (edited_bytes b c (count c) 0 (a ∷ [])
    ≡ replaced (counting (count c + 1) b) (used c) (length (attribute_written a)) (attribute_written a))

-- ---- edits of one attribute, of a context of at least two
-- any but the first two can be removed
abbrev pub Removes : Type 0
Removes =
    (b : List ℕ) (c : Context) (i : ℕ) → HoldsContext 2 b c → 2 ≤ i → i < count c
    → Edited 2 b c i 1 []
    (spliced (counting (count c - 1) b) (start_in c.attributes i) (size_at c i) [] (used c - (start_in c.attributes i + size_at c i)))

-- any can be replaced by one of its type, if there is room; the count stays
abbrev pub Replaces : Type 0
Replaces =
    (b : List ℕ) (c : Context) (i : ℕ) (a : Attribute) → HoldsContext 2 b c → i < count c → type_of a.body ≡ type_at c i
    → AttributeMeets a.size a.body → Fits (attribute_fields a) → used c + a.size ≤ room_of b + size_at c i
    → Edited 2 b c i 1 (a ∷ [])
    (spliced b (start_in c.attributes i) (size_at c i) (attribute_written a) (used c - (start_in c.attributes i + size_at c i)))

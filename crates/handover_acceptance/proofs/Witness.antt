-- The refusals in digits, by computing; and what is not looked at, by `unread_bytes`.
use Prim.Native.Nat.{ℕ}
use mathlib.Core.Path.{◌≡◌, refl, ◌∙◌}
use mathlib.Core.List.{List, [], ◌∷◌, ◌++◌}
use native.Mathlib.Omega.{arith}
use lib.ListN.{replicate, set, length-replicate}
use Rattle.words.specs.Words.{number_at}
use Rattle.byte_layout.specs.Stored.{text_at}
use Rattle.refusals.specs.Answers.{refused}
use Rattle.handover_format.specs.RecordTests.{if_named}
use Rattle.handover_reading.specs.PayloadReading.{head_check, words_check, closes, strings_check, each_of, body_answer, reading_of}
use Rattle.handover_acceptance.specs.Witness.{head, Witnessed}
use Rattle.handover_acceptance.proofs.PayloadUnread.{unread_bytes}

unread_byte_law : (x : ℕ) → reading_of (set (head 0 16 1 0 ++ (5 ∷ [])) 16 x) ≡ refused 21 0
unfolding reading_of head_check body_answer number_at
unread_byte_law x = unread_bytes.past_size (head 0 16 1 0 ++ (5 ∷ [])) 16 x (omega arith) (omega arith) ∙ refl

unread_rest_law : (rest : List ℕ) → reading_of (replicate 65536 0 ++ rest) ≡ reading_of (replicate 65536 0)
unread_rest_law rest = unread_bytes.past_room (replicate 65536 0) rest (omega (arith, length-replicate {A = ℕ} 65536 0))

pub witnessed : Witnessed
unfolding reading_of head_check body_answer each_of words_check strings_check closes if_named number_at text_at
witnessed =
    record {
      short = refl;
      magic = refl;
      none = refl;
      many = refl;
      most = refl;
      less = refl;
      more = refl;
      missing = refl;
      misplaced = refl;
      row_by_row = refl;
      range = refl;
      agent = refl;
      unclosed = refl;
      string = refl;
      least = refl;
      unread_byte = unread_byte_law;
      unread_rest = unread_rest_law;
    }

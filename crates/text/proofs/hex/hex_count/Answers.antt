use Rattle.std.proofs.Common.{arith, sym, ◌∙◌}
use Rattle.text.proofs.HexLaws.{count_dash, count_some, count_not, count_long}
use Rattle.text.proofs.hex.hex_count.Goals as goal
use Rattle.text.proofs.hex.hex_count.Goals.{else-n-room-via-then-n-room+else-is_hex, else-n-room-via-else-n-room}

pub returns-then-is_word : goal.returns-then-is_word
returns-then-is_word c = count_dash _ _ (sym c.is_word.ensures ∙ c.if-is_word.true)

pub returns-then-is_hex : goal.returns-then-is_hex
returns-then-is_hex c = count_some _ _ (sym c.is_word.ensures ∙ c.if-is_word.false) (sym c.is_hex.ensures ∙ c.if-is_hex.true) (omega arith)

pub returns-else-n-room : goal.returns-else-n-room
returns-else-n-room c =
    let d = sym c.is_word.ensures ∙ c.if-is_word.false in
    elim c.else-n-room.branch [
      | else-n-room-via-then-n-room+else-is_hex w ↦ count_not _ _ d (sym w.is_hex.ensures ∙ w.if-is_hex.false)
      | else-n-room-via-else-n-room w ↦ count_long _ _ d (omega arith)
    ]

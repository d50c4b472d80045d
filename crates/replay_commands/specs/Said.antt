-- The answer itself, as the code puts it into a buffer before the checksums.
use Rattle.std.specs.Prelude.{ℕ, List, [], ◌∷◌, take}
use Rattle.text.specs.Letters.{letters}
use Rattle.replay_commands.specs.declared.Reply.{Reply}
use Rattle.replay_commands.specs.declared.Reply.TheVariants.{Error, Plain, Yes, No, Done, Refused, Laid, Shown, Asked}
use Rattle.replay_commands.specs.Line.{shown_text, said}

unfoldable pub reply_text : Reply → List ℕ → List ℕ
reply_text Error page = letters "err"
reply_text Plain page = said (letters "ok") [] []
reply_text Yes page = said (letters "yes") [] []
reply_text No page = said (letters "no") [] []
reply_text (Done n) page = said (letters "ok") (n ∷ []) []
reply_text (Refused n) page = said (letters "no") (n ∷ []) []
reply_text (Laid a d) page = said (letters "ok") (a ∷ d ∷ []) []
reply_text (Shown n k) page = said (letters "ok") (n ∷ []) (shown_text (take k page))
reply_text (Asked a l k) page = said (letters "ok") (a ∷ l ∷ k ∷ []) []

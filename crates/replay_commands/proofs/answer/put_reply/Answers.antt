use Rattle.replay_commands.proofs.LineLaws.{put_reply}
use Rattle.replay_commands.specs.Line.{said, shown_text}
use Rattle.replay_commands.specs.Said.{reply_text}
use Rattle.text.specs.Letters.{letters}
use Rattle.text.specs.Put.{each}
use Rattle.std.proofs.Common.{ℕ, List, [], ◌∷◌, refl, sym, ap}
use mathlib.Core.List.{append-nil}
use Rattle.replay_commands.proofs.answer.put_reply.Goals as goal

pub returns-in-Error-clause-put : goal.returns-in-Error-clause-put
unfolding reply_text each
returns-in-Error-clause-put c = put_reply _ _ _ _ _ _ _ _ c.in-Error.is refl c.put.ensures

pub returns-in-Plain-clause-put : goal.returns-in-Plain-clause-put
unfolding reply_text each
returns-in-Plain-clause-put c = put_reply _ _ _ _ _ _ _ _ c.in-Plain.is refl c.put-in-Plain.ensures

pub returns-in-Yes-clause-put : goal.returns-in-Yes-clause-put
unfolding reply_text each
returns-in-Yes-clause-put c = put_reply _ _ _ _ _ _ _ _ c.in-Yes.is refl c.put-in-Yes.ensures

pub returns-in-No-clause-put : goal.returns-in-No-clause-put
unfolding reply_text each
returns-in-No-clause-put c = put_reply _ _ _ _ _ _ _ _ c.in-No.is refl c.put-in-No.ensures

pub returns-in-Done-clause-put : goal.returns-in-Done-clause-put
unfolding reply_text each
returns-in-Done-clause-put c = put_reply _ _ _ _ _ _ _ _ c.in-Done.is (sym (append-nil _)) c.put_said.ensures.put

pub returns-in-Refused-clause-put : goal.returns-in-Refused-clause-put
unfolding reply_text each
returns-in-Refused-clause-put c = put_reply _ _ _ _ _ _ _ _ c.in-Refused.is (sym (append-nil _)) c.put_said-in-Refused.ensures.put

pub returns-in-Laid-clause-put : goal.returns-in-Laid-clause-put
unfolding reply_text each
returns-in-Laid-clause-put c = put_reply _ _ _ _ _ _ _ _ c.in-Laid.is (sym (append-nil _)) c.put_said-in-Laid.ensures.put

pub returns-in-Shown-clause-put : goal.returns-in-Shown-clause-put
unfolding reply_text each
returns-in-Shown-clause-put c = put_reply _ _ _ _ _ _ _ _ c.in-Shown.is (ap (λ (xs : List ℕ). said (letters "ok") (c.in-Shown.n ∷ []) (shown_text xs)) c.front.ensures) c.put_shown.ensures.put

pub returns-in-Asked-clause-put : goal.returns-in-Asked-clause-put
unfolding reply_text each
returns-in-Asked-clause-put c = put_reply _ _ _ _ _ _ _ _ c.in-Asked.is (sym (append-nil _)) c.put_said-in-Asked.ensures.put

use Rattle.answers.proofs.RefusalLaws.{exit}
use Rattle.preservation.proofs.StoreLaws.{kind_dir}
use Rattle.entries.proofs.TakePlanLaws.{move_taken, move_itself, move_room, move_roomless}
use mathlib.Core.Path.{sym, ◌∙◌}
use Rattle.entries.proofs.plan.move_to.Goals as goal

pub find_slot-requires : goal.find_slot-requires
find_slot-requires c = let p = c.requires in (kind_dir p.0 _ p.1, p.2)

pub returns-in_default : goal.returns-in_default
returns-in_default c = move_taken _ _ _ _ _ _ _ _ (sym c.find_slot.ensures ∙ c.in_default.is)

pub returns-then-is_below : goal.returns-then-is_below
returns-then-is_below c = move_itself _ _ _ _ _ _ _ (sym c.find_slot.ensures ∙ c.in-None.is) (sym c.is_below.ensures ∙ c.if-is_below.true)

pub returns : goal.returns
returns c = move_room _ _ _ _ _ _ _ (sym c.find_slot.ensures ∙ c.in-None.is) (sym c.is_below.ensures ∙ c.if-is_below.false) _ (sym c.room_in.ensures ∙ c.in_ok-room.was)

pub returns-in_err-room : goal.returns-in_err-room
returns-in_err-room c = exit _ _ c.from_residual.ensures.1 ∙ move_roomless _ _ _ _ _ _ _ (sym c.find_slot.ensures ∙ c.in-None.is) (sym c.is_below.ensures ∙ c.if-is_below.false) _ (sym c.room_in.ensures ∙ c.in_err-room.was)

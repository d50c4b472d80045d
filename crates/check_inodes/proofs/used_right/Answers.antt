use Rattle.std.proofs.Common.{arith}
use Rattle.check_inodes.proofs.InodeLaws.{address_new, address_noted}
use Rattle.check_inodes.proofs.used_right.Goals as goal

pub returns-then-a-b : goal.returns-then-a-b
returns-then-a-b c =
    rw (← c.from-a.ensures)
    (address_new _ _ _ (omega (arith, c.requires.0)) (omega (arith, c.requires.0)) _ c.note_new.ensures.0, λ q. rw c.note_new.ensures.1 (address_noted _ _))

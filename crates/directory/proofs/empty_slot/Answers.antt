use Rattle.std.proofs.Common.{rules}
use borrow.Author.Tests.{tests}
use Rattle.names.specs.Entry.{is_empty}
use Rattle.directory.specs.Slot.{empty_slot, slot_empty}
use Rattle.directory.proofs.empty_slot.Goals as goal

pub returns : goal.returns
unfolding empty_slot slot_empty
returns c = c.first_slot.ensures is_empty (record { says = λ e b l r. search (rules, tests) })

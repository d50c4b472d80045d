use Rattle.std.proofs.Common.{sym, ◌∙◌}
use borrow.Author.Tests.{ne_eqb}
use Rattle.script_listing.proofs.PlaceLaws.{place_inode, place_fits, no_directory, has_slots}
use Rattle.script_listing.proofs.is_slot.Goals as goal

pub kind-requires : goal.kind-requires
kind-requires c = let a = c.args in place_inode _ _ a.image.sound a.image.counted a.p c.requires

pub slot_count-requires : goal.slot_count-requires
slot_count-requires c = let a = c.args in place_fits _ _ a.image.sound a.image.counted a.p c.requires (sym c.kind.ensures ∙ c.if-kind-eq-DIRECTORY.true)

pub returns-then-kind-eq-DIRECTORY : goal.returns-then-kind-eq-DIRECTORY
returns-then-kind-eq-DIRECTORY c = has_slots _ c.args.image.n c.args.p (sym c.kind.ensures ∙ c.if-kind-eq-DIRECTORY.true) _ c.slot_count.ensures.0

pub returns-else-kind-eq-DIRECTORY : goal.returns-else-kind-eq-DIRECTORY
returns-else-kind-eq-DIRECTORY c = ne_eqb _ _ c.if-kind-eq-DIRECTORY.false ∙ no_directory _ c.args.image.n c.args.p (λ q. c.if-kind-eq-DIRECTORY.false (c.kind.ensures ∙ q))

use Rattle.std.proofs.Common.{arith}
use Rattle.script_listing.proofs.PlaceLaws.{slot_fits, cut_entry}
use Rattle.script_listing.proofs.entry_at.Goals as goal

pub slot_at-o-requires : goal.slot_at-o-requires
slot_at-o-requires c = let a = c.args in slot_fits _ _ a.image.sound a.image.counted a.p c.requires.0 c.requires.1

pub returns : goal.returns
returns c = (cut_entry _ _ c.args.p c.slot_at-o.result c.slot_at-o.ensures.0, omega (arith, c.slot_at-o.ensures.1))

use Rattle.std.proofs.Common.{arith}
use Rattle.script_listing.proofs.PlaceLaws.{named_fits, filled_slot, entry_text_lem}
use Rattle.text.proofs.PutLaws.{put_same, put_on}
use Rattle.script_listing.proofs.put_entry.Goals as goal

pub entry_at-entry-requires : goal.entry_at-entry-requires
entry_at-entry-requires c = (c.requires.1, filled_slot _ _ c.args.p c.requires.2)

pub put_inode-b-requires : goal.put_inode-b-requires
put_inode-b-requires c = let a = c.args in let p = c.requires in (omega (arith, c.put_place-a.ensures.upper_bound, p.0), named_fits _ _ a.image.sound a.image.counted a.p p.1 p.2 _ _ c.entry_at-entry.ensures.0 c.entry_inode-i.ensures)

pub returns : goal.returns
returns c = put_same _ _ _ _ _ _ (entry_text_lem _ _ c.args.p _ _ c.entry_at-entry.ensures.0 c.entry_inode-i.ensures) (put_on _ _ _ _ _ _ _ _ (put_on _ _ _ _ _ _ _ _ c.put_place-a.ensures.put c.put_inode-b.ensures.put) c.put_name.ensures)

use Rattle.std.proofs.Common.{arith}
use Rattle.sound.proofs.SoundLaws.{is_sound_lem}
use Rattle.sound.specs.declared.Form.TheVariants.{Image}
use Rattle.script_listing.proofs.TextLaws.{count_is, listing_text}
use Rattle.script_listing.proofs.LengthLaws.{head_most}
use Rattle.text.proofs.PutLaws.{put_same, put_on}
use Rattle.script_listing.proofs.put_listing.Goals as goal

pub invariant_of-put_entries-clause-sound : goal.invariant_of-put_entries-clause-sound
invariant_of-put_entries-clause-sound c = (is_sound_lem Image _).from c.requires.1

pub put_entries-requires : goal.put_entries-requires
put_entries-requires c =
    let a = c.args in
    let n = count_is _ _ c.read-n.ensures in
    let l = head_most a.m.now a.d.now in
    omega (arith, c.requires.0, n, c.put_head-e.ensures.ends, l)

pub returns : goal.returns
returns c = put_same _ _ _ _ _ _ (listing_text _ _ _ (count_is _ _ c.read-n.ensures)) (put_on _ _ _ _ _ _ _ _ c.put_head-e.ensures c.put_entries.ensures)

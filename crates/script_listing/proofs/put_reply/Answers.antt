use Rattle.text.proofs.PutLaws.{put_on}
use Rattle.script_listing.specs.Listing.{reply_text}
use Rattle.script_listing.proofs.put_reply.Goals as goal

pub returns : goal.returns
unfolding reply_text
returns c = put_on _ _ _ _ _ _ _ _ c.put_word-e.ensures.put c.put.ensures

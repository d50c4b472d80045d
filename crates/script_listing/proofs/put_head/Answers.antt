use Rattle.script_listing.proofs.TextLaws.{head_text_lem}
use Rattle.text.proofs.PutLaws.{put_same, put_on}
use Rattle.script_listing.proofs.put_head.Goals as goal

pub returns : goal.returns
returns c = put_same _ _ _ _ _ _ (head_text_lem _ _ _ c.read-h.ensures) (put_on _ _ _ _ _ _ _ _ (put_on _ _ _ _ _ _ _ _ c.put_counts-e.ensures.put c.put_numbered-f.ensures.put) c.put.ensures)

use Rattle.script_listing.proofs.TextLaws.{name_text_lem}
use Rattle.text.proofs.PutLaws.{put_same, put_on}
use Rattle.octets.proofs.PartLaws.{cut}
use Rattle.octets.specs.Octets.{part}
use mathlib.Core.Path.{ap, ◌∙◌}
use Prim.Native.Nat.{ℕ}
use Rattle.names.specs.Entry.{entry_name}
use Rattle.script_listing.proofs.put_name.Goals as goal

pub returns : goal.returns
unfolding entry_name
returns c = let k = c.name_length-k in put_same _ _ _ _ _ _ (name_text_lem _ _ (cut c.args.entry.now 2 k.result ∙ ap (λ (j : ℕ). part c.args.entry.now 2 j) k.ensures.0)) (put_on _ _ _ _ _ _ _ _ (put_on _ _ _ _ _ _ _ _ c.put-a.ensures c.put-b.ensures) c.put.ensures)

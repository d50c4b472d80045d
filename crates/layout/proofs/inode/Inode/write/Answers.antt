use mathlib.Core.Path.{ap, ◌∙◌}
use mathlib.Core.List.{List}
use Prim.Native.Nat.{ℕ}
use Rattle.layout.specs.Inode.{put_addresses}
use Rattle.layout.proofs.InodeLaws.{addresses_put}
use Rattle.layout.specs.Inode.{put_inode, put_addresses}
use Rattle.layout.proofs.inode.Inode.write.Goals as goal

pub returns : goal.returns
unfolding put_inode
returns c = let a = c.args in c.put_words.ensures ∙ addresses_put _ a.n a.i _ a.self.addresses c.address_at.ensures ∙ ap (λ (t : List ℕ). put_addresses t a.n a.i a.self.addresses) c.write_attributes.ensures

use Rattle.std.proofs.Common.{◌≡◌, ◌∙◌, rules}
use Rattle.std.specs.List.{fold}
use Rattle.checksum.specs.Checksum.{basis, mixed}
use Rattle.checksum.proofs.ChecksumLaws.{fold-checksum}
use Rattle.checksum.proofs.checksum.Goals as goal

pub returns : goal.returns
unfolding mixed
returns c = let q : c.fold.result ≡ fold mixed basis c.args.s.now = search rules in q ∙ fold-checksum c.args.s.now

use Rattle.std.proofs.Common.{◌≡◌, rules}
use Rattle.std.proofs.lemmas.Iterator.{IsFirst-from_position, YieldsList-from_slice}
use Rattle.octets.specs.Octets.{part}
use Rattle.script_listing.proofs.LengthLaws.{name_length_is}
use Rattle.script_listing.proofs.name_length.Goals as goal

pub returns : goal.returns
unfolding part
returns c = rw (c.unwrap_or.ensures) (name_length_is c.args.entry.now c.requires _ (IsFirst-from_position _ _ c.position.result (λ b. b ≡ 0) (λ b. b ≡ 0 → ⊥) c.position.ensures.ran (YieldsList-from_slice (part c.args.entry.now 2 14) (search rules)) (λ x q k. search rules) (λ x q k. (search rules, search rules))))

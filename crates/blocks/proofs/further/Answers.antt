use native.Mathlib.Omega.{arith}
use Prim.Native.Nat.{ℕ, ◌+◌, ◌*◌}
use Rattle.octets.specs.Octets.{num_at}
use mathlib.Core.Path.{sym, ap, ◌∙◌}
use Rattle.blocks.proofs.KthLaws.{further_some}
use Rattle.blocks.proofs.further.Goals as goal

pub returns : goal.returns
returns c = c.get_16.ensures ∙ ap (λ (o : ℕ). num_at 2 c.args.s.now (o + 2 * c.args.j)) c.block_at.ensures ∙ sym (further_some c.args.s.now c.args.n c.args.a c.args.j (λ z. omega arith))

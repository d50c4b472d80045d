use Prim.Native.Nat.{ℕ, ◌*◌}
use mathlib.Core.Path.{◌≡◌, ap, ap₂, ◌∙◌}
use lib.Bits.{bit_xor}
use lib.Dec.{eqb}
use Rattle.octets.specs.Flags.{flags}
use Rattle.octets.proofs.FlagLaws.{every, every_ones, without_is}
use borrow.Author.Rules.{rules}
use Rattle.octets.proofs.without.Goals as goal

pub returns : goal.returns
returns c =
    let a = c.args in
    let y : c.from.result ≡ a.x = c.from.ensures in
    ap (λ (r : ℕ). eqb r (every 128 8))
    (c.nonzero.ensures ∙ ap (flags 8) (ap₂ bit_xor c.get_64.ensures (ap (λ (z : ℕ). 72340172838076673 * z) y ∙ every_ones a.x)))
    ∙ without_is a.s.now a.x (λ i. (c.type_inv.s i).fits) (search rules) 8 a.o

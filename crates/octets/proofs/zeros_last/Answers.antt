use Prim.Native.Nat.{ℕ, ◌+◌}
use mathlib.Core.Path.{ap, ap₂, ◌∙◌}
use lib.Bits.{bit_or}
use lib.Dec.{eqb}
use Rattle.octets.specs.Flags.{flags}
use Rattle.octets.proofs.FlagLaws.{zeros_are}
use Rattle.octets.proofs.zeros_last.Goals as goal

pub returns : goal.returns
returns c =
    let a = c.args in
    let e = c.nonzero-a.ensures ∙ ap (flags 8) c.get_64.ensures in
    ap₂ (λ (x y : ℕ). eqb (bit_or x y) x) e (c.nonzero.ensures ∙ ap (flags 8) c.get_64-2.ensures)
    ∙ zeros_are a.s.now (λ i. (c.type_inv.s i).fits) 8 a.o (a.o + 1)

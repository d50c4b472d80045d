use Prim.Native.Nat.{◌≤◌}
use mathlib.Core.Path.{◌≡◌, ◌∙◌}
use native.Mathlib.Omega.{arith}
use Rattle.blocks.specs.Block.{is_long, address_block}
use Rattle.image.proofs.FitLaws.{entries_bare}
use Rattle.bursts.proofs.KeptLaws.{twelfth, maps_bare}
use Rattle.bursts.proofs.kept.may_hold.Goals as goal

pub returns-then-a-lt1 : goal.returns-then-a-lt1
returns-then-a-lt1 c =
    let a = c.args in
    let u = c.kth_block-a.ensures ∙ twelfth a.m.now a.n a.i in
    let e : address_block a.m.now a.n a.i ≡ 0 = omega arith in
    (entries_bare (is_long a.s.now a.i) a.m.now a.n a.b a.i e, λ _ k. maps_bare a.s.now a.m.now a.n a.i e _ k)

pub further_fit-requires : goal.further_fit-requires
further_fit-requires c =
    let a = c.args in
    let p = c.requires in
    let e = c.kth_block-a.ensures ∙ twelfth a.m.now a.n a.i in
    let u : address_block a.m.now a.n a.i ≤ a.b = p.2 in
    (p.0, p.1, e, omega arith, omega arith)

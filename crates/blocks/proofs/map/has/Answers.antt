use Prim.Native.Nat.{◌+◌, ◌*◌, ◌-◌, ◌/◌, ◌%◌}
use mathlib.Core.Path.{◌≡◌, ap, ◌∙◌}
use native.Mathlib.Omega.{arith}
use Rattle.blocks.specs.Map.{map_words, has_block}
use Rattle.blocks.proofs.map.has.Goals as goal

pub returns : goal.returns
returns c =
    let a = c.args in
    let e : map_words * ((a.b - 1) / map_words) + (a.b - 1) % map_words + 1 ≡ a.b = omega (arith, c.requires.0) in
    c.has_in.ensures ∙ ap (has_block a.map.now) e

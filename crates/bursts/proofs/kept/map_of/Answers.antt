use mathlib.Core.Path.{sym}
use Rattle.bursts.proofs.KeptLaws.{rows_alike, maps_alike, locked_told}
use Rattle.bursts.proofs.kept.map_of.Goals as goal

pub named_blocks-requires : goal.named_blocks-requires
named_blocks-requires c =
    let a = c.args in
    rows_alike _ _ a.m.now a.n (locked_told a.s.now a.m.now a.l _ c.locked_long.ensures) c.requires.0

pub returns : goal.returns
returns c =
    let a = c.args in
    maps_alike _ _ a.m.now a.n (λ i l. sym (locked_told a.s.now a.m.now a.l _ c.locked_long.ensures i l)) _ c.named_blocks.ensures

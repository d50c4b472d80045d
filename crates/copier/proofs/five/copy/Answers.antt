use Prim.Native.Nat.{ℕ}
use mathlib.Core.Path.{sym, ap, ◌∙◌}
use mathlib.Core.List.{List}
use native.Mathlib.Omega.{arith}
use Rattle.blocks.specs.Block.{put_kth}
use Rattle.desk.specs.Next.{copying_one}
use Rattle.transfer.proofs.BlockLaws.{block_put, block_long}
use Rattle.copier.proofs.FiveLaws.{copy_done, locked_few, address_fits, further_fits}
use Rattle.copier.proofs.five.copy.Goals as goal

pub put_kth-requires : goal.put_kth-requires
put_kth-requires c =
    let a = c.args in
    let l = c.requires.1 in
    let t = c.requires.3 in
    let o = c.block_at-o in
    let w = block_put l.store a.h.locked l.low l.high a.h.transferred c.requires.2 a.m.now a.d.now a.c o.result _ o.ensures (omega (arith, o.ensures, t.block.low, t.block.inside)) c.copy_block.ensures in
    let v = block_long l.store a.h.locked l.low l.high a.h.transferred c.requires.2 a.d.now in
    (address_fits t l.low l.high _ _ v w, locked_few l c.requires.2, further_fits t l.low l.high _ _ v w)

-- what is read is the header that came in
pub copied_one_more-grown-requires : goal.copied_one_more-grown-requires
copied_one_more-grown-requires c =
    let w = locked_few c.requires.1 c.requires.2 in
    rw (c.read.ensures ∙ sym c.requires.0.read) (omega arith, c.requires.0.steps)

pub returns : goal.returns
returns c =
    let a = c.args in
    let l = c.requires.1 in
    let t = c.requires.3 in
    let o = c.block_at-o in
    let w = block_put l.store a.h.locked l.low l.high a.h.transferred c.requires.2 a.m.now a.d.now a.c o.result _ o.ensures (omega (arith, o.ensures, t.block.low, t.block.inside)) c.copy_block.ensures in
    copy_done a.d.now a.h _ c.requires.0.read a.m.now a.n _ a.s.now _ a.c (c.put_kth.ensures ∙ ap (λ (x : List ℕ). put_kth x a.n a.h.locked a.h.transferred a.c) w) (c.copied_one_more-grown.ensures ∙ ap copying_one (c.read.ensures ∙ sym c.requires.0.read)) c.write.ensures

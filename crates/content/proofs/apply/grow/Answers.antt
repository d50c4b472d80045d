use Prim.Native.Nat.{ℕ}
use mathlib.Core.Path.{◌≡◌, refl, ap, ◌∙◌}
use native.Mathlib.Omega.{arith}
use lib.ListN.{length}
use Rattle.bounded.specs.Table.{table}
use Rattle.layout.specs.Inode.{size_of}
use Rattle.blocks.specs.Block.{blocks_used, kth_block}
use Rattle.blocks.specs.Free.{block_free}
use Rattle.blocks.proofs.ViewLaws.{inode_fits}
use Rattle.ledger.specs.Change.{grown}
use Rattle.ledger.specs.Nth.{nth_free}
use Rattle.ledger.proofs.BytesLaws.{used_limits}
use Rattle.layout.proofs.KindLaws.{kind_some, kind_most}
use Rattle.preservation.proofs.StoreLaws.{kind_fits}
use Rattle.preservation.proofs.FreeLaws.{few_free_blocks}
use Rattle.content.proofs.RowLaws.{grown_row}
use Rattle.content.proofs.TakeLaws.{length_zeros}
use Rattle.content.proofs.CodeLaws.{length_blocks, grown_address, grow_header, grow_done}
use borrow.Author.Rules.{rules}
use Rattle.content.proofs.apply.grow.Goals as goal

pub size-requires : goal.size-requires
size-requires c = let p = c.requires.sound_store in kind_fits p.0 _ _ p.1

pub taken_row-row-requires : goal.taken_row-row-requires
taken_row-row-requires c =
    let p = c.requires.sound_store in
    let q = c.requires.le_m in
    let e = (let h : c.blocks_used-used.result ≡ blocks_used (size_of c.args.s.now c.args.i) = c.blocks_used-used.ensures ∙ ap blocks_used c.size.ensures in h) in
    let x = q.1 in
    let y = q.2 in
    let w = (used_limits _).0 p.3 in
    (p.0, kind_some _ _ _ _ p.1, kind_most _ _ _ _ p.1, e, omega arith, y)

pub put_blocks-requires : goal.put_blocks-requires
put_blocks-requires c =
    let p = c.requires.sound_store in
    let q = c.requires.le_m in
    let l = ap length c.taken_row-row.ensures.0 ∙ length_zeros _ _ _ _ in (
      inode_fits _ _ _ _ l (kind_fits p.0 _ _ p.1),
      p.3,
      λ w. let a = grown_address p.0 _ (kind_some _ _ _ _ p.1) (kind_most _ _ _ _ p.1) _ _ q.1 q.2 w _ ((let h : let a = c.args in let s = a.s.now in c.row_across.result ≡ table (grown (kth_block s a.n a.i) (blocks_used (size_of s a.i)) a.m (nth_free (block_free s a.n) a.b)) 44 = let a = c.args in let s = a.s.now in grown_row (kth_block s a.n a.i) (nth_free (block_free s a.n) a.b) _ a.m c.requires.le_m.0 _ refl _ _ c.taken_row-row.ensures.1 c.row_across.ensures ∙ ap (λ (k : ℕ). table (grown (kth_block s a.n a.i) k a.m (nth_free (block_free s a.n) a.b)) 44) ((let h : c.blocks_used-used.result ≡ blocks_used (size_of c.args.s.now c.args.i) = c.blocks_used-used.ensures ∙ ap blocks_used c.size.ensures in h)) in h)) in let x = a.2 in (a.0, a.1, omega arith),
    )

pub overflow_cast-m : goal.overflow_cast-m
overflow_cast-m c = let y = c.requires.le_m.2 in let w = few_free_blocks _ c.requires.sound_store.0.sound in search rules

pub less_free-requires : goal.less_free-requires
less_free-requires c =
    let p = c.requires.sound_store in
    let f = (kind_fits p.0 _ _ p.1).area in
    let h = grow_header _ _ _ _ _ _ _ _ _ c.taken_row-row.ensures.0 c.put_blocks.ensures in
    let l = ap length c.put_blocks.ensures ∙ length_blocks _ _ _ _ _ ∙ ap length c.taken_row-row.ensures.0 ∙ length_zeros _ _ _ _ in
    (omega arith, omega arith, rw h c.requires.le_m.2)

pub returns : goal.returns
returns c = grow_done _ _ _ _ _ _ _ _ _ _ c.taken_row-row.ensures.0 ((let h : let a = c.args in let s = a.s.now in c.row_across.result ≡ table (grown (kth_block s a.n a.i) (blocks_used (size_of s a.i)) a.m (nth_free (block_free s a.n) a.b)) 44 = let a = c.args in let s = a.s.now in grown_row (kth_block s a.n a.i) (nth_free (block_free s a.n) a.b) _ a.m c.requires.le_m.0 _ refl _ _ c.taken_row-row.ensures.1 c.row_across.ensures ∙ ap (λ (k : ℕ). table (grown (kth_block s a.n a.i) k a.m (nth_free (block_free s a.n) a.b)) 44) ((let h : c.blocks_used-used.result ≡ blocks_used (size_of c.args.s.now c.args.i) = c.blocks_used-used.ensures ∙ ap blocks_used c.size.ensures in h)) in h)) c.put_blocks.ensures c.less_free.ensures

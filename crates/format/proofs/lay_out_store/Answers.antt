use Rattle.std.specs.Prelude.{Ok}
use mathlib.Core.Path.{ap, ap₂}
use mathlib.Core.List.{List}
use Rattle.layout.specs.declared.inode.Inode.{Inode}
use Rattle.layout.specs.Header.{put_header}
use Rattle.layout.specs.Inode.{put_inode}
use Rattle.blocks.proofs.AllowedLaws.{allowed_is}
use Rattle.format.specs.Format.{laid_out, empty_root}
use Prim.Native.Nat.{ℕ}
use mathlib.Core.Path.{sym, ◌∙◌}
use native.Mathlib.Omega.{arith}
use Rattle.format.proofs.FormatLaws.{store_refused, store_done}
use Rattle.format.proofs.lay_out_store.Goals as goal

pub returns-then-not-allowed : goal.returns-then-not-allowed
returns-then-not-allowed c = store_refused _ _ _ (sym c.allowed.ensures ∙ c.if-not-allowed.true)

pub fresh_header-requires : goal.fresh_header-requires
fresh_header-requires c = let r = (allowed_is _ _ _ _).to (sym c.allowed.ensures ∙ c.if-not-allowed.false) in (r.some_inodes, r.most_inodes_lem, r.most_blocks_lem)

pub write-requires : goal.write-requires
write-requires c = let r = (allowed_is _ _ _ _).to (sym c.allowed.ensures ∙ c.if-not-allowed.false) in let l = r.long in omega arith

pub write-requires-2 : goal.write-requires-2
write-requires-2 c = let r = (allowed_is _ _ _ _).to (sym c.allowed.ensures ∙ c.if-not-allowed.false) in let l = r.long in record { low = omega arith; high = r.some_inodes; few = r.most_inodes_lem; area = omega arith }

pub returns : goal.returns
unfolding empty_root
returns c = let a = c.args in
    ap (laid_out (Ok 0))
    (c.write-2.ensures
    ∙ ap₂ (λ (t : List ℕ) (v : Inode). put_inode t a.inodes 1 v) (c.write.ensures ∙ ap₂ put_header c.zero_range.ensures c.fresh_header.ensures) c.empty.ensures)
    ∙ store_done a.buffer.now a.inodes a.blocks (sym c.allowed.ensures ∙ c.if-not-allowed.false)

use Prim.Native.Nat.{ℕ, ◌≤◌}
use mathlib.Core.List.{List}
use Rattle.content.specs.Fits.{FileFits}
use mathlib.Core.Path.{◌≡◌, ap, ◌∙◌}
use native.Mathlib.Omega.{arith}
use Rattle.layout.specs.Header.{header_of}
use Rattle.layout.specs.Inode.{size_of}
use Rattle.blocks.specs.Block.{blocks_used}
use Rattle.preservation.proofs.StoreLaws.{blocks_of_lem}
use Rattle.preservation.proofs.FreeLaws.{few_free_inodes, few_free_blocks}
use Rattle.ledger.proofs.BytesLaws.{used_up}
use Rattle.content.proofs.ReadLaws.{fits_holds, fits_inode, fits_most}
use Rattle.content.proofs.CodeLaws.{header_blocks, kept_address, crosses_more, cut_done}
use borrow.Author.Rules.{rules}
use Rattle.content.proofs.apply.cut_blocks.Goals as goal

-- u blocks stay of the v that the file has
few : {s : List ℕ} {n i z u v : ℕ} → FileFits s n i z → u ≡ blocks_used z → v ≡ blocks_used (size_of s i) → (u ≤ v) × (v ≤ 44)
few f d e =
    let h = fits_holds f in
    let y = used_up _ _ f.size in
    let w = (blocks_of_lem f.sound _ h.low h.high).few in
    (omega arith, omega arith)

pub blocks_used-kept-requires : goal.blocks_used-kept-requires
blocks_used-kept-requires c = let m = fits_most c.requires in omega arith

pub size-requires : goal.size-requires
size-requires c = fits_inode c.requires

pub overflow_sub-freed : goal.overflow_sub-freed
overflow_sub-freed c = (few c.requires c.blocks_used-kept.ensures (c.blocks_used.ensures ∙ ap blocks_used c.size.ensures)).0

pub crosses_down-crosses-requires : goal.crosses_down-crosses-requires
crosses_down-crosses-requires c = fits_inode c.requires

pub kept_row-row-requires : goal.kept_row-row-requires
kept_row-row-requires c = let f = c.requires in let h = fits_holds f in let w = (few c.requires c.blocks_used-kept.ensures (c.blocks_used.ensures ∙ ap blocks_used c.size.ensures)).0 in let e = (c.blocks_used.ensures ∙ ap blocks_used c.size.ensures) in (f.sound, h.low, h.high, omega arith, crosses_more _ _ c.args.z _ c.crosses_down-crosses.ensures)

pub put_blocks-requires : goal.put_blocks-requires
put_blocks-requires c = let f = c.requires in let h = fits_holds f in (fits_inode f, fits_most f, λ q. kept_address f.sound _ h.low h.high _ f.size q _ _ _ c.crosses_down-crosses.ensures c.blocks_used-kept.ensures c.kept_row-row.ensures)

pub overflow_cast-freed : goal.overflow_cast-freed
overflow_cast-freed c = let w = (few c.requires c.blocks_used-kept.ensures (c.blocks_used.ensures ∙ ap blocks_used c.size.ensures)).1 in search rules

pub more_free-requires : goal.more_free-requires
more_free-requires c = let f = c.requires in let w = (few c.requires c.blocks_used-kept.ensures (c.blocks_used.ensures ∙ ap blocks_used c.size.ensures)).1 in let h = ap header_of c.put_blocks.ensures ∙ header_blocks _ _ _ _ _ in let a = few_free_blocks _ f.sound.sound in let d = few_free_inodes _ f.sound.sound in let g = (fits_inode f).area in (search rules, rw h (omega arith), rw h (omega arith))

pub returns : goal.returns
returns c = cut_done _ _ _ _ _ _ _ _ _ _ c.blocks_used-kept.ensures (c.blocks_used.ensures ∙ ap blocks_used c.size.ensures) c.crosses_down-crosses.ensures c.kept_row-row.ensures c.put_blocks.ensures c.more_free.ensures

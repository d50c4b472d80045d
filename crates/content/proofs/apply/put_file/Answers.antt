use Prim.Native.Nat.{ℕ, ◌+◌, ◌≤◌}
use mathlib.Core.Path.{refl, sym, ap, ◌∙◌, subst}
use mathlib.Core.List.{List}
use native.Mathlib.Omega.{arith}
use lib.ListN.{length}
use Rattle.octets.proofs.PartLaws.{length_copied}
use Rattle.blocks.specs.Block.{is_long}
use Rattle.content.specs.Fits.{FileFits}
use Rattle.content.proofs.ReadLaws.{fits_inode, fits_most, byte_in, byte_inside}
use Rattle.content.proofs.PutLaws.{put_begin, put_turn, put_end, put_fits, put_long}
use borrow.Author.Rules.{rules}
use Rattle.content.proofs.apply.put_file.Goals as goal

pub is_long-long-requires : goal.is_long-long-requires
is_long-long-requires c = fits_inode c.requires

pub loop-j-init : goal.loop-j-init
loop-j-init c = (omega arith, put_begin _ _ _ _ _, refl)

pub overflow_add-o : goal.overflow_add-o
overflow_add-o c = let m = fits_most c.requires in search rules

pub overflow_add-o-in-loop-j : goal.overflow_add-o-in-loop-j
overflow_add-o-in-loop-j c = let m = fits_most c.requires in search rules

pub byte_at-p-requires : goal.byte_at-p-requires
byte_at-p-requires c =
    let f = c.requires in
    let l = c.loop-j in
    let d : l.j ≤ length c.args.xs.now = l.invariant.0 in
    (byte_in ((let h : let a = c.args in FileFits c.loop-j.s a.n a.i (a.o + length a.xs.now) = let l = c.loop-j in let a = c.args in subst (λ (t : List ℕ). FileFits t a.n a.i (a.o + length a.xs.now)) (sym l.invariant.1) (put_fits _ _ _ _ _ c.requires l.j l.invariant.0) in h)) _ (omega arith), c.is_long-long.ensures ∙ sym (put_long _ _ _ _ _ f l.j d) ∙ ap (λ (t : List ℕ). is_long t c.args.i) (sym l.invariant.1))

pub copy_range-requires : goal.copy_range-requires
copy_range-requires c =
    let a = c.args in
    let e = c.byte_at-p.ensures in
    let r = c.run-count.ensures in
    let l = c.loop-j in
    ((let w = byte_inside ((let h : let a = c.args in FileFits c.loop-j.s a.n a.i (a.o + length a.xs.now) = let l = c.loop-j in let a = c.args in subst (λ (t : List ℕ). FileFits t a.n a.i (a.o + length a.xs.now)) (sym l.invariant.1) (put_fits _ _ _ _ _ c.requires l.j l.invariant.0) in h)) (a.o + l.j) (omega arith) c.run-count.result (omega arith) in omega arith), omega arith)

pub loop-j-preserved : goal.loop-j-preserved
loop-j-preserved c =
    let l = c.loop-j in
    let r = c.run-count.ensures in
    let e = c.byte_at-p.ensures in
    let q = c.copy_range.ensures in
    (omega arith, q ∙ rw (e, l.invariant.1) (put_turn _ _ _ _ _ c.requires l.j l.invariant.0 _ (omega arith) (omega arith)), ap length q ∙ length_copied _ _ _ _ _ ∙ l.invariant.2)

pub returns : goal.returns
returns c = c.loop-j.invariant.1 ∙ put_end _ _ _ _ _ _ (omega arith)

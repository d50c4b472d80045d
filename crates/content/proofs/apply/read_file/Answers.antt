use Prim.Native.Nat.{ℕ, ◌+◌, ◌≤◌}
use mathlib.Core.Path.{◌≡◌, refl, ap, ◌∙◌}
use native.Mathlib.Omega.{arith}
use mathlib.Core.Bool.{true}
use mathlib.Core.List.{List}
use lib.ListN.{length}
use Rattle.layout.specs.Inode.{size_of, is_file}
use Rattle.sound.specs.Sound.{blocks_in}
use Rattle.sound.specs.Counted.{SoundStore}
use Rattle.octets.proofs.PartLaws.{length_copied}
use Rattle.content.specs.Fits.{FileFits}
use Rattle.content.proofs.ReadLaws.{fits_inode, fits_most, byte_inside, read_begin, read_turn}
use borrow.Author.Rules.{rules}
use Rattle.content.proofs.apply.read_file.Goals as goal

-- the bytes that are read are the file's
fits_is : {s : List ℕ} {n i l : ℕ} (o k : ℕ) → SoundStore s n (blocks_in s) × (is_file s n i ≡ true) × (o + k ≤ size_of s i) × (k ≤ l) → FileFits s n i (o + k)
fits_is _ _ p = record { sound = p.0; file = p.1; size = p.2 }

pub is_long-long-requires : goal.is_long-long-requires
is_long-long-requires c = fits_inode (fits_is c.args.o c.args.k c.requires)

pub loop-j-init : goal.loop-j-init
loop-j-init c = (omega arith, read_begin _ _ _ _ _, refl)

pub overflow_add-o : goal.overflow_add-o
overflow_add-o c = let m = fits_most (fits_is c.args.o c.args.k c.requires) in search rules

pub overflow_add-o-in-loop-j : goal.overflow_add-o-in-loop-j
overflow_add-o-in-loop-j c = let m = fits_most (fits_is c.args.o c.args.k c.requires) in search rules

pub copy_range-requires : goal.copy_range-requires
copy_range-requires c =
    let a = c.args in
    let e = c.byte_at.ensures in
    let r = c.run-count.ensures in
    let j = c.loop-j in
    let q = j.invariant.2 in
    (omega arith, (let w = byte_inside (fits_is c.args.o c.args.k c.requires) (a.o + j.j) (omega arith) c.run-count.result (omega arith) in omega arith))

pub loop-j-preserved : goal.loop-j-preserved
loop-j-preserved c =
    let a = c.args in
    let j = c.loop-j in
    let m = c.run-count.result in
    let r = c.run-count.ensures in
    let e = c.byte_at.ensures in
    let f = byte_inside (fits_is c.args.o c.args.k c.requires) (a.o + j.j) (omega arith) m (omega arith) in
    (omega arith, c.copy_range.ensures ∙ rw (j.invariant.1, e) (read_turn _ _ _ _ _ _ _ (omega arith) f), ap length c.copy_range.ensures ∙ length_copied _ _ _ _ _ ∙ j.invariant.2)

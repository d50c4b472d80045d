-- What a write or a shortening of file i leaves as it was: every other inode, with the bytes of its blocks. n is the inode count.
use Prim.Native.Nat.{ℕ, ◌≤◌, ◌<◌}
use mathlib.Core.Path.{◌≡◌, refl, sym, ap, ◌∙◌, subst}
use mathlib.Core.Logic.{◌≢◌}
use mathlib.Core.List.{List}
use native.Mathlib.Omega.{arith}
use Rattle.layout.specs.Sizes.{most_blocks}
use Rattle.layout.specs.Inode.{kind_of, links_of, size_of, parent_of}
use Rattle.blocks.specs.Block.{block_of, blocks_used, kth_block}
use Rattle.preservation.proofs.SameLaws.{OtherInodes, SameFrame, SameBlock, frame_then, frame_stays, inode_then, inode_stays}

-- file i alone changes, and is of z bytes then
pub record InFile (s t : List ℕ) (n i z : ℕ) : Type 0 where
  pub frame : SameFrame s t
  pub others : OtherInodes s t n i
  pub kind : kind_of t i ≡ kind_of s i
  pub links : links_of t i ≡ links_of s i
  pub parent : parent_of t i ≡ parent_of s i
  pub size : size_of t i ≡ z
  pub bytes : (j u : ℕ) → 1 ≤ j → j ≤ n → j ≢ i → u < blocks_used (size_of s j) → SameBlock s t n (kth_block s n j u)

pub file_stays : (s : List ℕ) (n i : ℕ) → InFile s s n i (size_of s i)
file_stays s n i = record { frame = frame_stays s; others = λ j _ _ _. inode_stays s n j; kind = refl; links = refl; parent = refl; size = refl; bytes = λ j u _ _ _ _. refl }

-- one after the other, where no inode has more blocks than there are places
pub file_then : {s t r : List ℕ} {n i y z : ℕ} → ((j : ℕ) → 1 ≤ j → j ≤ n → blocks_used (size_of s j) ≤ most_blocks) → InFile s t n i y → InFile t r n i z → InFile s r n i z
file_then {s} {t} {r} {n} few a b = record {
  frame = frame_then a.frame b.frame;
  others = λ j l m q. inode_then (a.others j l m q) (b.others j l m q);
  kind = b.kind ∙ a.kind;
  links = b.links ∙ a.links;
  parent = b.parent ∙ a.parent;
  size = b.size;
  bytes = λ j u l m q w.
      let f = few j l m in
      let e : kth_block t n j u ≡ kth_block s n j u = (a.others j l m q).blocks u (omega arith) in
      ap (block_of r n) (sym e) ∙ b.bytes j u l m q (subst (λ (x : ℕ). u < blocks_used x) (sym (a.others j l m q).size) w) ∙ ap (block_of t n) e ∙ a.bytes j u l m q w;
}
